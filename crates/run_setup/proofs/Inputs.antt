-- What was taken of the settings and of both captures.
use Rattle.std.proofs.Common.{◌≡◌, ℕ, ◌+◌, ◌≤◌, List, Result, Ok, Err, Some, None, IfSome, length, take, refl, sym, ap, ◌∙◌, arith, drop-drop, length-take}
use Rattle.gate_desk.specs.declared.slot.Slot.TheVariants.{Settings, LeftIn, RightIn}
use Rattle.gate_desk.specs.Outside.{Outside, Trace, AreUpTo, Takes, took, told_at}
use Rattle.gate_desk.proofs.Laws.{took-none}
use Rattle.pcap_merge.specs.declared.stop.MergeStop.{MergeStop}
use Rattle.pcap_merge.specs.declared.stop.MergeStop.TheVariants as merges
use Rattle.pcap_merge.specs.Prelude.{Merging, Begins, Reads}
use Rattle.run_setup.specs.Prelude.{TookCaptures, TookInputs}
use Rattle.run_setup.specs.Beginning.{TookSettings}

-- ## The settings

pub settings_none : (a b : Outside) → b.left ≡ a.left → TookSettings a b
settings_none a b e = (0, omega arith, e ∙ sym (took-none Settings a.left))

pub settings_taken : (n : ℕ) (a b c : Outside) → b.left ≡ a.left → Takes Settings n b c → n ≤ 1048577 → TookSettings a c
settings_taken n a b c e t few = (n, few, t.left ∙ ap (took Settings n) e)

-- where they are told, a text of them is no longer than they may be and one octet, and else any count will do
text_taken : (most : ℕ) (text : List ℕ) (t : Trace) → IfSome (told_at t Settings) (λ all. text ≡ take most all) → (count : ℕ) × (count ≤ most)
    × (took Settings (length text) t ≡ took Settings count t)
unfolding told_at took
text_taken most text None h = (0, omega arith, refl)
text_taken most text (Some p) h = (length text, omega (arith, ap (λ (xs : List ℕ). length xs) h, length-take most p.settings), refl)

pub settings_text : (text : List ℕ) (a b c : Outside) → b.left ≡ a.left → Takes Settings (length text) b c → AreUpTo 1048577 text b Settings
    → TookSettings a c
settings_text text a b c e t up_to =
    let taken = text_taken 1048577 text b.left up_to in
    (taken.0, taken.1, t.left ∙ taken.2 ∙ ap (took Settings taken.0) e)

-- ## Both captures

pub captures_none : (a b : Outside) → b.left ≡ a.left → TookCaptures a b
captures_none a b e = record { left_count = 0; right_count = 0; left = e ∙ sym (took-none RightIn (took LeftIn 0 a.left) ∙ took-none LeftIn a.left) }

captures_more : (l r l' r' : ℕ) (t : Trace)
    → took RightIn r' (took LeftIn l' (took RightIn r (took LeftIn l t))) ≡ took RightIn (r + r') (took LeftIn (l + l') t)
unfolding took
captures_more l r l' r' None = refl
captures_more l r l' r' (Some p) = ap Some (rw (drop-drop l' l p.left_in, drop-drop r' r p.right_in) refl)

pub captures_read : (a b c : Outside) → TookCaptures a b → Reads b c → TookCaptures a c
captures_read a b c h k = record {
  left_count = h.left_count + k.left_count;
  right_count = h.right_count + k.right_count;
  left = k.left ∙ ap (λ (t : Trace). took RightIn k.right_count (took LeftIn k.left_count t)) h.left
      ∙ captures_more h.left_count h.right_count k.left_count k.right_count a.left;
}

-- nothing was read any more
pub captures_later : (a b c : Outside) → c.left ≡ b.left → TookCaptures a b → TookCaptures a c
captures_later a b c e h = record { left_count = h.left_count; right_count = h.right_count; left = e ∙ h.left }

heads_read : (r : Result Merging MergeStop) (a b : Outside) → Begins r a b → Reads a b
heads_read (Ok m) a b h = h.reads
heads_read (Err (merges.Fault side f place)) a b h = h.0
heads_read (Err (merges.Desk slot)) a b h = h.3.0
heads_read (Err merges.OutOfMemory) a b h = h.0

-- the heads alone were read
pub captures_heads : (r : Result Merging MergeStop) (a b c : Outside) → b.left ≡ a.left → Begins r b c → TookCaptures a c
captures_heads r a b c e h = captures_read a b c (captures_none a b e) (heads_read r b c h)

-- ## All

pub inputs_settings : (a b : Outside) → TookSettings a b → TookInputs a b
inputs_settings a b h = record {
  settings_count = h.0;
  few = h.1;
  left_count = 0;
  right_count = 0;
  left = h.2 ∙ sym (took-none RightIn (took LeftIn 0 (took Settings h.0 a.left)) ∙ took-none LeftIn (took Settings h.0 a.left));
}

pub inputs_on : (a b c : Outside) → TookInputs a b → TookCaptures b c → TookInputs a c
inputs_on a b c h k = record {
  settings_count = h.settings_count;
  few = h.few;
  left_count = h.left_count + k.left_count;
  right_count = h.right_count + k.right_count;
  left = k.left ∙ ap (λ (t : Trace). took RightIn k.right_count (took LeftIn k.left_count t)) h.left
      ∙ captures_more h.left_count h.right_count k.left_count k.right_count (took Settings h.settings_count a.left);
}

-- the settings, and then both captures
pub inputs_both : (a b c : Outside) → TookSettings a b → TookCaptures b c → TookInputs a c
inputs_both a b c h k = inputs_on a b c (inputs_settings a b h) k

pub inputs_later : (a b c : Outside) → c.left ≡ b.left → TookInputs a b → TookInputs a c
inputs_later a b c e h =
    record { settings_count = h.settings_count; few = h.few; left_count = h.left_count; right_count = h.right_count; left = e ∙ h.left }
