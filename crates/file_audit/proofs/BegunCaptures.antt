-- The heads of the given captures.
use Rattle.std.proofs.Common.{◌≡◌, ℕ, List, [], ◌++◌, Result, Ok, Err, Option, Some, None, IfSome, drop, refl, sym, ap, subst, ◌∙◌, arith, option_map}
use Rattle.gate_base.specs.declared.side.Link.{Link}
use Rattle.gate_desk.specs.declared.slot.Slot.{Slot}
use Rattle.gate_desk.specs.declared.slot.Slot.TheVariants.{LeftGiven, RightGiven}
use Rattle.gate_desk.specs.declared.slot.PerSlot.{PerSlot}
use Rattle.gate_desk.specs.Outside.{Outside, Trace, Takes, told_at, took}
use Rattle.gate_desk.proofs.Laws.{failed_since, grows_takes, told_at-took_other}
use Rattle.gate_settings.specs.declared.settings.Settings.{Settings}
use Rattle.pcap_files.specs.Prelude.{Good, Records, capture_of, head_of, records_from, Reading}
use Rattle.pcap_files.specs.declared.form.Form.{Form}
use Rattle.pcap_files.proofs.Records.{capture-good}
use Rattle.lawful_files.specs.Prelude.{Given, HasLink, given_of}
use Rattle.gate_base.specs.declared.side.Side.TheVariants.{Left, Right}
use Rattle.file_audit.specs.declared.given.GivenFiles.{GivenFiles}
use Rattle.run_setup.specs.declared.status.Status.{Status}
use Rattle.run_setup.specs.declared.status.Status.TheVariants.{Unlawful, ReadFault, OutOfMemory}
use Rattle.file_audit.specs.Events.{BeginsGiven}
use Rattle.file_audit.specs.Inside.Frames.{BeginsCapture, BeginsWith, StopsCapture}
use Rattle.file_audit.specs.Given.{ReadsGiven, given_told}
use Rattle.file_audit.proofs.TakenFiles.{reads_left, reads_right}

-- ## Reads

head_some : (result : Result Reading Status) (slot : Slot) (link : Link) (old new : Outside) → BeginsCapture result slot link old new → (count : ℕ)
    × Takes slot count old new
head_some (Ok r) slot link old new h = (24, h.takes)
head_some (Err stop) slot link old new h = h.0

pub head_left : (result : Result Reading Status) (link : Link) (old new : Outside) → BeginsCapture result LeftGiven link old new → ReadsGiven old new
head_left result link old new h = let some = head_some result LeftGiven link old new h in reads_left some.0 old new some.1

pub head_right : (result : Result Reading Status) (link : Link) (old new : Outside) → BeginsCapture result RightGiven link old new
    → ReadsGiven old new
head_right result link old new h = let some = head_some result RightGiven link old new h in reads_right some.0 old new some.1

-- ## A head that isn't so

left_bad-of : (settings : Settings) (t : Trace) → IfSome (told_at t LeftGiven) (λ octets. HasLink settings.left.link octets → ⊥)
    → IfSome t (λ all. HasLink settings.left.link all.left_given × HasLink settings.right.link all.right_given → ⊥)
unfolding told_at
left_bad-of settings None h = tt
left_bad-of settings (Some p) h = λ both. h both.0

right_bad-of : (settings : Settings) (t : Trace) → IfSome (told_at t RightGiven) (λ octets. HasLink settings.right.link octets → ⊥)
    → IfSome t (λ all. HasLink settings.left.link all.left_given × HasLink settings.right.link all.right_given → ⊥)
unfolding told_at
right_bad-of settings None h = tt
right_bad-of settings (Some p) h = λ both. h both.1

pub left_fails : (stop : Status) (settings : Settings) (old new : Outside) → StopsCapture stop LeftGiven settings.left.link old new
    → BeginsGiven (Err stop) settings old new
left_fails (Unlawful number reason) settings old new h = (h.0, h.1, left_bad-of settings old.left h.2)
left_fails (ReadFault s) settings old new h = subst (λ (u : Slot). BeginsGiven (Err (ReadFault u)) settings old new) (sym h.0) ((Left, refl), h.1)
left_fails OutOfMemory settings old new h = tt
left_fails stop settings old new h = absurd h

-- what is taken of the left capture leaves the right one
beside_left : (old mid : Outside) → Takes LeftGiven 24 old mid → told_at mid.left RightGiven ≡ told_at old.left RightGiven
beside_left old mid takes = ap (λ (t : Trace). told_at t RightGiven) takes.left ∙ told_at-took_other LeftGiven RightGiven 24 old.left refl

pub right_fails : (stop : Status) (l : Reading) (settings : Settings) (old mid new : Outside) → BeginsWith l LeftGiven settings.left.link old mid
    → StopsCapture stop RightGiven settings.right.link mid new → BeginsGiven (Err stop) settings old new
right_fails (Unlawful number reason) l settings old mid new left h = (
  h.0,
  h.1,
  right_bad-of settings old.left (subst (λ o. IfSome o (λ octets. HasLink settings.right.link octets
      → ⊥)) (beside_left old mid left.takes) h.2),
)
right_fails (ReadFault s) l settings old mid new left h = subst (λ (u : Slot). BeginsGiven (Err (ReadFault u)) settings old new) (sym h.0)
    ((Right, refl), failed_since RightGiven old mid new (grows_takes LeftGiven 24 old mid left.takes) h.1)
right_fails OutOfMemory l settings old mid new left h = tt
right_fails stop l settings old mid new left h = absurd h

-- ## Both heads

links-of : (settings : Settings) (f g : Form) (t : Trace) → f.link ≡ settings.left.link → g.link ≡ settings.right.link
    → IfSome (told_at t LeftGiven) (λ octets. head_of octets ≡ Good f) → IfSome (told_at t RightGiven) (λ octets. head_of octets ≡ Good g)
    → IfSome t (λ all. HasLink settings.left.link all.left_given × HasLink settings.right.link all.right_given)
unfolding told_at
links-of settings f g None l r h k = tt
links-of settings f g (Some p) l r h k = ((f, h, l), (g, k, r))

files-of : (r : GivenFiles) (f g : Form) (t : Trace) → r.left.form ≡ f → r.left.place ≡ 24 → r.right.form ≡ g → r.right.place ≡ 24 → r.report ≡ []
    → IfSome (told_at t LeftGiven) (λ octets. head_of octets ≡ Good f) → IfSome (told_at t RightGiven) (λ octets. head_of octets ≡ Good g)
    → given_told r (took RightGiven 24 (took LeftGiven 24 t)) ≡ option_map
    (λ (all : PerSlot (List ℕ)). given_of all.left_given all.right_given all.report_given) t
unfolding told_at given_told took
files-of r f g None a b c d e h k = refl
files-of r f g (Some p) a b c d e h k =
    let left : records_from r.left.form r.left.place (drop 24 p.left_given) ≡ capture_of p.left_given =
    ap (λ (x : Form). records_from x r.left.place (drop 24 p.left_given)) a ∙ ap (λ (n : ℕ). records_from f n (drop 24 p.left_given)) b
    ∙ sym (capture-good p.left_given f h) in
    let right : records_from r.right.form r.right.place (drop 24 p.right_given) ≡ capture_of p.right_given =
    ap (λ (x : Form). records_from x r.right.place (drop 24 p.right_given)) c ∙ ap (λ (n : ℕ). records_from g n (drop 24 p.right_given)) d
    ∙ sym (capture-good p.right_given g k) in
    let right_now = records_from r.right.form r.right.place (drop 24 p.right_given) in
    ap (λ (x : Records). let y : Option Given = Some (record { left = x; right = right_now; report = r.report ++ p.report_given }) in y) left
    ∙ ap (λ (x : Records). let y : Option Given = Some (record { left = capture_of p.left_given; right = x; report = r.report ++ p.report_given }) in
    y) right
    ∙ ap (λ (xs : List ℕ). let y : Option Given =
    Some (record { left = capture_of p.left_given; right = capture_of p.right_given; report = xs ++ p.report_given }) in y) e

begun : (settings : Settings) (l r : Reading) (f g : Form) (old mid new : Outside)
    → l ≡ record { slot = LeftGiven; form = f; place = 24; packet = None; stop = None }
    → r ≡ record { slot = RightGiven; form = g; place = 24; packet = None; stop = None }
    → f.link ≡ settings.left.link → g.link ≡ settings.right.link → Takes LeftGiven 24 old mid → Takes RightGiven 24 mid new
    → IfSome (told_at old.left LeftGiven) (λ octets. head_of octets ≡ Good f)
    → IfSome (told_at mid.left RightGiven) (λ octets. head_of octets ≡ Good g)
    → BeginsGiven (Ok (record { left = l; right = r; report = [] })) settings old new
begun settings l r f g old mid new is also a b takes more head other =
    let files : GivenFiles = record { left = l; right = r; report = [] } in
    let second = subst (λ o. IfSome o (λ octets. head_of octets ≡ Good g)) (beside_left old mid takes) other in
    let left_place : l.place ≡ 24 = ap (λ (x : Reading). x.place) is in
    let right_place : r.place ≡ 24 = ap (λ (x : Reading). x.place) also in (
      record {
        left_slot = ap (λ (x : Reading). x.slot) is;
        right_slot = ap (λ (x : Reading). x.slot) also;
        left = ap (λ (x : Reading). x.stop) is;
        right = ap (λ (x : Reading). x.stop) also;
      },
      record {
        left = omega arith;
        right = omega arith;
        left_place = omega (arith, left_place);
        right_place = omega (arith, right_place);
        passed =
            omega arith;
        refused = omega arith;
      },
      links-of settings f g old.left a b head second,
      ap (given_told files) (more.left ∙ ap (took RightGiven 24) takes.left)
          ∙ files-of files f g old.left (ap (λ (x : Reading). x.form) is) left_place (ap (λ (x : Reading). x.form) also) right_place refl head second,
    )

pub both_begin : (settings : Settings) (l r : Reading) (report : List ℕ) (old mid new : Outside) → report ≡ []
    → BeginsWith l LeftGiven settings.left.link old mid → BeginsWith r RightGiven settings.right.link mid new
    → BeginsGiven (Ok (record { left = l; right = r; report = report })) settings old new
both_begin settings l r report old mid new none h k =
    subst (λ (xs : List ℕ). BeginsGiven (Ok (record { left = l; right = r; report = xs })) settings old new) (sym none)
    (begun settings l r h.form k.form old mid new h.reading k.reading h.link_is k.link_is h.takes k.takes h.head k.head)
