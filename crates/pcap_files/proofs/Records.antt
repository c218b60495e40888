-- How the records of a capture go on.
use Rattle.std.proofs.Common.{◌≡◌, ℕ, zero, suc, ◌+◌, ◌<◌, List, [], ◌∷◌, Bool, true, false, cond, ◌==◌, drop, length, refl, sym, ap, ◌∙◌, arith, length-drop}
use Rattle.std.proofs.lemmas.Bool.Decides.{nat_tests}
use Rattle.pcap_files.specs.declared.fault.CaptureFault.{CaptureFault}
use Rattle.pcap_files.specs.declared.form.Form.{Form}
use Rattle.pcap_files.specs.Prelude.{Packet, size, Next, Ended, Broken, Came, tested, record_tests, packet_at, Records, Whole, Fault, Head, Good, head_of}
use Rattle.pcap_files.specs.Capture.{next_at, goes_on, up_to, records_from, by_head, capture_of}

-- no octets are the end
pub nothing_is_ended : (form : Form) (place : ℕ) (octets : List ℕ) → length octets ≡ 0 → next_at form place octets ≡ Ended
unfolding next_at
nothing_is_ended form place octets e = grind (arith, nat_tests)

broken_not_ended : (f : CaptureFault) → Broken f ≡ Ended → ⊥
broken_not_ended f e = cc

tested_not_ended : (tests : List (Bool × CaptureFault)) (p : Packet) → tested tests p ≡ Ended → ⊥
tested_not_ended [] p h = cc
tested_not_ended (t ∷ ts) p h =
    elim t.0 as (λ b. cond b (Broken t.1) (tested ts p) ≡ Ended → ⊥) [ true ↦ λ e. broken_not_ended t.1 e | false ↦ λ e. tested_not_ended ts p e ] h

-- at the end nothing is left
pub ended_is_empty : (form : Form) (place : ℕ) (octets : List ℕ) → next_at form place octets ≡ Ended → length octets ≡ 0
unfolding next_at
ended_is_empty form place octets h =
    elim (length octets == 0) as
    (λ b. (length octets == 0) ≡ b → cond b Ended (tested (record_tests form place octets) (packet_at form octets)) ≡ Ended → length octets ≡ 0) [
      | true ↦ λ e k. grind (arith, nat_tests)
      | false ↦ λ e k. absurd (tested_not_ended (record_tests form place octets) (packet_at form octets) k)
    ] refl h

not_ended : (p : Packet) → Ended ≡ Came p → 0 < 0
not_ended p e = cc

-- a record has octets
pub came_from_some : (form : Form) (place : ℕ) (octets : List ℕ) (p : Packet) (n : ℕ) → n ≡ length octets → next_at form place octets ≡ Came p → 0 < n
came_from_some form place octets p zero e h = not_ended p (sym (nothing_is_ended form place octets (sym e)) ∙ h)
came_from_some form place octets p (suc n) e h = omega arith

same_after : (place : ℕ) (x : Next) (f g : Packet → Records) → ((p : Packet) → x ≡ Came p → f p ≡ g p) → goes_on place x f ≡ goes_on place x g
same_after place Ended f g h = refl
same_after place (Broken e) f g h = refl
same_after place (Came p) f g h = ap (λ (r : Records). let x : Records = record { packets = p ∷ r.packets; ending = r.ending } in x) (h p refl)

-- more steps than octets make no difference
enough : (m n : ℕ) (form : Form) (place : ℕ) (octets : List ℕ) → length octets < m → length octets < n
    → up_to m form place octets ≡ up_to n form place octets
unfolding up_to
enough zero n form place octets h k = absurd (omega arith)
enough (suc m) zero form place octets h k = absurd (omega arith)
enough (suc m) (suc n) form place octets h k =
    same_after place (next_at form place octets) (λ (p : Packet). up_to m form (place + size p) (drop (size p) octets))
    (λ (p : Packet). up_to n form (place + size p) (drop (size p) octets)) (λ p e.
    let some = came_from_some form place octets p (length octets) refl e in
    let shorter = length-drop (size p) octets in
    enough m n form (place + size p) (drop (size p) octets) (omega (arith, shorter, some)) (omega (arith, shorter, some)))

-- a record, and the records behind it
pub records-came : (form : Form) (place : ℕ) (octets : List ℕ) (p : Packet) → next_at form place octets ≡ Came p
    → records_from form place octets
    ≡ record {
      packets = p ∷ (records_from form (place + size p) (drop (size p) octets)).packets;
      ending = (records_from form (place + size p) (drop (size p) octets)).ending;
    }
unfolding records_from up_to
records-came form place octets p e =
    let some = came_from_some form place octets p (length octets) refl e in
    let shorter = length-drop (size p) octets in
    ap (λ (x : Next). goes_on place x (λ (p : Packet). up_to (length octets) form (place + size p) (drop (size p) octets))) e
    ∙ ap (λ (r : Records). let x : Records = record { packets = p ∷ r.packets; ending = r.ending } in x)
    (enough (length octets) (suc (length (drop (size p) octets))) form (place + size p) (drop (size p) octets) (omega (arith, shorter, some))
    (omega arith))

-- no further record
pub records-ended : (form : Form) (place : ℕ) (octets : List ℕ) → next_at form place octets ≡ Ended
    → records_from form place octets ≡ record { packets = []; ending = Whole }
unfolding records_from up_to
records-ended form place octets e =
    ap (λ (x : Next). goes_on place x (λ (p : Packet). up_to (length octets) form (place + size p) (drop (size p) octets))) e

-- a fault in place of a record
pub records-broken : (form : Form) (place : ℕ) (octets : List ℕ) (f : CaptureFault) → next_at form place octets ≡ Broken f
    → records_from form place octets ≡ record { packets = []; ending = Fault f place }
unfolding records_from up_to
records-broken form place octets f e =
    ap (λ (x : Next). goes_on place x (λ (p : Packet). up_to (length octets) form (place + size p) (drop (size p) octets))) e

-- the records of a capture whose head is good
pub capture-good : (octets : List ℕ) (form : Form) → head_of octets ≡ Good form → capture_of octets ≡ records_from form 24 (drop 24 octets)
unfolding capture_of
capture-good octets form e = ap (λ (h : Head). by_head h (λ (f : Form). records_from f 24 (drop 24 octets))) e
