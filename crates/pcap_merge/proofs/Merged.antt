-- How the events of two captures go on.
use Rattle.std.proofs.Common.{◌≡◌, ℕ, zero, suc, ◌+◌, ◌<◌, List, [], ◌∷◌, max, length, refl, ap, ◌∙◌, arith}
use Rattle.gate_base.specs.declared.side.Side.{Side}
use Rattle.gate_base.specs.declared.side.Side.TheVariants.{Left, Right}
use Rattle.pcap_files.specs.declared.fault.CaptureFault.{CaptureFault}
use Rattle.pcap_files.specs.Prelude.{Packet, Ending as CaptureEnding, Whole, Fault as CaptureEndsFaulty}
use Rattle.pcap_merge.specs.Prelude.{Done, Fault, Merged, Ahead, Turn, Gives, Ends, Stops, front_of, front_by, turn_of, turn_at, after, without_first, event_at, link_at, with_event, goes_on}
use Rattle.pcap_merge.specs.Events.{Front, AtRecord, AtEnd, AtFault, up_to, merge_from}

same_after : (a : Ahead) (x : Turn) (f g : Side → Packet → Merged) → ((side : Side) (p : Packet) → x ≡ Gives side p → f side p ≡ g side p)
    → goes_on a x f ≡ goes_on a x g
same_after a (Gives side p) f g h = ap (with_event (event_at side (max a.clock p.stamp) (link_at side a) p)) (h side p refl)
same_after a Ends f g h = refl
same_after a (Stops side e place) f g h = refl

-- how many records are still to come
abbrev pub count : Ahead → ℕ
count a = length a.left.packets + length a.right.packets

-- a record can be given only by a side that has one
pub left_has_none : (right : Front) (ending : CaptureEnding) (p : Packet) → turn_of (front_by [] ending) right ≡ Gives Left p → 0 < 0
left_has_none right (CaptureEndsFaulty f place) p e = cc
left_has_none (AtRecord q) Whole p e = cc
left_has_none AtEnd Whole p e = cc
left_has_none (AtFault f place) Whole p e = cc

-- nor does the right side
pub right_has_none : (left : Front) (ending : CaptureEnding) (p : Packet) → turn_of left (front_by [] ending) ≡ Gives Right p → 0 < 0
right_has_none (AtFault f place) ending p e = cc
right_has_none AtEnd Whole p e = cc
right_has_none AtEnd (CaptureEndsFaulty f place) p e = cc
right_has_none (AtRecord q) Whole p e = cc
right_has_none (AtRecord q) (CaptureEndsFaulty f place) p e = cc

one_less : (packets : List Packet) → 0 < length packets → length packets ≡ suc (length (without_first packets))
one_less [] h = absurd (omega arith)
one_less (p ∷ packets) h = refl

left_gives_some : (right : Front) (packets : List Packet) (ending : CaptureEnding) (p : Packet)
    → turn_of (front_by packets ending) right ≡ Gives Left p → 0 < length packets
left_gives_some right [] ending p e = left_has_none right ending p e
left_gives_some right (q ∷ packets) ending p e = omega arith

right_gives_some : (left : Front) (packets : List Packet) (ending : CaptureEnding) (p : Packet)
    → turn_of left (front_by packets ending) ≡ Gives Right p → 0 < length packets
right_gives_some left [] ending p e = right_has_none left ending p e
right_gives_some left (q ∷ packets) ending p e = omega arith

-- one record less is still to come
pub one_gone : (a : Ahead) (side : Side) (p : Packet) → turn_at a ≡ Gives side p → count a ≡ suc (count (after a side p))
one_gone a Left p e = let h = one_less a.left.packets (left_gives_some (front_of a.right) a.left.packets a.left.ending p e) in omega (arith, h)
one_gone a Right p e = let h = one_less a.right.packets (right_gives_some (front_of a.left) a.right.packets a.right.ending p e) in omega (arith, h)

-- more steps than records make no difference
enough : (m n : ℕ) (a : Ahead) → count a < m → count a < n → up_to m a ≡ up_to n a
unfolding up_to
enough zero n a h k = absurd (omega arith)
enough (suc m) zero a h k = absurd (omega arith)
enough (suc m) (suc n) a h k =
    same_after a (turn_at a) (λ (side : Side) (p : Packet). up_to m (after a side p)) (λ (side : Side) (p : Packet). up_to n (after a side p))
    (λ side p e.
    let fewer = one_gone a side p e in
    enough m n (after a side p) (omega (arith, fewer)) (omega (arith, fewer)))

-- an event, and the events behind it
pub merge-gives : (a : Ahead) (side : Side) (p : Packet) → turn_at a ≡ Gives side p
    → merge_from a ≡ with_event (event_at side (max a.clock p.stamp) (link_at side a) p) (merge_from (after a side p))
unfolding merge_from up_to
merge-gives a side p e =
    let fewer = one_gone a side p e in
    ap (λ (x : Turn). goes_on a x (λ (side : Side) (p : Packet). up_to (count a) (after a side p))) e
    ∙ ap (with_event (event_at side (max a.clock p.stamp) (link_at side a) p))
    (enough (count a) (suc (count (after a side p))) (after a side p) (omega (arith, fewer)) (omega arith))

-- the end of both captures
pub merge-ends : (a : Ahead) → turn_at a ≡ Ends → merge_from a ≡ record { events = []; ending = Done }
unfolding merge_from up_to
merge-ends a e = ap (λ (x : Turn). goes_on a x (λ (side : Side) (p : Packet). up_to (count a) (after a side p))) e

-- a fault
pub merge-stops : (a : Ahead) (side : Side) (f : CaptureFault) (place : ℕ) → turn_at a ≡ Stops side f place
    → merge_from a ≡ record { events = []; ending = Fault side f place }
unfolding merge_from up_to
merge-stops a side f place e = ap (λ (x : Turn). goes_on a x (λ (side : Side) (p : Packet). up_to (count a) (after a side p))) e
