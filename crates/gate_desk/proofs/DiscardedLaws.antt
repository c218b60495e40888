-- What the steps of a desk tell that discards what is written.
use Rattle.std.proofs.Common.{◌≡◌, ℕ, ◌≤◌, List, Some, take, drop, length, refl, sym, ap, ◌∙◌, length-take-le}
use Rattle.gate_desk.specs.declared.slot.Slot.{Slot}
use Rattle.gate_desk.specs.declared.slot.Access.{Access}
use Rattle.gate_desk.specs.declared.slot.PerSlot.{PerSlot}
use Rattle.gate_desk.specs.Slots.{at, put, each}
use Rattle.gate_desk.specs.Outside.{Starts, Takes, Writes, AreNext, IsAtEnd, wrote, took, told_at, started}
use Rattle.gate_desk.specs.Discarded.{told_by}
use Rattle.gate_desk.proofs.Laws.{rises_not}

pub discarded_starts : (s : Slot) (name : List ℕ) (access : Access) (l : PerSlot (List ℕ)) → Starts s name access (told_by l) (told_by l)
unfolding started
discarded_starts s name access l = record { starts = refl; left = refl; written = refl; faults = refl; start_faults = rises_not s (each 0) }

pub discarded_takes : (s : Slot) (n : ℕ) (l k : PerSlot (List ℕ)) → k ≡ put l s (drop n (at l s)) → Takes s n (told_by l) (told_by k)
unfolding took
discarded_takes s n l k e = record { left = ap Some e; written = refl; starts = refl; start_faults = refl; faults = rises_not s (each 0) }

pub discarded_next : (s : Slot) (n : ℕ) (l : PerSlot (List ℕ)) (buffer : List ℕ) → n ≤ length buffer → take n buffer ≡ take n (at l s)
    → AreNext (take n buffer) (told_by l) s
unfolding told_at
discarded_next s n l buffer fits e = ap (λ (k : ℕ). take k (at l s)) (length-take-le n buffer fits) ∙ sym e

pub discarded_end : (s : Slot) (l : PerSlot (List ℕ)) → length (at l s) ≡ 0 → IsAtEnd (told_by l) s
unfolding told_at
discarded_end s l e = e

pub discarded_writes : (s : Slot) (piece : List ℕ) (l : PerSlot (List ℕ)) → Writes s piece (told_by l) (told_by l)
unfolding wrote
discarded_writes s piece l = record { written = refl; left = refl; starts = refl; start_faults = refl; faults = rises_not s (each 0) }
