-- What a desk tells that tells only its counts.
use Rattle.std.proofs.Common.{◌≡◌, ℕ, List, [], refl, ap, ◌∙◌, arith}
use Rattle.gate_desk.specs.declared.slot.Slot.{Slot}
use Rattle.gate_desk.specs.declared.slot.Access.{Access}
use Rattle.gate_desk.specs.declared.slot.PerSlot.{PerSlot}
use Rattle.gate_desk.specs.Slots.{at, put}
use Rattle.gate_desk.specs.Outside.{FailsToStart, Rose, Starts, Takes, Writes, AreNext, IsAtEnd, wrote, took, told_at, started}
use Rattle.file_desk.specs.Untold.{untold}
use Rattle.gate_desk.specs.Counts.{raised}
use Rattle.gate_desk.proofs.Laws.{at-put, rises_not, rises_one}

pub untold_starts : (s : Slot) (name : List ℕ) (access : Access) (a b : PerSlot ℕ) → Starts s name access (untold a b) (untold a b)
unfolding started
untold_starts s name access a b = record { starts = refl; left = refl; written = refl; faults = refl; start_faults = rises_not s b }

pub untold_takes : (s : Slot) (n : ℕ) (a b : PerSlot ℕ) → Takes s n (untold a b) (untold a b)
unfolding took
untold_takes s n a b = record { left = refl; written = refl; starts = refl; start_faults = refl; faults = rises_not s a }

pub untold_read_fails : (s : Slot) (a a' b : PerSlot ℕ) → a' ≡ put a s (raised (at a s)) → Takes s 0 (untold a b) (untold a' b)
unfolding took
untold_read_fails s a a' b e = record { left = refl; written = refl; starts = refl; start_faults = refl; faults = rises_one s a a' e }

pub untold_next : (s : Slot) (xs : List ℕ) (a b : PerSlot ℕ) → AreNext xs (untold a b) s
unfolding told_at
untold_next s xs a b = tt

pub untold_end : (s : Slot) (a b : PerSlot ℕ) → IsAtEnd (untold a b) s
unfolding told_at
untold_end s a b = tt

pub untold_writes : (s : Slot) (xs : List ℕ) (a b : PerSlot ℕ) → Writes s xs (untold a b) (untold a b)
unfolding wrote
untold_writes s xs a b = record { written = refl; left = refl; starts = refl; start_faults = refl; faults = rises_not s a }

pub untold_writes_same : (s : Slot) (xs ys : List ℕ) (a a' b b' : PerSlot ℕ) → Writes s xs (untold a b) (untold a' b')
    → Writes s ys (untold a b) (untold a' b')
unfolding wrote
untold_writes_same s xs ys a a' b b' h = record { written = refl; left = refl; starts = refl; start_faults = h.start_faults; faults = h.faults }

pub untold_write_fails : (s : Slot) (a a' b : PerSlot ℕ) → a' ≡ put a s (raised (at a s)) → Writes s [] (untold a b) (untold a' b)
unfolding wrote
untold_write_fails s a a' b e = record { written = refl; left = refl; starts = refl; start_faults = refl; faults = rises_one s a a' e }

-- a count that was raised rose
pub rose_one : (s : Slot) (a b : PerSlot ℕ) → b ≡ put a s (raised (at a s)) → Rose (at a s) (at b s)
rose_one s a b e =
    let there : at b s ≡ raised (at a s) = ap (λ (p : PerSlot ℕ). at p s) e ∙ at-put a s (raised (at a s)) in
    omega (arith, there)

pub untold_start_fails : (s : Slot) (a b b' : PerSlot ℕ) → b' ≡ put b s (raised (at b s)) → FailsToStart s (untold a b) (untold a b')
untold_start_fails s a b b' e =
    record { cause = rose_one s b b' e; starts = refl; left = refl; written = refl; faults = refl; start_faults = rises_one s b b' e }
