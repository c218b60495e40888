-- What the steps of a desk in memory tell.
use Rattle.std.proofs.Common.{◌≡◌, ℕ, ◌+◌, ◌≤◌, List, [], ◌∷◌, ◌++◌, Some, min, take, drop, length, refl, sym, ap, subst, ◌∙◌, arith, length-append, length-take-le, take_all}
use Rattle.gate_desk.specs.declared.slot.Slot.{Slot}
use Rattle.gate_desk.specs.declared.slot.Access.{Access}
use Rattle.gate_desk.specs.declared.slot.PerSlot.{PerSlot}
use Rattle.gate_desk.specs.Slots.{at, put}
use Rattle.gate_desk.specs.Outside.{Start, Starts, FailsToStart, Takes, Writes, AreNext, IsAtEnd, wrote, took, told_at, started}
use Rattle.gate_desk.specs.Counts.{raised}
use Rattle.memory_desks.specs.Memory.{Memory, told_of, total}
use Rattle.gate_desk.proofs.Laws.{every, at-put, rises_not, rises_one, wrote-nil, took-none}

rose_one : (s : Slot) (a b : PerSlot ℕ) → b ≡ put a s (raised (at a s)) → min (at a s + 1) 18446744073709551615 ≤ at b s
rose_one s a b e =
    let there : at b s ≡ raised (at a s) = ap (λ (p : PerSlot ℕ). at p s) e ∙ at-put a s (raised (at a s)) in
    omega (arith, there)

pub memory_fails_to_start : (s : Slot) (m : Memory) (n : PerSlot ℕ) → n ≡ put m.start_faults s (raised (at m.start_faults s))
    → FailsToStart s (told_of m) (told_of (record m { start_faults = n }))
memory_fails_to_start s m n e =
    record {
      cause = rose_one s m.start_faults n e;
      starts = refl;
      left = refl;
      written = refl;
      faults = refl;
      start_faults =
          rises_one s m.start_faults n e;
    }

pub memory_starts : (s : Slot) (name : List ℕ) (access : Access) (m : Memory) (n : List Start)
    → n ≡ m.starts ++ (record { slot = s; name = name; access = access }) ∷ [] → Starts s name access (told_of m) (told_of (record m { starts = n }))
unfolding started
memory_starts s name access m n e =
    record { starts = ap Some e; left = refl; written = refl; faults = refl; start_faults = rises_not s m.start_faults }

pub memory_takes : (s : Slot) (n : ℕ) (m : Memory) (l : PerSlot (List ℕ)) → l ≡ put m.left s (drop n (at m.left s))
    → Takes s n (told_of m) (told_of (record m { left = l }))
unfolding took
memory_takes s n m l e = record { left = ap Some e; written = refl; starts = refl; start_faults = refl; faults = rises_not s m.faults }

pub memory_next : (s : Slot) (n : ℕ) (m : Memory) (buffer : List ℕ) → n ≤ length buffer → take n buffer ≡ take n (at m.left s)
    → AreNext (take n buffer) (told_of m) s
unfolding told_at
memory_next s n m buffer fits e = ap (λ (k : ℕ). take k (at m.left s)) (length-take-le n buffer fits) ∙ sym e

pub memory_end : (s : Slot) (m : Memory) → length (at m.left s) ≡ 0 → IsAtEnd (told_of m) s
unfolding told_at
memory_end s m e = e

pub memory_write_fails : (s : Slot) (m : Memory) (n : PerSlot ℕ) → n ≡ put m.faults s (raised (at m.faults s))
    → Writes s [] (told_of m) (told_of (record m { faults = n }))
memory_write_fails s m n e =
    record { written = sym (wrote-nil s (Some m.written)); left = refl; starts = refl; start_faults = refl; faults = rises_one s m.faults n e }

pub memory_wrote : (s : Slot) (piece : List ℕ) (m : Memory) (w : PerSlot (List ℕ)) → w ≡ put m.written s (at m.written s ++ piece)
    → Writes s piece (told_of m) (told_of (record m { written = w }))
unfolding wrote
memory_wrote s piece m w e = record { written = ap Some e; left = refl; starts = refl; start_faults = refl; faults = rises_not s m.faults }

pub memory_writes : (s : Slot) (piece : List ℕ) (m : Memory) (w : PerSlot (List ℕ)) → w ≡ put m.written s (at m.written s ++ piece)
    → Writes s (take (length piece) piece) (told_of m) (told_of (record m { written = w }))
memory_writes s piece m w e =
    subst (λ (xs : List ℕ). Writes s xs (told_of m) (told_of (record m { written = w }))) (sym (take_all (length piece) piece (omega arith)))
    (memory_wrote s piece m w e)

total-put : (s : Slot) (xs : List ℕ) (p : PerSlot (List ℕ)) → total (put p s (at p s ++ xs)) ≡ total p + length xs
total-put s xs p =
    every (λ s. total (put p s (at p s ++ xs)) ≡ total p + length xs) (omega (arith, length-append p.settings xs))
    (omega (arith, length-append p.left_in xs)) (omega (arith, length-append p.right_in xs)) (omega (arith, length-append p.left_given xs))
    (omega (arith, length-append p.right_given xs)) (omega (arith, length-append p.report_given xs)) (omega (arith, length-append p.left_out xs))
    (omega (arith, length-append p.right_out xs)) (omega (arith, length-append p.report xs)) (omega (arith, length-append p.errors xs)) s

-- the octets of all slots, once some were written
pub total-wrote : (s : Slot) (xs : List ℕ) (m n : Memory) → Writes s xs (told_of m) (told_of n) → total n.written ≡ total m.written + length xs
unfolding wrote
total-wrote s xs m n h =
    let told : Some n.written ≡ Some (put m.written s (at m.written s ++ xs)) = h.written in
    let is : n.written ≡ put m.written s (at m.written s ++ xs) = cc in
    ap total is ∙ total-put s xs m.written

pub listed_write : (s : Slot) (m m' n : Memory) → m' ≡ m → n ≡ record m' { faults = put m'.faults s (raised (at m'.faults s)) }
    → Writes s [] (told_of m) (told_of n)
listed_write s m m' n e f =
    subst (λ (x : Memory). Writes s [] (told_of x) (told_of n)) e
    (subst (λ (x : Memory). Writes s [] (told_of m') (told_of x)) (sym f)
    (memory_write_fails s m' (put m'.faults s (raised (at m'.faults s))) refl))

memory_read_fails : (s : Slot) (m : Memory) (n : PerSlot ℕ) → n ≡ put m.faults s (raised (at m.faults s))
    → Takes s 0 (told_of m) (told_of (record m { faults = n }))
memory_read_fails s m n e =
    record { left = sym (took-none s (Some m.left)); written = refl; starts = refl; start_faults = refl; faults = rises_one s m.faults n e }

pub listed_read : (s : Slot) (m m' n : Memory) → m' ≡ m → n ≡ record m' { faults = put m'.faults s (raised (at m'.faults s)) }
    → Takes s 0 (told_of m) (told_of n)
listed_read s m m' n e f =
    subst (λ (x : Memory). Takes s 0 (told_of x) (told_of n)) e
    (subst (λ (x : Memory). Takes s 0 (told_of m') (told_of x)) (sym f) (memory_read_fails s m' (put m'.faults s (raised (at m'.faults s))) refl))
