-- What the alarms keep.
use Rattle.std.specs.Prelude.{ℕ}
use Rattle.std.specs.BinaryHeap.{IsHeap, heap_items, heap_capacity}
use Rattle.std.specs.declared.cmp.Ordering.{Ordering}
use Rattle.std.specs.Ordering.{nat_cmp, ordering_then}
use Rattle.std.specs.declared.cmp.Reverse.{Reverse}
use Rattle.expiring_table.specs.Inside.Armed.{Armed}
use Rattle.expiring_table.specs.declared.alarms.Alarms.TheInside.{Inside}

abbrev pub armed_of : Inside → Armed
armed_of alarms = record { room = heap_capacity alarms.heap; alarms = heap_items alarms.heap }

-- an earlier alarm is greater
abbrev pub by_moment : Reverse (ℕ × ℕ) → Reverse (ℕ × ℕ) → Ordering
by_moment x y = ordering_then (nat_cmp y.0.0 x.0.0) (nat_cmp y.0.1 x.0.1)

-- the first alarm is at hand
abbrev pub IsOrdered : Inside → Type 0
IsOrdered alarms = IsHeap by_moment (heap_items alarms.heap)
