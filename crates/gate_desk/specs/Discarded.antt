-- A desk that discards what is written.
use Rattle.std.specs.Prelude.{ℕ, List, Some, None}
use Rattle.gate_desk.specs.declared.slot.PerSlot.{PerSlot}
use Rattle.gate_desk.specs.Slots.{each}
use Rattle.gate_desk.specs.Outside.{Outside}

-- what is left to be read is told, and nothing of what is written and started; no call fails
abbrev pub told_by : PerSlot (List ℕ) → Outside
told_by left = record { left = Some left; written = None; starts = None; faults = each 0; start_faults = each 0 }
