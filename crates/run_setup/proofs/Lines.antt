-- The names of slots are short.
use Rattle.std.proofs.Common.{◌≤◌, length, arith}
use Rattle.gate_desk.specs.declared.slot.Slot.{Slot}
use Rattle.gate_desk.specs.declared.slot.Slot.TheVariants.{Settings, LeftIn, RightIn, LeftGiven, RightGiven, ReportGiven, LeftOut, RightOut, Report, Errors}
use Rattle.gate_desk.specs.Slots.{name_of}

pub slot_short : (slot : Slot) → length (name_of slot) ≤ 12
unfolding name_of
slot_short Settings = omega arith
slot_short LeftIn = omega arith
slot_short RightIn = omega arith
slot_short LeftGiven = omega arith
slot_short RightGiven = omega arith
slot_short ReportGiven = omega arith
slot_short LeftOut = omega arith
slot_short RightOut = omega arith
slot_short Report = omega arith
slot_short Errors = omega arith
