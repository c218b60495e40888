-- The slots, and one value for each.
use Rattle.std.specs.Prelude.{ℕ, Bool, ◌==◌, List, [], codes}
use Rattle.std.specs.Borrow.{Lends, MutBor, Fml, RattleType}
use Rattle.gate_desk.specs.declared.slot.Slot.{Slot}
use Rattle.gate_desk.specs.declared.slot.Slot.TheVariants.{Settings, LeftIn, RightIn, LeftGiven, RightGiven, ReportGiven, LeftOut, RightOut, Report, Errors}
use Rattle.gate_desk.specs.declared.slot.PerSlot.{PerSlot}
use Rattle.gate_desk.specs.contracts.slot.PerSlot.{the_row}

-- the value of a slot
abbrev pub at : {A : Type 0} → PerSlot A → Slot → A
at p Settings = p.settings
at p LeftIn = p.left_in
at p RightIn = p.right_in
at p LeftGiven = p.left_given
at p RightGiven = p.right_given
at p ReportGiven = p.report_given
at p LeftOut = p.left_out
at p RightOut = p.right_out
at p Report = p.report
at p Errors = p.errors

-- with another value in one slot
abbrev pub put : {A : Type 0} → PerSlot A → Slot → A → PerSlot A
put p Settings x = record p { settings = x }
put p LeftIn x = record p { left_in = x }
put p RightIn x = record p { right_in = x }
put p LeftGiven x = record p { left_given = x }
put p RightGiven x = record p { right_given = x }
put p ReportGiven x = record p { report_given = x }
put p LeftOut x = record p { left_out = x }
put p RightOut x = record p { right_out = x }
put p Report x = record p { report = x }
put p Errors x = record p { errors = x }

-- once the borrow r ends, the slot has the last value written through r
abbrev pub lends_slot : (X : RattleType) → MutBor (PerSlot X.Denot) → Slot → MutBor X.Denot → Fml
lends_slot X p slot r = Lends (the_row X) X p r (put p.now slot)

-- the same value in each slot
abbrev pub each : {A : Type 0} → A → PerSlot A
each x = record {
  settings = x;
  left_in = x;
  right_in = x;
  left_given = x;
  right_given = x;
  report_given = x;
  left_out = x;
  right_out = x;
  report = x;
  errors = x;
}

-- settings and two captures to be read
abbrev pub inputs : List ℕ → List ℕ → List ℕ → PerSlot (List ℕ)
inputs settings left right = record (each []) { settings = settings; left_in = left; right_in = right }

-- a number for each slot
abbrev pub number_of : Slot → ℕ
number_of Settings = 0
number_of LeftIn = 1
number_of RightIn = 2
number_of LeftGiven = 3
number_of RightGiven = 4
number_of ReportGiven = 5
number_of LeftOut = 6
number_of RightOut = 7
number_of Report = 8
number_of Errors = 9

abbrev pub same_slot : Slot → Slot → Bool
same_slot s t = number_of s == number_of t

-- the name of a slot in the line about what went wrong
unfoldable pub name_of : Slot → List ℕ
name_of Settings = codes "settings"
name_of LeftIn = codes "left_in"
name_of RightIn = codes "right_in"
name_of LeftGiven = codes "left_given"
name_of RightGiven = codes "right_given"
name_of ReportGiven = codes "report_given"
name_of LeftOut = codes "left_out"
name_of RightOut = codes "right_out"
name_of Report = codes "report"
name_of Errors = codes "errors"
