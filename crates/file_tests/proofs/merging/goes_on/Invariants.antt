use Rattle.gate_desk.specs.declared.slot.Slot.TheVariants.{LeftIn, RightIn}
use Rattle.gate_desk.specs.Outside.{CanRead}
use Rattle.file_tests.proofs.merging.goes_on.Given as goal

abbrev pub invariant-answers : goal.invariant-answers
invariant-answers g l = CanRead (g.D.Desk.outside l.desk) LeftIn × CanRead (g.D.Desk.outside l.desk) RightIn
