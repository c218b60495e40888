use Rattle.std.proofs.Common.{refl}
use Rattle.gate_desk.proofs.Laws.{can_read_started, can_read_kept}
use Rattle.gate_desk.specs.declared.slot.Slot.TheVariants.{LeftIn, RightIn}
use Rattle.gate_desk.specs.declared.slot.Access.TheVariants.{Read}
use Rattle.file_tests.proofs.merging.start.Goals as goal

pub returns-clause-left : goal.returns-clause-left
returns-clause-left g c =
    can_read_kept RightIn LeftIn _ Read _ _ c.in_ok-start-2.ensures.ok refl (can_read_started LeftIn _ _ _ c.in_ok-start.ensures.ok)

pub returns-clause-right : goal.returns-clause-right
returns-clause-right g c = can_read_started RightIn _ _ _ c.in_ok-start-2.ensures.ok
