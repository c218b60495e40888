use Rattle.std.proofs.Common.{refl}
use Rattle.gate_desk.proofs.Laws.{can_read_started, can_write_started, can_write_kept}
use Rattle.gate_desk.specs.declared.slot.Slot.TheVariants.{LeftIn, RightOut}
use Rattle.file_tests.proofs.captures.start.Goals as goal

pub returns-clause-read : goal.returns-clause-read
returns-clause-read g c = can_read_started LeftIn _ _ _ c.in_ok-start-2.ensures.ok

pub returns-clause-write : goal.returns-clause-write
returns-clause-write g c =
    can_write_kept LeftIn RightOut _ _ _ _ c.in_ok-start-2.ensures.ok refl refl (can_write_started RightOut _ _ _ c.in_ok-start.ensures.ok)
