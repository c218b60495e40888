-- What decides the status of a run.
use Rattle.std.specs.Prelude.{◌≡◌, ℕ, List, Some}
use Rattle.gate_desk.specs.declared.slot.PerSlot.{PerSlot}
use Rattle.gate_desk.specs.Outside.{Outside}
use Rattle.run_setup.specs.declared.status.Status.{Status}
use Rattle.run_setup.specs.Prelude.{NoneRose}
use Rattle.run_setup.specs.RunNames.{Names}
use Rattle.gateway.specs.Answers.{IsRun}

-- a run ended so over a desk that told these octets as it began, and no count rose
pub record IsRunOf (all : PerSlot (List ℕ)) (status : Status) (names : Names) (old new : Outside) : Type 0 where
  pub run : IsRun status names old new
  pub told : old.left ≡ Some all
  pub none : NoneRose old new
