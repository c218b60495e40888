-- What decides the status of a call.
use Rattle.std.specs.Prelude.{◌≡◌, ◌⊎◌}
use Rattle.gate_desk.specs.declared.slot.Slot.{Slot}
use Rattle.gate_desk.specs.Outside.{Outside, HasFailed, HasFailedToStart}
use Rattle.run_setup.specs.declared.status.Status.{Status}
use Rattle.run_setup.specs.declared.status.Status.TheVariants.{OutOfMemory}

-- no count of a desk's calls rose
pub record NoneRose (old new : Outside) : Type 0 where
  pub calls : (slot : Slot) → HasFailed slot old new → ⊥
  pub starts : (slot : Slot) → HasFailedToStart slot old new → ⊥

-- it is this status, or memory was wanting
abbrev pub IsUnlessMemory : Status → Status → Type 0
IsUnlessMemory wanted status = (status ≡ wanted) ⊎ (status ≡ OutOfMemory)
