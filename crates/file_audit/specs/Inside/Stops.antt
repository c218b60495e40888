-- What only proofs and private contracts need beside `Stops`.
use Rattle.std.specs.Prelude.{◌≡◌, Result, Err}
use Rattle.gate_desk.specs.declared.slot.Slot.{Slot}
use Rattle.gate_desk.specs.Outside.{Outside, HasFailed}
use Rattle.run_setup.specs.declared.status.Status.{Status}
use Rattle.run_setup.specs.declared.status.Status.TheVariants.{ReadFault}

-- a read of this slot failed
abbrev pub FailsAt : Status → Slot → Outside → Outside → Type 0
FailsAt (ReadFault s) slot old new = (s ≡ slot) × HasFailed slot old new
FailsAt stop slot old new = ⊥

-- the counts of failed reads are as before, unless the stop is a failed read
abbrev pub LeavesFaults : {A : Type 0} → Result A Status → Outside → Outside → Type 0
LeavesFaults (Err (ReadFault slot)) old new = Unit {0}
LeavesFaults r old new = new.faults ≡ old.faults
