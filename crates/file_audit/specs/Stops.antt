-- What a stop leaves of the counts of failed calls.
use Rattle.std.specs.Prelude.{Result, Err}
use Rattle.gate_desk.specs.Outside.{Outside, NoneFailed}
use Rattle.run_setup.specs.declared.status.Status.{Status}
use Rattle.run_setup.specs.declared.status.Status.TheVariants.{ReadFault}

-- no call failed, but a read that is told
abbrev pub LeavesCounts : {A : Type 0} → Result A Status → Outside → Outside → Type 0
LeavesCounts (Err (ReadFault slot)) old new = Unit {0}
LeavesCounts r old new = NoneFailed old new
