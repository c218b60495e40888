-- Codes of statuses.
use Rattle.std.proofs.Common.{◌≡◌, ℕ, ◌∙◌, inl, inr, Option, Some, None, Err, IfSome, IsErrOf}
use Rattle.gate_desk.specs.declared.slot.Slot.{Slot}
use Rattle.gate_desk.specs.Outside.{Outside}
use Rattle.file_desk.specs.Untold.{Files}
use Rattle.run_setup.specs.declared.status.Status.TheVariants.{WriteFault}
use Rattle.run_setup.specs.Prelude.{Command}
use Rattle.gate_command.specs.Exit.{IsExit, IsCode, Finishes}

-- what is answered in the end is the code of a status
pub finished_code : (code answer : ℕ) (command : Command) (old new : Outside) (ended finished : Files) → IsExit code command old new
    → Finishes code answer ended finished → IsCode answer
finished_code code answer command old new ended finished exit (inl handed) = (exit.status, handed.code_is ∙ exit.code_is)
finished_code code answer command old new ended finished exit (inr refused) = (WriteFault refused.slot, refused.code_is)

-- the slot that is answered is the one refused before, if there is one
pub first_refused : (slot : Slot) (before : Option Slot) → IfSome before (λ refused. IsErrOf {T = Unit {0}} (Err slot) refused)
    → IfSome before (λ refused. refused ≡ slot)
first_refused slot None h = tt
first_refused slot (Some refused) h = cc
