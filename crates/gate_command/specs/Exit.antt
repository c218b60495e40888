-- The exit status of the program.
use Rattle.std.specs.Prelude.{◌≡◌, ◌<◌, ◌⊎◌, ℕ, None, IfSome, length}
use Rattle.gate_desk.specs.declared.slot.Slot.{Slot}
use Rattle.gate_desk.specs.Slots.{at}
use Rattle.gate_desk.specs.Outside.{Outside, HasFailed}
use Rattle.file_desk.specs.Untold.{Files, told_by, HandsOutAll, all_dropped}
use Rattle.run_setup.specs.declared.status.Status.{Status}
use Rattle.run_setup.specs.declared.status.Status.TheVariants.{WriteFault}
use Rattle.run_setup.specs.Prelude.{Command, code_of, TellsLine}
use Rattle.gate_command.specs.Answers.{Answers}

-- a command was carried out, and this is the code of its status
pub record IsExit (code : ℕ) (command : Command) (old new : Outside) : Type 0 where
  pub status : Status
  pub code_is : code ≡ code_of status
  pub answers : Answers status command old new

-- the code of a status
abbrev pub IsCode : ℕ → Type 0
IsCode code = (status : Status) × (code ≡ code_of status)

-- each file got what waited for it, of which the system had refused nothing, and the code stays
pub record IsHandedOut (code answer : ℕ) (old new : Files) : Type 0 where
  pub code_is : answer ≡ code
  pub none : old.refused ≡ None
  pub all : HandsOutAll old new

-- the system refused octets of a slot that had been taken, of the first one where it did so before, and some still wait there: what waits is dropped, this is the code of a failed write of the slot, and its line is told
pub record IsRefused (code : ℕ) (old new : Files) : Type 0 where
  pub slot : Slot
  pub first : IfSome old.refused (λ refused. refused ≡ slot)
  pub waited : 0 < length (at old.waiting slot)
  pub cause : HasFailed slot (told_by old) (told_by (all_dropped slot old))
  pub code_is : code ≡ code_of (WriteFault slot)
  pub line : TellsLine (WriteFault slot) (told_by (all_dropped slot old)) (told_by new)

-- the system got all, and the code stays, or it refused octets
abbrev pub Finishes : ℕ → ℕ → Files → Files → Type 0
Finishes code answer old new = IsHandedOut code answer old new ⊎ IsRefused answer old new

-- a command was carried out, and then all that was written was handed to the system, or it refused some
pub record IsFinished (answer : ℕ) (command : Command) (old new : Files) : Type 0 where
  pub code : ℕ
  pub ended : Files
  pub exit : IsExit code command (told_by old) (told_by ended)
  pub finishes : Finishes code answer ended new
