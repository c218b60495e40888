-- The line about what went wrong.
use Rattle.std.specs.Prelude.{◌≡◌, ◌⊎◌, ℕ, List}
use Rattle.gate_desk.specs.declared.slot.Slot.TheVariants.{Errors}
use Rattle.gate_desk.specs.Outside.{Outside, HasFailed, Writes, WritesPart}
use Rattle.run_setup.specs.declared.status.Status.{Status}
use Rattle.run_setup.specs.Status.{error_line}

-- a line, and nothing else, was written on the slot of errors, or a front of it where the slot's count rose
abbrev pub WritesLine : List ℕ → Outside → Outside → Type 0
WritesLine line old new = Writes Errors line old new ⊎ (WritesPart Errors line old new × HasFailed Errors old new)

-- the line of a status was written so
abbrev pub TellsLine : Status → Outside → Outside → Type 0
TellsLine status old new = WritesLine (error_line status) old new

-- the line of this status was written so, and it is the answer
pub record Tells (status answer : Status) (old new : Outside) : Type 0 where
  pub answer_is : answer ≡ status
  pub line : TellsLine status old new
