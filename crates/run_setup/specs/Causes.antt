-- What starting answers, and the causes of a status that comes from the outside.
use Rattle.std.specs.Prelude.{◌≡◌, List, ◌∷◌, ◌++◌, Bool, true, false, IsTrue, Result, Ok, Err, Option, option_map}
use Rattle.gate_desk.specs.declared.slot.Slot.{Slot}
use Rattle.gate_desk.specs.declared.slot.Slot.TheVariants.{Settings, LeftIn, RightIn, LeftOut, RightOut, Report, Errors}
use Rattle.gate_desk.specs.Outside.{Outside, Start, Grows, NoneFailed, HasFailed, HasFailedToStart}
use Rattle.run_setup.specs.declared.status.Status.{Status}
use Rattle.run_setup.specs.declared.status.Status.TheVariants.{ReadFault, WriteFault, OpenFault, OutOfMemory}

-- the slots that a run reads
abbrev pub is_read : Slot → Bool
is_read Settings = true
is_read LeftIn = true
is_read RightIn = true
is_read _ = false

-- the slots that a run writes its outputs to
abbrev pub is_output : Slot → Bool
is_output LeftOut = true
is_output RightOut = true
is_output Report = true
is_output _ = false

-- the slots that are started
abbrev pub is_started : Slot → Bool
is_started Errors = false
is_started _ = true

-- the cause of a status that comes from the outside: a count that rose; want of memory has none that is told
abbrev pub Causes : Status → Outside → Outside → Type 0
Causes (ReadFault slot) old new = IsTrue (is_read slot) × HasFailed slot old new
Causes (WriteFault slot) old new = IsTrue (is_output slot) × HasFailed slot old new
Causes (OpenFault slot) old new = IsTrue (is_started slot) × HasFailedToStart slot old new
Causes OutOfMemory old new = Unit {0}
Causes status old new = ⊥

-- these starts are appended, where the starts are told
unfoldable pub started_all : List Start → Option (List Start) → Option (List Start)
started_all new starts = option_map (λ (old : List Start). old ++ new) starts

-- of these starts exactly those in front of this slot's are appended
pub record StartsBefore (slot : Slot) (planned : List Start) (old new : Outside) : Type 0 where
  pub front : List Start
  pub start : Start
  pub others : List Start
  pub split : planned ≡ front ++ start ∷ others
  pub slot_is : start.slot ≡ slot
  pub starts : new.starts ≡ started_all front old.starts

-- what a phase with these starts has started where it stopped: those in front of the one that failed, or all
abbrev pub StartedBy : Status → List Start → Outside → Outside → Type 0
StartedBy (OpenFault slot) starts old new = StartsBefore slot starts old new
StartedBy status starts old new = new.starts ≡ started_all starts old.starts

-- all these slots were started, and nothing else happened
pub record StartsAll (appended : List Start) (old new : Outside) : Type 0 where
  pub starts : new.starts ≡ started_all appended old.starts
  pub left : new.left ≡ old.left
  pub written : new.written ≡ old.written
  pub grows : Grows old new
  pub counts : NoneFailed old new

-- a phase stopped by a cause from the outside, and wrote nothing
pub record Stops (status : Status) (appended : List Start) (old new : Outside) : Type 0 where
  pub cause : Causes status old new
  pub started : StartedBy status appended old new
  pub written : new.written ≡ old.written
  pub grows : Grows old new

-- starting a slot failed, after some of these starts
abbrev pub StopsStarting : Status → List Start → Outside → Outside → Type 0
StopsStarting (OpenFault slot) starts old new = Stops (OpenFault slot) starts old new
StopsStarting status starts old new = ⊥

-- what starting slots answers
abbrev pub Opens : Result (Unit {0}) Status → List Start → Outside → Outside → Type 0
Opens (Ok u) starts old new = StartsAll starts old new
Opens (Err status) starts old new = StopsStarting status starts old new
