-- A desk in memory of which some calls fail.
use Rattle.std.specs.Prelude.{ℕ, ◌+◌, ◌-◌, ◌^◌, ◌<◌, ◌⊎◌, ◌==◌, if◌then◌else◌, List, Contains, min, length}
use Rattle.gate_desk.specs.Outside.{Outside}
use Rattle.memory_desks.specs.Memory.{Memory, told_of}

-- the desk, the numbers of the calls that are to fail, and how many calls there were
pub record Counted : Type 0 where
  pub inner : Memory
  pub failing : List ℕ
  pub calls : ℕ

-- it tells all
abbrev pub told_by : Counted → Outside
told_by d = told_of d.inner

-- the next call is to fail
abbrev pub IsListed : Counted → Type 0
IsListed d = (d.calls < 2 ^ 64 - 1) × Contains d.failing (d.calls + 1)

-- one call more, of which no more than 2^64 - 1 are counted
abbrev pub counted : Counted → Counted
counted d = record d { calls = min (d.calls + 1) (2 ^ 64 - 1) }

-- one call for a piece that isn't empty
abbrev pub counted_with : List ℕ → Counted → Counted
counted_with piece d = record d { calls = if length piece == 0 then d.calls else (counted d).calls }

-- a piece that isn't empty can't be written where so many octets are: its call is to fail, or the octets of all slots would be more than 64 MiB
abbrev pub FailsToWrite : List ℕ → ℕ → Counted → Type 0
FailsToWrite piece written d = (0 < length piece) × (IsListed d ⊎ (2 ^ 26 < written + length piece))
