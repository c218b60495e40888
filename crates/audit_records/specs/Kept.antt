-- What is wanted of an event, and how far its records have come, by what is kept.
use Rattle.std.specs.Prelude.{ℕ}
use Rattle.gate_base.specs.declared.side.Side.{Side}
use Rattle.lawful_files.specs.Progress as progress
use Rattle.lawful_files.specs.Prelude.{Wanted}

-- what is wanted of an event with this side and moment, and what is kept of the records that came
pub record Expecting : Type 0 where
  pub side : Side
  pub moment : ℕ
  pub wanted : Wanted
  pub so_far : progress.Progress
