-- What a make answers: a run over the workload of two numbers, whose outputs are thrown away, but for the last line.
use Rattle.std.specs.Prelude.{◌≡◌, ℕ, List, [], ◌∷◌}
use Rattle.gate_desk.specs.declared.slot.PerSlot.{PerSlot}
use Rattle.gate_desk.specs.declared.slot.Slot.TheVariants.{Report}
use Rattle.gate_desk.specs.Slots.{inputs}
use Rattle.gate_desk.specs.Outside.{Outside, Grows, NoneFailed, HasFailed, HasFailedToStart}
use Rattle.gate_settings.specs.declared.settings.ReportForm.TheVariants.{Text}
use Rattle.gate_settings.specs.declared.settings.Settings.{Settings as GateSettings}
use Rattle.gate_report.specs.declared.line.Line.{Line}
use Rattle.gate_workload.specs.Workloads.{workload}
use Rattle.pcap_merge.specs.Prelude.{Done as BothEnded}
use Rattle.run_setup.specs.declared.status.Status.{Status}
use Rattle.run_setup.specs.declared.status.Status.TheVariants.{Done, WriteFault, OpenFault, OutOfMemory}
use Rattle.run_setup.specs.Prelude.{started_all, IsAccepted, events_in}
use Rattle.run_setup.specs.RunNames.{make_starts}
use Rattle.gateway.specs.Pieces.{Piece, wrote_pieces, IsFront}
use Rattle.gateway.specs.Machine.{line_piece, line_of}

-- the workload, as a run reads it
abbrev pub workload_in : ℕ → ℕ → PerSlot (List ℕ)
workload_in number count = inputs (workload number count).settings (workload number count).left (workload number count).right

-- the last line of the report, as text: the settings of a workload ask for no other form
abbrev pub made_piece : Line → Piece
made_piece line = line_piece Text line

-- the line is the last one of the run over the workload
pub record IsLineOf (line : Line) (number count : ℕ) : Type 0 where
  pub settings : GateSettings
  pub accepted : IsAccepted settings (workload_in number count)
  pub ended : (events_in (workload_in number count)).ending ≡ BothEnded
  pub line_is : line ≡ line_of settings (events_in (workload_in number count))

-- why a make ended so, and what it started and wrote: the settings of a workload are accepted and its captures are read to their ends, so that no other status comes
abbrev pub HasMade : Status → ℕ → ℕ → List ℕ → Outside → Outside → Type 0
HasMade Done number count report old new =
    (line : Line) × IsLineOf line number count × (new.starts ≡ started_all (make_starts report) old.starts)
    × (new.written ≡ wrote_pieces (made_piece line ∷ []) old.written) × NoneFailed old new
HasMade (WriteFault Report) number count report old new =
    HasFailed Report old new × (line : Line) × IsLineOf line number count × (new.starts ≡ started_all (make_starts report) old.starts)
    × IsFront (made_piece line ∷ []) old.written new.written
HasMade (OpenFault Report) number count report old new = HasFailedToStart Report old new × (new.starts ≡ old.starts) × (new.written ≡ old.written)
HasMade OutOfMemory number count report old new = (new.starts ≡ started_all (make_starts report) old.starts) × (new.written ≡ old.written)
HasMade status number count report old new = ⊥

pub record IsMake (status : Status) (number count : ℕ) (report : List ℕ) (old new : Outside) : Type 0 where
  pub made : HasMade status number count report old new
  pub left : new.left ≡ old.left
  pub grows : Grows old new
