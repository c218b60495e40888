-- What only proofs and private contracts need beside `Causes`.
use Rattle.std.specs.Prelude.{◌≡◌, List, true, Result, Ok, Err}
use Rattle.gate_desk.specs.Outside.{Outside}
use Rattle.gate_report.specs.Lines.{takes_memory}
use Rattle.gate_settings.specs.declared.settings.ReportForm.{ReportForm}
use Rattle.run_setup.specs.declared.status.Status.{Status}
use Rattle.run_setup.specs.declared.status.Status.TheVariants.{WriteFault, OpenFault, OutOfMemory}
use Rattle.gateway.specs.Pieces.{Piece}
use Rattle.gateway.specs.Inside.Pieces.{WritesAll, WritesFront}
use Rattle.run_setup.specs.Prelude.{Causes}

-- ## Causes

-- the cause of a status of writing
abbrev pub CausesOfWriting : Status → Outside → Outside → Type 0
CausesOfWriting (WriteFault slot) old new = Causes (WriteFault slot) old new
CausesOfWriting status old new = ⊥

-- the cause of a status of starting or writing the outputs
abbrev pub CausesOfReadying : Status → Outside → Outside → Type 0
CausesOfReadying (WriteFault slot) old new = Causes (WriteFault slot) old new
CausesOfReadying (OpenFault slot) old new = Causes (OpenFault slot) old new
CausesOfReadying status old new = ⊥

-- what writing pieces answers
abbrev pub WritesPieces : Result (Unit {0}) Status → List Piece → Outside → Outside → Type 0
WritesPieces (Ok u) pieces old new = WritesAll pieces old new
WritesPieces (Err status) pieces old new = CausesOfWriting status old new × WritesFront pieces old new

-- what writing a line answers: memory may be wanting for a form that takes some, and then nothing was written
abbrev pub WritesReportLine : Result (Unit {0}) Status → ReportForm → List Piece → Outside → Outside → Type 0
WritesReportLine (Ok u) form pieces old new = WritesAll pieces old new
WritesReportLine (Err OutOfMemory) form pieces old new = (takes_memory form ≡ true) × (new ≡ old)
WritesReportLine (Err status) form pieces old new = CausesOfWriting status old new × WritesFront pieces old new
