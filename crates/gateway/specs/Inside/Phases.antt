-- The phases of a run, and how each answers.
use Rattle.std.specs.Prelude.{◌≡◌, ◌⊎◌, ℕ, ◌^◌, ◌*◌, ◌≤◌, List, [], ◌∷◌, length, true, false, Result, Ok, Err, None, IfSome}
use Rattle.resegment.specs.declared.datagrams.TheConstants.{MOST_DATAGRAMS}
use Rattle.gate_base.specs.Prelude.{Event}
use Rattle.gate_base.specs.declared.side.Side.{Side}
use Rattle.gate_desk.specs.declared.slot.Slot.{Slot}
use Rattle.gate_desk.specs.declared.slot.Slot.TheVariants.{Settings, LeftIn, RightIn}
use Rattle.gate_desk.specs.Outside.{Outside, Trace, Start, Grows, NoneFailed, IsAtEnd}
use Rattle.gate_report.specs.Lines.{takes_memory}
use Rattle.gate_settings.specs.declared.settings.ReportForm.{ReportForm}
use Rattle.gate_settings.specs.declared.settings.Settings.{Settings as GateSettings}
use Rattle.pcap_merge.specs.Prelude.{Merged, Done as BothEnded, Fault as EndsFaulty, slot_of, EndsAtTaken, TakenFor, Merging, HeadsAre, HasGiven, all_events, ahead, work, AtEnds}
use Rattle.gate_report.specs.declared.totals.Totals.{Totals}
use Rattle.run_setup.specs.declared.status.Status.{Status}
use Rattle.run_setup.specs.declared.status.Status.TheVariants.{SettingsRefused, CaptureRefused, ReadFault, WriteFault, OpenFault, OutOfMemory}
use Rattle.gateway.specs.Pieces.{Piece, wrote_pieces, IsFront}
use Rattle.gateway.specs.Inside.Pieces.{WritesAll, WritesFront}
use Rattle.gate_report.specs.declared.line.Line.{Line}
use Rattle.run_setup.specs.Prelude.{Causes, started_all, StartsBefore, StartedBy, IsAccepted, IsBeforeHead, TookCaptures, TookInputs}
use Rattle.run_setup.specs.RunNames.{Names, settings_starts, first_starts}
use Rattle.gateway.specs.Causes.{StartedToWant}
use Rattle.gateway.specs.Inside.Causes.{CausesOfWriting, CausesOfReadying, WritesReportLine}
use Rattle.gate_core.specs.Gates.{Gateway}
use Rattle.gate_core.specs.Memory.{GateMayWant}
use Rattle.gate_model.specs.Prelude.{out, World, at_moment, opening_world}
use Rattle.gate_sessions.specs.Compact.{CompactSession, compact_rules}
use Rattle.frag_join.specs.Prelude.{Arrival, Reaches, Stopped}
use Rattle.gateway.specs.Machine.{State, after, after_one, heads, frames_of, given_by, given_by_merged, line_piece, line_of}
use Rattle.gateway.specs.Ends.{Ends, IsOfFirst, StandWritten, Wants}

-- the gate may want memory for a frame: it may where an event comes to it
abbrev pub ArrivalMayWant : World CompactSession → Arrival → Type 0
ArrivalMayWant w (Reaches e) = GateMayWant (at_moment w e.moment) e
ArrivalMayWant w (Stopped e verdict) = ⊥

-- what a run has started where it ended before its outputs
abbrev pub HasStartedFirst : Status → Names → Outside → Outside → Type 0
HasStartedFirst (SettingsRefused fault) names old new = new.starts ≡ started_all (settings_starts names) old.starts
HasStartedFirst (CaptureRefused side fault place) names old new = new.starts ≡ started_all (first_starts names) old.starts
HasStartedFirst (ReadFault Settings) names old new = new.starts ≡ started_all (settings_starts names) old.starts
HasStartedFirst (ReadFault slot) names old new = new.starts ≡ started_all (first_starts names) old.starts
HasStartedFirst (OpenFault slot) names old new = StartsBefore slot (first_starts names) old new
HasStartedFirst OutOfMemory names old new = StartedToWant names old new
HasStartedFirst status names old new = ⊥

-- where reading a capture failed, its head was not taken whole; where a capture was refused, a head is faulty
abbrev pub IsAtHeads : Status → Outside → Outside → Type 0
IsAtHeads (CaptureRefused side fault place) old new = HeadsAre false old.left
IsAtHeads (ReadFault slot) old new = IsBeforeHead slot old new
IsAtHeads status old new = Unit {0}

-- a phase before the outputs ended a run, which is then not done, and wrote nothing
pub record EndsUnwritten (status : Status) (names : Names) (old new : Outside) : Type 0 where
  pub ends : Ends status old new
  pub started : HasStartedFirst status names old new
  pub written : new.written ≡ old.written
  pub heads : IsAtHeads status old new

-- the settings were accepted, both heads were read, and all events are still to come
pub record Prepared (gate : Gateway) (m : Merging) (appended : List Start) (old new : Outside) : Type 0 where
  pub accepted : IfSome old.left (IsAccepted gate.settings)
  pub world : gate.world ≡ opening_world gate.settings
  pub stop : m.stop ≡ None
  pub heads : HeadsAre true old.left
  pub events : all_events old.left ≡ ahead m new.left
  pub given : HasGiven old m new []
  pub work : work m ≤ 2 ^ 41
  pub ends : AtEnds m new
  pub inputs : TookInputs old new
  pub starts : new.starts ≡ started_all appended old.starts
  pub written : new.written ≡ old.written
  pub grows : Grows old new
  pub counts : NoneFailed old new

-- a run whose settings and heads were read, since this outside
pub record IsPrepared (gate : Gateway) (m : Merging) (names : Names) (now : Outside) : Type 0 where
  pub since : Outside
  pub prepared : Prepared gate m (first_starts names) since now

-- both outgoing heads were written
pub record Readied (settings : GateSettings) (appended : List Start) (old new : Outside) : Type 0 where
  pub left : new.left ≡ old.left
  pub starts : new.starts ≡ started_all appended old.starts
  pub written : new.written ≡ wrote_pieces (heads settings) old.written
  pub grows : Grows old new
  pub counts : NoneFailed old new

-- what a phase that starts and writes has written where it stopped: nothing where a start failed, or a front
abbrev pub WroteWhere : Status → List Piece → Trace → Trace → Type 0
WroteWhere (OpenFault slot) pieces old new = new ≡ old
WroteWhere status pieces old new = IsFront pieces old new

-- a phase that writes stopped
pub record StopsInFront (status : Status) (appended : List Start) (pieces : List Piece) (old new : Outside) : Type 0 where
  pub cause : CausesOfReadying status old new
  pub started : StartedBy status appended old new
  pub written : WroteWhere status pieces old.written new.written
  pub grows : Grows old new

-- what starting the outputs and writing both heads answers
abbrev pub Readies : Result (Unit {0}) Status → GateSettings → List Start → Outside → Outside → Type 0
Readies (Ok u) settings starts old new = Readied settings starts old new
Readies (Err status) settings starts old new = StopsInFront status starts (heads settings) old new

-- the events of a merge, as far as they are told, have this property
abbrev pub OfEvents : Merging → Outside → (Merged → Type 0) → Type 0
OfEvents m old P = IfSome (ahead m old.left) P

-- a run over the events of a merge ended: of each side no more records were taken than those of the events that stand written, and one more
pub record TookFew (settings : GateSettings) (m : Merging) (old new : Outside) : Type 0 where
  pub handled : List Event
  pub few : (start : Outside) → HasGiven start m old [] → TakenFor handled start new
  pub stand : OfEvents m old (λ all. StandWritten settings handled all.events old.written new.written)
  pub captures : TookCaptures old new

-- reading a capture failed: what the first events give stands written, whole, and the last of them is that of the last record that was taken whole from it
pub record StopsReading (slot : Slot) (settings : GateSettings) (m : Merging) (old new : Outside) : Type 0 where
  pub side : Side
  pub slot_is : slot ≡ slot_of side
  pub handled : List Event
  pub written : OfEvents m old (λ all. IsOfFirst settings handled all.events old.written new.written)
  pub taken : (start : Outside) → HasGiven start m old [] → EndsAtTaken side start new handled

-- how the events of a merge end: with the last line, or with a status
abbrev pub Forwards : Result Line Status → GateSettings → Merging → Outside → Outside → Type 0
Forwards (Ok line) settings m old new =
    OfEvents m old
    (λ all. (all.ending ≡ BothEnded) × (new.written ≡ wrote_pieces (given_by_merged settings all) old.written) × (line ≡ line_of settings all))
    × IsAtEnd new LeftIn × IsAtEnd new RightIn × NoneFailed old new
Forwards (Err (CaptureRefused side fault place)) settings m old new =
    OfEvents m old (λ all. (all.ending ≡ EndsFaulty side fault place) × (new.written ≡ wrote_pieces (given_by_merged settings all) old.written))
    × NoneFailed old new
Forwards (Err (ReadFault slot)) settings m old new = Causes (ReadFault slot) old new × StopsReading slot settings m old new
Forwards (Err (WriteFault slot)) settings m old new = Causes (WriteFault slot) old new
    × OfEvents m old (λ all. IsFront (given_by_merged settings all) old.written new.written)
Forwards (Err OutOfMemory) settings m old new = OfEvents m old (λ all. Wants settings all old.written new.written)
Forwards (Err status) settings m old new = ⊥

-- what a gate knows, and what is counted
abbrev pub state_of : Gateway → Totals → State CompactSession
state_of gate totals = record { world = gate.world; totals = totals }

-- counts to which a frame's can be added: no more frames passed or were refused than came, and to either realm at most 4,096 times as many datagrams went out
pub record CanCount (t : Totals) : Type 0 where
  pub passed : t.passed ≤ t.events
  pub refused : t.refused ≤ t.events
  pub to_left : t.to_left ≤ MOST_DATAGRAMS * t.events
  pub to_right : t.to_right ≤ MOST_DATAGRAMS * t.events

-- how many datagrams go out at a frame
abbrev pub frames_by : World CompactSession → Arrival → ℕ
frames_by w (Reaches e) = length (out compact_rules w e)
frames_by w (Stopped e verdict) = 0

-- a frame was taken, and what it gives was written: no more datagrams than an event gives
pub record Handled (after : Totals) (gate gate' : Gateway) (totals : Totals) (a : Arrival) (old new : Outside) : Type 0 where
  pub settings : gate'.settings ≡ gate.settings
  pub state : state_of gate' after ≡ after_one compact_rules (state_of gate totals) a
  pub gives : WritesAll (given_by compact_rules gate.settings (state_of gate totals) a) old new
  pub few : frames_by gate.world a ≤ MOST_DATAGRAMS

-- what writing the last line answers
abbrev pub WritesLastLine : Result Line Status → ReportForm → Line → Outside → Outside → Type 0
WritesLastLine (Ok done) form line old new = (done ≡ line) × WritesAll (line_piece form line ∷ []) old new
WritesLastLine (Err status) form line old new = WritesReportLine (Err status) form (line_piece form line ∷ []) old new

-- memory was wanting: the gate wanted it before anything was written, or the line did behind the frames, in a form that takes some
abbrev pub WantsIn : Gateway → Totals → Arrival → Outside → Outside → Type 0
WantsIn gate totals a old new =
    (ArrivalMayWant gate.world a × (new ≡ old))
    ⊎ ((takes_memory gate.settings.report ≡ true) × WritesAll (frames_of compact_rules gate.settings (state_of gate totals) a) old new)

-- what was counted, where an event was taken
abbrev pub counting : Totals → Result (Unit {0}) Status → Result Totals Status
counting totals (Ok done) = Ok totals
counting totals (Err status) = Err status

-- what a frame answers
abbrev pub Handles : Result Totals Status → Gateway → Gateway → Totals → Arrival → Outside → Outside → Type 0
Handles (Ok after) gate gate' totals a old new = Handled after gate gate' totals a old new
Handles (Err OutOfMemory) gate gate' totals a old new = WantsIn gate totals a old new
Handles (Err status) gate gate' totals a old new = CausesOfWriting status old new
    × WritesFront (given_by compact_rules gate.settings (state_of gate totals) a) old new
