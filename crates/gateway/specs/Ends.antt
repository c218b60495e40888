-- How a run ends: the cause of each status, and what stands written then.
use Rattle.std.specs.Prelude.{◌≡◌, ◌⊎◌, ℕ, List, [], ◌∷◌, ◌++◌, if◌then◌else◌, true, Err, IfSome}
use Rattle.gate_base.specs.Prelude.{Event}
use Rattle.gate_desk.specs.declared.slot.Slot.TheVariants.{LeftIn, RightIn}
use Rattle.gate_desk.specs.declared.slot.PerSlot.{PerSlot}
use Rattle.gate_desk.specs.Outside.{Outside, Trace, Grows, NoneFailed, IsAtEnd}
use Rattle.gate_report.specs.Lines.{takes_memory}
use Rattle.gate_settings.specs.declared.settings.Settings.{Settings as GateSettings}
use Rattle.settings_file.specs.Accepting.{settings_of}
use Rattle.pcap_merge.specs.Prelude.{Merged, Ending, Done as BothEnded, Fault as EndsFaulty, have_good_heads}
use Rattle.run_setup.specs.declared.status.Status.{Status}
use Rattle.run_setup.specs.declared.status.Status.TheVariants.{Done, Usage, SettingsRefused, CaptureRefused, ReadFault, WriteFault, OpenFault, OutOfMemory, Unlawful}
use Rattle.run_setup.specs.Prelude.{IsAccepted, events_in, Causes}
use Rattle.gateway.specs.Pieces.{Piece, wrote_pieces, IsFront}
use Rattle.gate_core.specs.WholeMemory.{WholeMayWant}
use Rattle.gate_model.specs.Prelude.{whole_rules}
use Rattle.frag_join.specs.Prelude.{Reaches, arrival, joiner_of, by_list}
use Rattle.gateway.specs.Machine.{after, arrivals_by, frames_of, given_by_all, files, opening}

-- the cause of a status, by what the desk tells of the settings and the captures as the run begins, and by the counts, none of which rose where a run is done or refuses its settings or a capture
abbrev pub HasCause : Status → Outside → Outside → Type 0
HasCause Done old new = IfSome old.left (λ all. (settings : GateSettings) × IsAccepted settings all × ((events_in all).ending ≡ BothEnded))
    × IsAtEnd new LeftIn × IsAtEnd new RightIn × NoneFailed old new
HasCause Usage old new = ⊥
HasCause (Unlawful number reason) old new = ⊥
HasCause (SettingsRefused fault) old new = IfSome old.left (λ all. settings_of all.settings ≡ Err fault) × NoneFailed old new
HasCause (CaptureRefused side fault place) old new =
    IfSome old.left (λ all. (settings : GateSettings) × IsAccepted settings all × ((events_in all).ending ≡ EndsFaulty side fault place))
    × NoneFailed old new
HasCause (ReadFault slot) old new = Causes (ReadFault slot) old new
HasCause (WriteFault slot) old new = Causes (WriteFault slot) old new
HasCause (OpenFault slot) old new = Causes (OpenFault slot) old new
HasCause OutOfMemory old new = Causes OutOfMemory old new

-- what a run writes to its three outputs: nothing where a head is faulty
unfoldable pub outputs_of : GateSettings → PerSlot (List ℕ) → List Piece
outputs_of settings all = if have_good_heads all.left_in all.right_in then files settings (events_in all) else []

-- a run or a phase of it ended, with a cause
pub record Ends (status : Status) (old new : Outside) : Type 0 where
  pub cause : HasCause status old new
  pub grows : Grows old new

-- these are the first of the events, and what they give stands written, whole
pub record IsOfFirst (settings : GateSettings) (handled events : List Event) (old new : Trace) : Type 0 where
  pub others : List Event
  pub split : events ≡ handled ++ others
  pub written : new ≡ wrote_pieces (given_by_all whole_rules settings (opening settings) (arrivals_by settings handled)) old

-- these are the first of the events, and what they give stands written, with a front of something behind it
pub record StandWritten (settings : GateSettings) (handled events : List Event) (old new : Trace) : Type 0 where
  pub others : List Event
  pub split : events ≡ handled ++ others
  pub behind : List Piece
  pub written : IsFront behind (wrote_pieces (given_by_all whole_rules settings (opening settings) (arrivals_by settings handled)) old) new

-- the gate wanted memory for the event that came to it with a frame: what those before it give stands written, whole
pub record WantsAt (settings : GateSettings) (events : List Event) (old new : Trace) : Type 0 where
  pub handled : List Event
  pub next : Event
  pub others : List Event
  pub split : events ≡ handled ++ next ∷ others
  pub written : new ≡ wrote_pieces (given_by_all whole_rules settings (opening settings) (arrivals_by settings handled)) old
  pub came : Event
  pub comes : arrivals_by settings (handled ++ next ∷ []) ≡ arrivals_by settings handled ++ Reaches came ∷ []
  pub wants : WholeMayWant (after whole_rules (opening settings) (arrivals_by settings handled)).world came

-- behind what these events gave the frames of the next one stand written, whole; where there is none, nothing, and both captures are at their ends
abbrev pub WroteFrames : GateSettings → Ending → List Event → List Event → Trace → Trace → Type 0
WroteFrames settings ending handled [] old new = (ending ≡ BothEnded) × (new ≡ old)
WroteFrames settings ending handled (next ∷ others) old new =
    new ≡ wrote_pieces
    (frames_of whole_rules settings (after whole_rules (opening settings) (arrivals_by settings handled))
    (arrival by_list (joiner_of settings.join handled) next)) old

-- memory was wanting for a line: what the events before it give stands written, whole, and of its own event just the frames
pub record WantsLine (settings : GateSettings) (all : Merged) (old new : Trace) : Type 0 where
  pub handled : List Event
  pub others : List Event
  pub split : all.events ≡ handled ++ others
  pub written : WroteFrames settings all.ending handled others
      (wrote_pieces (given_by_all whole_rules settings (opening settings) (arrivals_by settings handled)) old) new

-- memory was wanting behind the heads: for an event on which the gate may want it, or for a line in a form that takes some
abbrev pub Wants : GateSettings → Merged → Trace → Trace → Type 0
Wants settings all old new = WantsAt settings all.events old new ⊎ ((takes_memory settings.report ≡ true) × WantsLine settings all old new)
