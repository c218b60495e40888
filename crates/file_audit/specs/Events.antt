-- What is found at an event, and over all of them.
use Rattle.std.specs.Prelude.{◌≡◌, ◌≤◌, ◌⊎◌, true, ◌^◌, ℕ, List, [], ◌∷◌, ◌++◌, length, Result, Ok, Err, None, IfSome, option_map}
use Rattle.frag_join.specs.Prelude.{Arrival, Reaches, Stopped, arrival, arrivals_of, joiner_of, by_list}
use Rattle.gate_base.specs.Prelude.{Event}
use Rattle.gate_base.specs.declared.side.Side.{Side}
use Rattle.gate_desk.specs.declared.slot.Slot.{Slot}
use Rattle.gate_desk.specs.declared.slot.Slot.TheVariants.{LeftIn, RightIn, LeftGiven, RightGiven, ReportGiven}
use Rattle.gate_desk.specs.declared.slot.PerSlot.{PerSlot}
use Rattle.gate_desk.specs.Outside.{Outside, CanRead, Grows, HasFailed}
use Rattle.gate_report.specs.Counts.{nothing_counted}
use Rattle.gate_report.specs.Lines.{takes_memory}
use Rattle.gate_settings.specs.declared.settings.Settings.{Settings}
use Rattle.gate_model.specs.Prelude.{WholeSession, World, at_moment}
use Rattle.pcap_merge.specs.Prelude.{Merged, Done, Fault, TakenFor, Merging, HasGiven, AtEnds, ahead, work}
use Rattle.lawful_files.specs.declared.reason.AuditReason.TheVariants.{Capture}
use Rattle.lawful_files.specs.Prelude.{Given, State, opening, given_of, HasLink, LawfulFrom, IsFirst, CameTo}
use Rattle.file_audit.specs.declared.given.GivenFiles.{GivenFiles}
use Rattle.run_setup.specs.declared.status.Status.{Status}
use Rattle.run_setup.specs.declared.status.Status.TheVariants as stops
use Rattle.file_audit.specs.Given.{Fits, IsRunning, TookFiles, given_slot, given_told, IfBoth}
use Rattle.gate_audit.specs.Memory.{AuditorMayWant}

-- the auditor may want memory for a frame: it may where an event comes to it
abbrev pub AuditedArrivalMayWant : World WholeSession → Arrival → Type 0
AuditedArrivalMayWant w (Reaches e) = AuditorMayWant (at_moment w e.moment) e
AuditedArrivalMayWant w (Stopped e verdict) = ⊥

-- the slots that are read behind the settings
abbrev pub IsReadInAudit : Slot → Type 0
IsReadInAudit LeftIn = Unit {0}
IsReadInAudit RightIn = Unit {0}
IsReadInAudit LeftGiven = Unit {0}
IsReadInAudit RightGiven = Unit {0}
IsReadInAudit ReportGiven = Unit {0}
IsReadInAudit slot = ⊥

-- ## What is found over all

-- the auditor wanted memory for the next of these events, behind others at which the given files are lawful
pub record WantsAt (settings : Settings) (all : Merged) (g : Given) : Type 0 where
  pub handled : List Event
  pub next : Event
  pub others : List Event
  pub split : all.events ≡ handled ++ next ∷ others
  pub state : State
  pub left : Given
  pub came : CameTo settings (opening settings) g (arrivals_of settings.join handled) state left
  pub wants : AuditedArrivalMayWant state.world (arrival by_list (joiner_of settings.join handled) next)

-- they are lawful and the captures end; or this is the first reason; or a capture is faulty behind frames that are lawful; or a read failed; or
-- memory was wanting, for a line in a form that takes some or for an event
abbrev pub Finds : Result ℕ Status → Settings → Merging → GivenFiles → Outside → Outside → Type 0
Finds (Ok events) settings m r old new =
    IfBoth (ahead m old.left) (given_told r old.left)
    (λ all g. (all.ending ≡ Done) × (events ≡ length all.events)
    × LawfulFrom settings (opening settings) (arrivals_of settings.join all.events) all.ending g)
Finds (Err (stops.Unlawful number reason)) settings m r old new =
    IfBoth (ahead m old.left) (given_told r old.left)
    (λ all g. IsFirst settings (opening settings) (arrivals_of settings.join all.events) all.ending g number reason)
Finds (Err (stops.CaptureRefused side fault place)) settings m r old new =
    IfBoth (ahead m old.left) (given_told r old.left)
    (λ all g. (all.ending ≡ Fault side fault place) × LawfulFrom settings (opening settings) (arrivals_of settings.join all.events) all.ending g)
Finds (Err (stops.ReadFault slot)) settings m r old new = IsReadInAudit slot × HasFailed slot old new
Finds (Err stops.OutOfMemory) settings m r old new = (takes_memory settings.report ≡ true)
    ⊎ IfBoth (ahead m old.left) (given_told r old.left) (WantsAt settings)
Finds (Err stop) settings m r old new = ⊥

-- these are the first of the events, and the given files are lawful for them
pub record IsLawfulFront (settings : Settings) (all : Merged) (g : Given) (handled : List Event) : Type 0 where
  pub others : List Event
  pub split : all.events ≡ handled ++ others
  pub state : State
  pub left : Given
  pub came : CameTo settings (opening settings) g (arrivals_of settings.join handled) state left

-- what the audit of all events asks of the files that it reads
pub record AreToRead (m : Merging) (r : GivenFiles) (o : Outside) : Type 0 where
  pub left_in : CanRead o LeftIn
  pub right_in : CanRead o RightIn
  pub left_given : CanRead o LeftGiven
  pub right_given : CanRead o RightGiven
  pub report_given : CanRead o ReportGiven
  pub stop : m.stop ≡ None
  pub work : work m ≤ 2 ^ 41
  pub ends : AtEnds m o
  pub running : IsRunning r
  pub fits : Fits nothing_counted r

-- of each incoming capture no more whole records were taken than those of first events for which the given files are lawful, and one more,
-- and it was read no further than a capture may be and the head of a record; and of slots but these and those of the given files nothing
-- was taken. Nothing was started or written, and no count fell
pub record TookFew (settings : Settings) (m : Merging) (r : GivenFiles) (old new : Outside) : Type 0 where
  pub handled : List Event
  pub few : (start : Outside) → HasGiven start m old [] → TakenFor handled start new
  pub front : IfBoth (ahead m old.left) (given_told r old.left) (λ all g. IsLawfulFront settings all g handled)
  pub files : TookFiles old new
  pub starts : new.starts ≡ old.starts
  pub written : new.written ≡ old.written
  pub grows : Grows old new

-- ## The beginning

-- both heads are good and have the settings' links; or one isn't so; or a read failed; or memory was wanting
abbrev pub BeginsGiven : Result GivenFiles Status → Settings → Outside → Outside → Type 0
BeginsGiven (Ok r) settings old new =
    IsRunning r × Fits nothing_counted r
    × IfSome old.left (λ all. HasLink settings.left.link all.left_given × HasLink settings.right.link all.right_given)
    × (given_told r new.left ≡ option_map (λ (all : PerSlot (List ℕ)). given_of all.left_given all.right_given all.report_given) old.left)
BeginsGiven (Err (stops.Unlawful number reason)) settings old new =
    (number ≡ 0) × (reason ≡ Capture)
    × IfSome old.left (λ all. HasLink settings.left.link all.left_given × HasLink settings.right.link all.right_given → ⊥)
BeginsGiven (Err (stops.ReadFault slot)) settings old new = ((side : Side) × (slot ≡ given_slot side)) × HasFailed slot old new
BeginsGiven (Err stops.OutOfMemory) settings old new = Unit {0}
BeginsGiven (Err stop) settings old new = ⊥
