-- What only proofs and private contracts need beside `Events`.
use Rattle.std.specs.Prelude.{◌≡◌, ◌<◌, true, false, ◌+◌, ◌^◌, ℕ, List, [], ◌∷◌, length, Result, Ok, Err, IfSome}
use Rattle.frag_join.specs.Prelude.{Arrival}
use Rattle.gate_base.specs.declared.event.OutOfMemory.{OutOfMemory}
use Rattle.gate_desk.specs.declared.slot.Slot.TheVariants.{LeftGiven, RightGiven, ReportGiven}
use Rattle.gate_desk.specs.Outside.{Outside, CanRead, HasFailed}
use Rattle.gate_report.specs.declared.totals.Totals.{Totals}
use Rattle.gate_report.specs.Lines.{takes_memory}
use Rattle.gate_settings.specs.declared.settings.Settings.{Settings}
use Rattle.gate_model.specs.Prelude.{WholeSession, World}
use Rattle.pcap_merge.specs.Prelude.{Ending, Done}
use Rattle.lawful_files.specs.declared.reason.AuditReason.{AuditReason}
use Rattle.lawful_files.specs.Prelude.{Given, State, after, IsLawfulAt, IsAtLast, begun, IsSound, IsFirst, event_in, verdict_of, wanted_of}
use Rattle.lawful_files.specs.Wanted.{world_after}
use Rattle.file_audit.specs.declared.line.LineHead.{LineHead}
use Rattle.file_audit.specs.declared.given.GivenFiles.{GivenFiles}
use Rattle.run_setup.specs.declared.status.Status.{Status}
use Rattle.run_setup.specs.declared.status.Status.TheVariants as stops
use Rattle.file_audit.specs.Given.{Fits, IsRunning, given_told}
use Rattle.file_audit.specs.Inside.Given.{Alike}
use Rattle.gate_audit.specs.Auditing.{Auditing, whole_world}
use Rattle.file_audit.specs.Events.{AuditedArrivalMayWant, IsReadInAudit}

-- ## A frame is expected

-- what is known and counted
abbrev pub state_of : Auditing → Totals → State
state_of a totals = record { world = whole_world a; totals = totals }

-- what the line of a frame tells, where so many events stand before it
pub record IsHead (h : LineHead) (number : ℕ) (w : World WholeSession) (x : Arrival) : Type 0 where
  pub number_is : h.number ≡ number
  pub side : h.side ≡ (event_in x).side
  pub moment : h.moment.0 ≡ (event_in x).moment
  pub verdict : h.verdict ≡ verdict_of w x

-- a frame is expected that comes to the gate, or that stays
pub record ExpectsFrame (old new : Auditing) (x : Arrival) : Type 0 where
  pub settings : new.settings ≡ old.settings
  pub world : whole_world new ≡ world_after (whole_world old) x
  pub expecting : new.expecting ≡ record
      { side = (event_in x).side; moment = (event_in x).moment; wanted = wanted_of (whole_world old) x; so_far = begun }
  pub sound : IsSound (wanted_of (whole_world old) x)
  pub kept : new.lost ≡ false

abbrev pub Expected : Result LineHead OutOfMemory → ℕ → Auditing → Auditing → Arrival → Type 0
Expected (Ok h) number old new x = IsHead h number (whole_world old) x × ExpectsFrame old new x
Expected (Err error) number old new x = AuditedArrivalMayWant (whole_world old) x

-- ## What is found at a frame

-- the given files are lawful there, with so many frames
abbrev pub IsLawfulWith : Settings → State → Arrival → ℕ → Given → Given → Type 0
IsLawfulWith settings s x frames g next = (at : IsLawfulAt settings s x g next) × (length at.list ≡ frames)

-- the first reason stands there, whatever comes behind it
abbrev pub IsReasonAt : Settings → State → Arrival → Given → ℕ → AuditReason → Type 0
IsReasonAt settings s x g number reason = (arrivals : List Arrival) (ending : Ending) → IsFirst settings s (x ∷ arrivals) ending g number reason

-- a read of one of them failed
abbrev pub FailsInAudit : Status → Outside → Outside → Type 0
FailsInAudit (stops.ReadFault slot) old new = IsReadInAudit slot × HasFailed slot old new
FailsInAudit stop old new = ⊥

-- each given file can be read and no reader has stopped, nothing was lost, and no more was counted than can be
pub record CanGoOn (r : GivenFiles) (a : Auditing) (totals : Totals) (o : Outside) : Type 0 where
  pub left : CanRead o LeftGiven
  pub right : CanRead o RightGiven
  pub report : CanRead o ReportGiven
  pub running : IsRunning r
  pub kept : a.lost ≡ false
  pub few : totals.events < 2 ^ 42
  pub fits : Fits totals r

-- a frame is lawful with so many frames, and the audit goes on
pub record FoundLawful (frames : ℕ) (totals : Totals) (s : State) (x : Arrival) (r r' : GivenFiles) (a a' : Auditing)
    (old new : Outside) : Type 0 where
  pub state_is : state_of a' totals ≡ after s x frames
  pub lawful : Alike (IsLawfulWith a.settings s x frames) (given_told r old.left) (given_told r' new.left)
  pub settings_are : a'.settings ≡ a.settings
  pub kept : a'.lost ≡ false
  pub running : IsRunning r'
  pub fits : Fits totals r'

-- what is found where this is known and counted before the frame, and it is expected
abbrev pub FindsAt : Result Totals Status → State → Arrival → GivenFiles → GivenFiles → Auditing → Auditing → Outside → Outside → Type 0
FindsAt (Ok totals) s x r r' a a' old new = (frames : ℕ) × FoundLawful frames totals s x r r' a a' old new
FindsAt (Err (stops.Unlawful number reason)) s x r r' a a' old new = IfSome (given_told r old.left) (λ g. IsReasonAt a.settings s x g number reason)
FindsAt (Err (stops.ReadFault slot)) s x r r' a a' old new = IsReadInAudit slot × HasFailed slot old new
FindsAt (Err stops.OutOfMemory) s x r r' a a' old new = takes_memory a.settings.report ≡ true
FindsAt (Err stop) s x r r' a a' old new = ⊥

-- this frame is expected, and this was known and counted before it
pub record IsExpecting (h : LineHead) (totals : Totals) (a : Auditing) (s : State) (x : Arrival) : Type 0 where
  pub head : IsHead h (s.totals.events + 1) s.world x
  pub totals_are : totals ≡ s.totals
  pub world : whole_world a ≡ world_after s.world x
  pub expecting : a.expecting ≡ record { side = (event_in x).side; moment = (event_in x).moment; wanted = wanted_of s.world x; so_far = begun }
  pub sound : IsSound (wanted_of s.world x)

-- ## What is found behind the last one

abbrev pub FindsLast : Result (Unit {0}) Status → Settings → State → GivenFiles → Outside → Outside → Type 0
FindsLast (Ok u) settings s r old new = IfSome (given_told r old.left) (IsAtLast settings s)
FindsLast (Err (stops.Unlawful number reason)) settings s r old new = IfSome (given_told r old.left) (λ g. IsFirst settings s [] Done g number reason)
FindsLast (Err (stops.ReadFault slot)) settings s r old new = IsReadInAudit slot × HasFailed slot old new
FindsLast (Err stops.OutOfMemory) settings s r old new = takes_memory settings.report ≡ true
FindsLast (Err stop) settings s r old new = ⊥
