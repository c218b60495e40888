-- The parts of an audit, and how each answers.
use Rattle.std.specs.Prelude.{◌≡◌, ◌⊎◌, ◌^◌, ◌≤◌, ℕ, true, List, [], ◌++◌, Option, Some, None, Result, Ok, Err, IfSome, IsTrue, option_map}
use Rattle.gate_base.specs.declared.side.Side.{Side}
use Rattle.gate_desk.specs.declared.slot.Slot.TheVariants.{Settings, LeftIn, RightIn, LeftGiven, RightGiven, ReportGiven, Report}
use Rattle.gate_desk.specs.declared.slot.PerSlot.{PerSlot}
use Rattle.gate_desk.specs.Outside.{Outside, Grows, NoneFailed, IsAtEnd, HasFailed, HasFailedToStart, Writes, WritesPart, took, told_at}
use Rattle.gate_report.specs.Counts.{nothing_counted}
use Rattle.gate_settings.specs.declared.settings.Settings.{Settings as GateSettings}
use Rattle.gate_settings.specs.Prelude.{IsSound, HasForms}
use Rattle.pcap_merge.specs.Prelude.{Merging, HasGiven, HeadsAre, all_events, ahead, work, AtEnds, slot_of}
use Rattle.lawful_files.specs.Prelude.{Given, HasLink, given_of}
use Rattle.file_audit.specs.declared.given.GivenFiles.{GivenFiles}
use Rattle.file_audit.specs.Events.{AreToRead, Finds}
use Rattle.file_audit.specs.Given.{Fits, IsRunning, given_slot, given_told}
use Rattle.run_setup.specs.declared.status.Status.{Status}
use Rattle.run_setup.specs.declared.status.Status.TheVariants.{Done, CaptureRefused, ReadFault, WriteFault, OpenFault, OutOfMemory, Unlawful}
use Rattle.run_setup.specs.Prelude.{IsAccepted, started_all, StartsBefore, is_started}
use Rattle.gateway_audit.specs.declared.verdict.AuditVerdict.{AuditVerdict}
use Rattle.gateway_audit.specs.declared.verdict.AuditVerdict.TheVariants as verdicts
use Rattle.run_setup.specs.AuditNames.{Names, first_starts, given_starts, answer_start, plan}
use Rattle.gateway_audit.specs.Lines.{answer_line}
use Rattle.gateway_audit.specs.Causes.{IsVerdict}
use Rattle.gateway_audit.specs.Audits.{IsAudit}

-- ## The incoming captures

-- the settings were accepted and both heads read: all events are still to come, and nothing was taken of the given files
pub record Prepared (settings : GateSettings) (m : Merging) (names : Names) (old new : Outside) : Type 0 where
  pub accepted : IfSome old.left (IsAccepted settings)
  pub sound : IsSound settings
  pub forms : HasForms settings
  pub stop : m.stop ≡ None
  pub work : work m ≤ 2 ^ 41
  pub ends : AtEnds m new
  pub given : HasGiven old m new []
  pub heads : HeadsAre true old.left
  pub events : all_events old.left ≡ ahead m new.left
  pub settings_count : ℕ
  pub left_count : ℕ
  pub right_count : ℕ
  pub left : new.left ≡ took RightIn right_count (took LeftIn left_count (took Settings settings_count old.left))
  pub starts : new.starts ≡ started_all (first_starts names) old.starts
  pub written : new.written ≡ old.written
  pub grows : Grows old new
  pub counts : NoneFailed old new

-- ## The given files

-- both given captures have heads with the settings' links
abbrev pub HaveLinks : GateSettings → PerSlot (List ℕ) → Type 0
HaveLinks settings all = HasLink settings.left.link all.left_given × HasLink settings.right.link all.right_given

-- what the octets of the given files tell
abbrev pub given_in : PerSlot (List ℕ) → Given
given_in all = given_of all.left_given all.right_given all.report_given

-- both heads are good and all else is still to come, or one isn't good
abbrev pub HeadsGiven : Option GivenFiles → GateSettings → Outside → Outside → Type 0
HeadsGiven (Some r) settings old new = IsRunning r × Fits nothing_counted r × IfSome old.left (HaveLinks settings)
    × (given_told r new.left ≡ option_map given_in old.left)
HeadsGiven None settings old new = IfSome old.left (λ all. HaveLinks settings all → ⊥)

-- what reading both heads answers: of the slots that are read, one of theirs may fail
abbrev pub Begins : Result (Option GivenFiles) Status → GateSettings → Outside → Outside → Type 0
Begins (Ok found) settings old new = HeadsGiven found settings old new × NoneFailed old new
Begins (Err (ReadFault slot)) settings old new = ((side : Side) × (slot ≡ given_slot side)) × HasFailed slot old new
Begins (Err OutOfMemory) settings old new = Unit {0}
Begins (Err status) settings old new = ⊥

-- both heads were read, and all slots are started
pub record Readied (found : Option GivenFiles) (settings : GateSettings) (names : Names) (old new : Outside) : Type 0 where
  pub heads : HeadsGiven found settings old new
  pub left_count : ℕ
  pub right_count : ℕ
  pub report_count : ℕ
  pub left : new.left ≡ took ReportGiven report_count (took RightGiven right_count (took LeftGiven left_count old.left))
  pub starts : new.starts ≡ started_all (given_starts names ++ answer_start names) old.starts
  pub written : new.written ≡ old.written
  pub grows : Grows old new
  pub counts : NoneFailed old new

-- nothing was taken of the incoming captures
abbrev pub LeavesIncoming : Outside → Outside → Type 0
LeavesIncoming old new = (side : Side) → told_at new.left (slot_of side) ≡ told_at old.left (slot_of side)

-- why it could not be so
abbrev pub CausesAtGiven : Status → Outside → Outside → Type 0
CausesAtGiven (ReadFault slot) old new = ((side : Side) × (slot ≡ given_slot side)) × HasFailed slot old new
CausesAtGiven (OpenFault slot) old new = IsTrue (is_started slot) × HasFailedToStart slot old new
CausesAtGiven OutOfMemory old new = LeavesIncoming old new
CausesAtGiven status old new = ⊥

-- what was started then
abbrev pub StartedAtGiven : Status → Names → Outside → Outside → Type 0
StartedAtGiven (ReadFault slot) names old new = new.starts ≡ started_all (given_starts names) old.starts
StartedAtGiven (OpenFault slot) names old new = StartsBefore slot (given_starts names ++ answer_start names) old new
StartedAtGiven OutOfMemory names old new = new.starts ≡ started_all (given_starts names) old.starts
StartedAtGiven status names old new = ⊥

pub record StopsAtGiven (status : Status) (names : Names) (old new : Outside) : Type 0 where
  pub cause : CausesAtGiven status old new
  pub started : StartedAtGiven status names old new
  pub written : new.written ≡ old.written
  pub grows : Grows old new

-- what starting the given files, reading their heads and starting the report answers
abbrev pub Readies : Result (Option GivenFiles) Status → GateSettings → Names → Outside → Outside → Type 0
Readies (Ok found) settings names old new = Readied found settings names old new
Readies (Err status) settings names old new = StopsAtGiven status names old new

-- ## The events

-- what the events ask for
pub record AreToWalk (settings : GateSettings) (m : Merging) (r : GivenFiles) (o : Outside) : Type 0 where
  pub sound : IsSound settings
  pub forms : HasForms settings
  pub files : AreToRead m r o

-- what is found at the events: a verdict, or an incoming capture is faulty behind frames that are lawful; or a read failed, or memory was wanting
abbrev pub Walks : Result AuditVerdict Status → GateSettings → Merging → GivenFiles → Outside → Outside → Type 0
Walks (Ok (verdicts.Lawful events)) settings m r old new = Finds (Ok events) settings m r old new × NoneFailed old new × IsAtEnd new LeftIn
    × IsAtEnd new RightIn
Walks (Ok (verdicts.Unlawful number reason)) settings m r old new = Finds (Err (Unlawful number reason)) settings m r old new × NoneFailed old new
Walks (Err (CaptureRefused side fault place)) settings m r old new = Finds (Err (CaptureRefused side fault place)) settings m r old new
    × NoneFailed old new
Walks (Err (ReadFault slot)) settings m r old new = Finds (Err (ReadFault slot)) settings m r old new
Walks (Err OutOfMemory) settings m r old new = (new.left ≡ old.left) ⊎ Finds (Err OutOfMemory) settings m r old new
Walks (Err status) settings m r old new = ⊥

-- ## The verdict

-- where the given files are lawful, both incoming captures were read to their ends
abbrev pub WasRead : AuditVerdict → Outside → Type 0
WasRead (verdicts.Lawful events) new = IsAtEnd new LeftIn × IsAtEnd new RightIn
WasRead (verdicts.Unlawful number reason) new = Unit {0}

-- a verdict was found, and all slots are started
pub record Judged (verdict : AuditVerdict) (names : Names) (old new : Outside) : Type 0 where
  pub verdict_is : IfSome old.left (IsVerdict verdict)
  pub read : WasRead verdict new
  pub starts : new.starts ≡ started_all (plan names) old.starts
  pub written : new.written ≡ old.written
  pub grows : Grows old new
  pub counts : NoneFailed old new

-- what an audit finds before it answers, or why it ended
abbrev pub Judges : Result AuditVerdict Status → Names → Outside → Outside → Type 0
Judges (Ok verdict) names old new = Judged verdict names old new
Judges (Err status) names old new = IsAudit status names old new

-- the status of a verdict
abbrev pub status_of : AuditVerdict → Status
status_of (verdicts.Lawful events) = Done
status_of (verdicts.Unlawful number reason) = Unlawful number reason

-- what writing its line answers
abbrev pub Says : Status → AuditVerdict → Outside → Outside → Type 0
Says status verdict old new =
    ((status ≡ status_of verdict) × Writes Report (answer_line verdict) old new × NoneFailed old new)
    ⊎ ((status ≡ WriteFault Report) × WritesPart Report (answer_line verdict) old new × HasFailed Report old new)
