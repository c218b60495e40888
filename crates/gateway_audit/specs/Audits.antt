-- What an audit answers, starts and writes.
use Rattle.std.specs.Prelude.{◌≡◌, ◌⊎◌, ℕ, ◌≤◌, ◌+◌, ◌^◌, List, [], Bool, IfSome, if◌then◌else◌, length, take}
use Rattle.gate_desk.specs.declared.slot.Slot.{Slot}
use Rattle.gate_desk.specs.declared.slot.Slot.TheVariants.{Settings, LeftIn, RightIn, LeftGiven, RightGiven, ReportGiven, Report}
use Rattle.gate_desk.specs.Outside.{Outside, Start, Grows, took, wrote}
use Rattle.gate_base.specs.Prelude.{Event}
use Rattle.gate_settings.specs.declared.settings.Settings.{Settings as GateSettings}
use Rattle.pcap_merge.specs.Prelude.{have_good_heads, TakenFor}
use Rattle.lawful_files.specs.Prelude.{given_of}
use Rattle.file_audit.specs.Events.{IsLawfulFront}
use Rattle.run_setup.specs.declared.status.Status.{Status}
use Rattle.run_setup.specs.declared.status.Status.TheVariants.{Done, SettingsRefused, CaptureRefused, ReadFault, WriteFault, OpenFault, OutOfMemory, Unlawful}
use Rattle.run_setup.specs.Prelude.{IsAccepted, events_in, settings_start, started_all, StartsBefore}
use Rattle.gateway_audit.specs.declared.verdict.AuditVerdict.{AuditVerdict}
use Rattle.gateway_audit.specs.declared.verdict.AuditVerdict.TheVariants as verdicts
use Rattle.run_setup.specs.AuditNames.{Names, first_starts, read_starts, plan}
use Rattle.gateway_audit.specs.Lines.{answer_line}
use Rattle.gateway_audit.specs.Causes.{IsVerdict, HasCause}

-- what is started where an incoming capture is refused: all, or where a head is faulty no more than both incoming captures
abbrev pub refused_starts : Bool → Names → List Start
refused_starts good names = if good then plan names else first_starts names

-- these are started, or all
abbrev pub HasStartedOrAll : List Start → Names → Outside → Outside → Type 0
HasStartedOrAll starts names old new = (new.starts ≡ started_all starts old.starts) ⊎ (new.starts ≡ started_all (plan names) old.starts)

-- what is started where reading a slot failed: a head is read before what stands behind it is started, and the given report is read behind all starts
abbrev pub HasStartedToRead : Slot → Names → Outside → Outside → Type 0
HasStartedToRead Settings names old new = new.starts ≡ started_all (settings_start names.settings) old.starts
HasStartedToRead LeftIn names old new = HasStartedOrAll (first_starts names) names old new
HasStartedToRead RightIn names old new = HasStartedOrAll (first_starts names) names old new
HasStartedToRead LeftGiven names old new = HasStartedOrAll (read_starts names) names old new
HasStartedToRead RightGiven names old new = HasStartedOrAll (read_starts names) names old new
HasStartedToRead slot names old new = new.starts ≡ started_all (plan names) old.starts

-- what is started where memory was wanting: the settings alone, no more than both incoming captures, all that is read, or all
abbrev pub HasStartedToWant : Names → Outside → Outside → Type 0
HasStartedToWant names old new =
    (new.starts ≡ started_all (settings_start names.settings) old.starts)
    ⊎ ((new.starts ≡ started_all (first_starts names) old.starts) ⊎ HasStartedOrAll (read_starts names) names old new)

-- what an audit has started, by its status
abbrev pub HasStarted : Status → Names → Outside → Outside → Type 0
HasStarted (SettingsRefused fault) names old new = new.starts ≡ started_all (settings_start names.settings) old.starts
HasStarted (CaptureRefused side fault place) names old new =
    IfSome old.left (λ all. new.starts ≡ started_all (refused_starts (have_good_heads all.left_in all.right_in) names) old.starts)
HasStarted (ReadFault slot) names old new = HasStartedToRead slot names old new
HasStarted (OpenFault slot) names old new = StartsBefore slot (plan names) old new
HasStarted OutOfMemory names old new = HasStartedToWant names old new
HasStarted status names old new = new.starts ≡ started_all (plan names) old.starts

-- this line stands written on the report
abbrev pub HasAnswered : AuditVerdict → Outside → Outside → Type 0
HasAnswered verdict old new = new.written ≡ wrote Report (answer_line verdict) old.written

-- or a front of it
abbrev pub HasAnsweredPartly : AuditVerdict → Outside → Outside → Type 0
HasAnsweredPartly verdict old new = (n : ℕ) × (n ≤ length (answer_line verdict))
    × (new.written ≡ wrote Report (take n (answer_line verdict)) old.written)

-- what stands written after an audit, by its status: its answer, or a front of that, or nothing
abbrev pub HasWritten : Status → Outside → Outside → Type 0
HasWritten Done old new = IfSome old.left (λ all. HasAnswered (verdicts.Lawful (length (events_in all).events)) old new)
HasWritten (Unlawful number reason) old new = HasAnswered (verdicts.Unlawful number reason) old new
HasWritten (WriteFault slot) old new = (verdict : AuditVerdict) × IfSome old.left (IsVerdict verdict) × HasAnsweredPartly verdict old new
HasWritten status old new = new.written ≡ old.written

-- of the settings no more octets were taken than they may have and one, of the incoming captures and of the given files so many, and of no other slot any
pub record TookRead (old new : Outside) : Type 0 where
  pub settings_count : ℕ
  pub few : settings_count ≤ 2 ^ 20 + 1
  pub left_in_count : ℕ
  pub right_in_count : ℕ
  pub left_given_count : ℕ
  pub right_given_count : ℕ
  pub report_given_count : ℕ
  pub left : new.left ≡ took ReportGiven report_given_count
      (took RightGiven right_given_count
      (took LeftGiven left_given_count (took RightIn right_in_count (took LeftIn left_in_count (took Settings settings_count old.left)))))

-- what an audit took: of each incoming capture no more whole records than those of first events for which the given files are lawful, and
-- one more, and it read neither further than a capture may be and the head of a record; and of slots that it doesn't read nothing
pub record TookForEvents (old new : Outside) : Type 0 where
  pub handled : List Event
  pub few : TakenFor handled old new
  pub front : (handled ≡ []) ⊎ IfSome old.left (λ all. (settings : GateSettings) × IsAccepted settings all
      × IsLawfulFront settings (events_in all) (given_of all.left_given all.right_given all.report_given) handled)
  pub read : TookRead old new

-- what an audit answers: its cause, what it started, and what it wrote
pub record IsAudit (status : Status) (names : Names) (old new : Outside) : Type 0 where
  pub cause : HasCause status old new
  pub starts : HasStarted status names old new
  pub written : HasWritten status old new
  pub grows : Grows old new
