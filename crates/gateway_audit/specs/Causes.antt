-- The cause of each status of an audit, by what the desk tells of its files as it begins.
use Rattle.std.specs.Prelude.{◌≡◌, ◌⊎◌, ℕ, List, [], true, IfSome, IsTrue, Err, length}
use Rattle.gate_report.specs.Lines.{takes_memory}
use Rattle.frag_join.specs.Prelude.{arrivals_of}
use Rattle.gate_desk.specs.declared.slot.Slot.{Slot}
use Rattle.gate_desk.specs.declared.slot.Slot.TheVariants.{Settings, LeftIn, RightIn, LeftGiven, RightGiven, ReportGiven, Report}
use Rattle.gate_desk.specs.declared.slot.PerSlot.{PerSlot}
use Rattle.gate_desk.specs.Outside.{Outside, NoneFailed, IsAtEnd, HasFailed, HasFailedToStart}
use Rattle.gate_settings.specs.declared.settings.Settings.{Settings as GateSettings}
use Rattle.settings_file.specs.Accepting.{settings_of}
use Rattle.pcap_merge.specs.Prelude.{Done as BothEnded, Fault as EndsFaulty, have_good_heads, TakenFor}
use Rattle.lawful_files.specs.declared.reason.AuditReason.{AuditReason}
use Rattle.lawful_files.specs.Prelude.{LawfulFor, given_of}
use Rattle.file_audit.specs.Events.{WantsAt}
use Rattle.lawful_files.specs.Reasons.{FirstReason}
use Rattle.run_setup.specs.declared.status.Status.{Status}
use Rattle.run_setup.specs.declared.status.Status.TheVariants.{Done, Usage, SettingsRefused, CaptureRefused, ReadFault, WriteFault, OpenFault, OutOfMemory, Unlawful}
use Rattle.run_setup.specs.Prelude.{IsAccepted, events_in, is_started}
use Rattle.gateway_audit.specs.declared.verdict.AuditVerdict.{AuditVerdict}
use Rattle.gateway_audit.specs.declared.verdict.AuditVerdict.TheVariants as verdicts

-- the given files are lawful for the incoming captures
abbrev pub AreLawful : GateSettings → PerSlot (List ℕ) → Type 0
AreLawful settings all = LawfulFor settings (events_in all) all.left_given all.right_given all.report_given

-- this is the first reason why they aren't
abbrev pub IsFirstReason : GateSettings → PerSlot (List ℕ) → ℕ → AuditReason → Type 0
IsFirstReason settings all number reason =
    FirstReason settings (arrivals_of settings.join (events_in all).events)
    (events_in all).ending all.left_given all.right_given all.report_given number reason

-- the verdict on these files: the settings are accepted; and both captures end and the given files are lawful, so many events; or both captures have heads and this is the first reason
abbrev pub IsVerdict : AuditVerdict → PerSlot (List ℕ) → Type 0
IsVerdict (verdicts.Lawful events) all = (settings : GateSettings) × IsAccepted settings all × ((events_in all).ending ≡ BothEnded)
    × AreLawful settings all × (events ≡ length (events_in all).events)
IsVerdict (verdicts.Unlawful number reason) all = (settings : GateSettings) × IsAccepted settings all
    × (have_good_heads all.left_in all.right_in ≡ true) × IsFirstReason settings all number reason

-- memory may have been wanting for a line in a form that takes some; or it was for an event, behind others at which the given files are lawful
abbrev pub MayHaveWanted : GateSettings → PerSlot (List ℕ) → Type 0
MayHaveWanted settings all = (takes_memory settings.report ≡ true)
    ⊎ WantsAt settings (events_in all) (given_of all.left_given all.right_given all.report_given)

-- the slots that an audit reads
abbrev pub IsRead : Slot → Type 0
IsRead Settings = Unit {0}
IsRead LeftIn = Unit {0}
IsRead RightIn = Unit {0}
IsRead LeftGiven = Unit {0}
IsRead RightGiven = Unit {0}
IsRead ReportGiven = Unit {0}
IsRead slot = ⊥

-- the cause of a status, and of the counts, none of which rose where the files decide it: where a capture is refused, the given files are lawful as far as the events go, if both heads are good; where memory was wanting, none of the events was taken, or it was for one of them
abbrev pub HasCause : Status → Outside → Outside → Type 0
HasCause Done old new = IfSome old.left (λ all. IsVerdict (verdicts.Lawful (length (events_in all).events)) all) × IsAtEnd new LeftIn
    × IsAtEnd new RightIn × NoneFailed old new
HasCause (Unlawful number reason) old new = IfSome old.left (IsVerdict (verdicts.Unlawful number reason)) × NoneFailed old new
HasCause (SettingsRefused fault) old new = IfSome old.left (λ all. settings_of all.settings ≡ Err fault) × NoneFailed old new
HasCause (CaptureRefused side fault place) old new =
    IfSome old.left
    (λ all. (settings : GateSettings) × IsAccepted settings all × ((events_in all).ending ≡ EndsFaulty side fault place)
    × (have_good_heads all.left_in all.right_in ≡ true → AreLawful settings all)) × NoneFailed old new
HasCause (ReadFault slot) old new = IsRead slot × HasFailed slot old new
HasCause (WriteFault slot) old new = (slot ≡ Report) × HasFailed slot old new
HasCause (OpenFault slot) old new = IsTrue (is_started slot) × HasFailedToStart slot old new
HasCause OutOfMemory old new = TakenFor [] old new
    ⊎ IfSome old.left (λ all. (settings : GateSettings) × IsAccepted settings all × MayHaveWanted settings all)
HasCause Usage old new = ⊥
