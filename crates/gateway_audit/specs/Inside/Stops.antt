-- The verdict of an audit, or why it stopped.
use Rattle.std.specs.Prelude.{ℕ, Result, Ok, Err}
use Rattle.run_setup.specs.declared.status.Status.{Status}
use Rattle.run_setup.specs.declared.status.Status.TheVariants.{Unlawful}
use Rattle.gateway_audit.specs.declared.verdict.AuditVerdict.{AuditVerdict}
use Rattle.gateway_audit.specs.declared.verdict.AuditVerdict.TheVariants as verdicts

-- what an audit of all events found, or why it stopped
abbrev pub verdict_of : Result ℕ Status → Result AuditVerdict Status
verdict_of (Ok events) = Ok (verdicts.Lawful events)
verdict_of (Err (Unlawful number reason)) = Ok (verdicts.Unlawful number reason)
verdict_of (Err status) = Err status
