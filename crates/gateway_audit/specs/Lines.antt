-- The line in which an audit answers.
use Rattle.std.specs.Prelude.{ℕ, List, ◌++◌, codes, decimal}
use Rattle.lawful_files.specs.declared.reason.AuditReason.{AuditReason}
use Rattle.lawful_files.specs.declared.reason.AuditReason.TheVariants.{Capture, Line, Missing, Frame, Left}
use Rattle.gateway_audit.specs.declared.verdict.AuditVerdict.{AuditVerdict}
use Rattle.gateway_audit.specs.declared.verdict.AuditVerdict.TheVariants.{Lawful, Unlawful}

-- the name of a reason
unfoldable pub reason_name : AuditReason → List ℕ
reason_name Capture = codes "Capture"
reason_name Line = codes "Line"
reason_name Missing = codes "Missing"
reason_name Frame = codes "Frame"
reason_name Left = codes "Left"

-- how many events are lawful, or the first event that isn't and why
abbrev pub answer_line : AuditVerdict → List ℕ
answer_line (Lawful events) = codes "lawful events=" ++ decimal events ++ codes "\n"
answer_line (Unlawful number reason) = codes "unlawful event=" ++ decimal number ++ codes " " ++ reason_name reason ++ codes "\n"
