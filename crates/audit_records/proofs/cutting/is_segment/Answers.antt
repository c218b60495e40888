use Rattle.std.proofs.Common.{◌∙◌, ℕ, List, ap}
use Rattle.audit_records.specs.Inside.Records.{holds}
use Rattle.audit_records.proofs.cutting.is_segment.Goals as goal

pub returns-clause-answer : goal.returns-clause-answer
returns-clause-answer c = c.holds.ensures ∙ ap (λ (x : List ℕ). holds c.args.came.now x) c.put.ensures
