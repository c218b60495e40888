use Rattle.gate_workload.proofs.Whole.{left_whole, right_whole}
use Rattle.gate_workload.proofs.workload.captures_are_whole.Goals as goal

pub returns-clause-left : goal.returns-clause-left
returns-clause-left c = left_whole

pub returns-clause-right : goal.returns-clause-right
returns-clause-right c = right_whole
