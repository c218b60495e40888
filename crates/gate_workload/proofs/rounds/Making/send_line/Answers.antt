use Rattle.gate_workload.proofs.Options.{none_short}
use Rattle.gate_workload.proofs.rounds.Making.send_line.Goals as goal

pub left_segment-requires-clause-options : goal.left_segment-requires-clause-options
left_segment-requires-clause-options c = none_short
