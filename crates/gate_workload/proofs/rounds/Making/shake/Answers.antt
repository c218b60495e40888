use Rattle.gate_workload.proofs.Options.{none_short, size_short}
use Rattle.gate_workload.proofs.rounds.Making.shake.Goals as goal

pub left_segment-requires-clause-options : goal.left_segment-requires-clause-options
left_segment-requires-clause-options c = size_short

pub right_segment-requires-clause-options : goal.right_segment-requires-clause-options
right_segment-requires-clause-options c = size_short

pub left_segment-requires-2-clause-options : goal.left_segment-requires-2-clause-options
left_segment-requires-2-clause-options c = none_short
