use Rattle.gate_workload.proofs.Options.{none_short}
use Rattle.gate_workload.proofs.rounds.Making.send_reply.Goals as goal

pub right_segment-requires-clause-options : goal.right_segment-requires-clause-options
right_segment-requires-clause-options c = none_short
