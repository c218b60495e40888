use Rattle.gate_model.proofs.Traces.{no_trace}
use Rattle.gate_model.proofs.laws.refusals_leave_no_trace.Goals as goal

pub returns : goal.returns
returns g k = λ rules w e x r refused least. no_trace rules w e x r refused least
