use Rattle.std.proofs.Common.{arith}
use Rattle.gate_model.specs.Prelude.{opening_world}
use Rattle.gate_model.proofs.RangesKept.{next_range, run_range}
use Rattle.gate_model.proofs.laws.connections_in_range.Goals as goal

pub returns : goal.returns
returns g k = record {
  step = λ rules w e r. next_range rules w e r;
  run = λ rules settings events. run_range rules events (opening_world settings) (record { connections = omega arith; sessions = omega arith });
}
