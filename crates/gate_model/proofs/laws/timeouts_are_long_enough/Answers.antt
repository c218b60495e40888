use Rattle.std.proofs.Common.{arith}
use Rattle.gate_model.proofs.LeastTimeouts.{least, established_is}
use Rattle.gate_model.proofs.laws.timeouts_are_long_enough.Goals as goal

pub returns : goal.returns
returns g k = record {
  least = λ rules live side d kind. least rules live side d kind;
  named = omega arith;
  established = λ rules live side d c found ends stays is. established_is rules live side d c found ends stays is;
}
