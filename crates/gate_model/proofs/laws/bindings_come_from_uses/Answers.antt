use Rattle.gate_model.proofs.Deliveries.{meant}
use Rattle.gate_model.proofs.OriginsKept.{all_come, all_over}
use Rattle.gate_model.proofs.laws.bindings_come_from_uses.Goals as goal

pub returns : goal.returns
returns g k = record {
  begin = λ rules settings events. all_come rules settings events;
  over = λ w now. all_over w now;
  meant = λ rules settings events x sound forms passes. meant rules settings events x sound forms passes;
}
