use Rattle.gate_model.proofs.Ports.{untracked}
use Rattle.gate_model.proofs.Transparency.{comes_back, comes_home}
use Rattle.gate_model.proofs.laws.replies_come_back.Goals as goal

pub returns : goal.returns
returns g k = record {
  replies = λ rules w e r between lawful passes reply before less. comes_back rules w e between r lawful passes reply before less;
  errors = λ rules w e r between lawful passes about before less. comes_home rules w e between r lawful passes about before less;
  untracked = λ rules settings events r kind ports. untracked rules settings events r kind ports;
}
