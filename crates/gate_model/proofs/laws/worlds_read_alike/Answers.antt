use Rattle.gate_model.proofs.ReadWorlds.{verdict_as}
use Rattle.gate_model.proofs.ReadSteps.{next_as, out_as, run_as}
use Rattle.gate_model.proofs.laws.worlds_read_alike.Goals as goal

pub returns : goal.returns
returns g k = record {
  verdict = λ h a b r w e. verdict_as h a b r w e;
  out = λ h a b r w e. out_as h a b r w e;
  next = λ h a b r w e. next_as h a b r w e;
  run = λ h a b r w events. run_as h a b r events w;
}
