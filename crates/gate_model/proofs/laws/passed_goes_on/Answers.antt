use Rattle.gate_model.specs.Prelude.{whole_rules}
use Rattle.gate_model.proofs.GoesOn.{goes_on, whole_answers}
use Rattle.gate_model.proofs.laws.passed_goes_on.Goals as goal

pub returns : goal.returns
returns g k = record {
  any = λ rules answers w e p. goes_on rules answers w e p;
  whole = λ w e p. goes_on whole_rules whole_answers w e p;
}
