use Rattle.std.proofs.Common.{refl, ap}
use Rattle.frag_join.specs.Prelude.{Coverage, Step}
use Rattle.frag_join.proofs.KeptSteps.{step-known, after-known}
use Rattle.frag_join.proofs.laws.known_state_suffices.Goals as goal

pub returns : goal.returns
returns c = record {
  begins = refl;
  answers = λ state e. ap (λ (one : Step Coverage). one.answer) (step-known state e);
  goes_on = λ state e. ap (λ (one : Step Coverage). one.state) (step-known state e);
  after_all = after-known;
}
