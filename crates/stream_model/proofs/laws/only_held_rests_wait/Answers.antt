use Rattle.stream_model.proofs.Waiting.{only_held}
use Rattle.stream_model.proofs.laws.only_held_rests_wait.Goals as goal

pub returns : goal.returns
returns k = λ a law. only_held a law
