use Rattle.frag_join.proofs.ArrivalSteps.{arrivals_are, come-as-they-are}
use Rattle.frag_join.proofs.laws.frames_arrive.Goals as goal

pub returns : goal.returns
returns c = record { arrive = arrivals_are; refused = come-as-they-are }
