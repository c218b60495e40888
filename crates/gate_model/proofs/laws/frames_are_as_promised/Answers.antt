use Rattle.gate_model.proofs.Promises.{promised}
use Rattle.gate_model.proofs.laws.frames_are_as_promised.Goals as goal

pub returns : goal.returns
returns k = promised
