use Rattle.stream_model.proofs.KeepingPasses.{session_keeping}
use Rattle.stream_model.proofs.laws.keeping_segments_pass.Goals as goal

pub returns : goal.returns
returns k = λ s g f keeps. session_keeping f s g keeps
