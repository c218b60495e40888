use Rattle.stream_model.proofs.Ways.{session_lawful}
use Rattle.stream_model.proofs.cuts.own_cut_is_lawful.Goals as goal

pub returns : goal.returns
returns c = session_lawful
