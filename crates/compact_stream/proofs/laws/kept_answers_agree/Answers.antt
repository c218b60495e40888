use Rattle.compact_stream.proofs.Agreed.{sender_agrees}
use Rattle.compact_stream.proofs.laws.kept_answers_agree.Goals as goal

pub returns : goal.returns
returns c = sender_agrees
