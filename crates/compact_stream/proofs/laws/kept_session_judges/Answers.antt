use Rattle.compact_stream.proofs.OpenLines.{open_is}
use Rattle.compact_stream.proofs.SessionLemmas.{extent_of_sender, verdict_is}
use Rattle.compact_stream.proofs.laws.kept_session_judges.Goals as goal

pub returns-clause-extent : goal.returns-clause-extent
returns-clause-extent c = λ m h a k. extent_of_sender m h a k

pub returns-clause-refusal : goal.returns-clause-refusal
returns-clause-refusal c = λ m n h x f g k. verdict_is m n h x f g k

pub returns-clause-open_units : goal.returns-clause-open_units
returns-clause-open_units c = λ m h a k. open_is m h a k
