use Rattle.compact_stream.proofs.SessionLemmas.{own_goes_on, other_goes_on, goes_on}
use Rattle.compact_stream.proofs.laws.kept_session_goes_on.Goals as goal

pub returns-clause-own : goal.returns-clause-own
returns-clause-own c = λ m h a b f g law i k v. own_goes_on f m law h a b g i k v

pub returns-clause-other : goal.returns-clause-other
returns-clause-other c = λ m h a b f g law i k v. other_goes_on f m law h a b g i k v

pub returns-clause-session : goal.returns-clause-session
returns-clause-session c = λ m n h x f g law_m law_n i j k v. goes_on m n law_m law_n h x f g i j k v
