use Rattle.compact_stream.proofs.Begins.{session_begins, ranges_begin}
use Rattle.compact_stream.proofs.laws.kept_session_begins.Goals as goal

pub returns-clause-session : goal.returns-clause-session
returns-clause-session c = λ m n initial mss l k st su. session_begins m n initial mss l k st su

pub returns-clause-range : goal.returns-clause-range
returns-clause-range c = λ m n initial mss l k law_m law_n st su. ranges_begin m n initial mss l k law_m law_n st su
