use Rattle.std.proofs.Common.{◌<◌, ◌≤◌, ℕ, [], length, arith, ◌^◌}
use Rattle.gate_base.specs.declared.host.Host.{Host}
use Rattle.gate_base.specs.declared.host.Host.TheVariants.{Client, Server}
use Rattle.dialogue.specs.Prelude.{Meaning}
use Rattle.stream_model.specs.Session.{own, recent}
use Rattle.stream_model.specs.Steps.{session_made}
use Rattle.stream_model.specs.History.{after}
use Rattle.stream_model.proofs.SessionAcked.{acked_after, made_acked}
use Rattle.stream_model.proofs.FactLemmas.{short_after}
use Rattle.stream_model.proofs.RecentFact.{facts_of, few_after}
use Rattle.stream_model.proofs.laws.session_facts.Goals as goal

short : (client server : Meaning) (initial mss : ℕ) (c : Host) → length (own c (session_made client server initial mss)).octets < 2 ^ 30
short x y i m Client = omega arith
short x y i m Server = omega arith

none : (client server : Meaning) (initial mss : ℕ) (c : Host) → length (recent (own c (session_made client server initial mss))) ≤ 65536
none x y i m Client = omega arith
none x y i m Server = omega arith

pub returns : goal.returns
returns k = λ c s i m events who lc ls pass. facts_of (own who (after (session_made c s i m) events)) _ _
    (acked_after who events (session_made c s i m) [] [] pass (made_acked c s i m who lc ls))
    (short_after who events (session_made c s i m) pass (short c s i m who))
    (few_after who events (session_made c s i m) [] [] pass (made_acked c s i m who lc ls) (none c s i m who))
