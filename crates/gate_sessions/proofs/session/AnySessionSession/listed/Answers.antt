use Rattle.std.proofs.Common.{subst}
use Rattle.gate_sessions.specs.Inside.Sessions.{session_of, IsSession}
use Rattle.gate_sessions.specs.declared.kinds.SessionKind.{SessionKind}
use Rattle.gate_sessions.proofs.ListedLemmas.{few_in}
use Rattle.gate_sessions.proofs.session.AnySessionSession.listed.Goals as goal

pub returns-in-Units-clause-few : goal.returns-in-Units-clause-few
returns-in-Units-clause-few c =
    few_in c.self.inside.pair c.in-Units.session c.args.host c.listed.result
    (subst (λ (x : SessionKind). IsSession (session_of c.self.inside.pair x)) c.in-Units.is c.self.invariant.1)
    c.listed.ensures
