use Rattle.std.proofs.Common.{subst}
use Rattle.audit_sessions.specs.Heard.{IsSession}
use Rattle.audit_sessions.specs.Inside.Sessions.{session_by}
use Rattle.audit_sessions.specs.declared.kinds.SessionKind.{SessionKind}
use Rattle.audit_sessions.proofs.SeenSessions.{few_in}
use Rattle.audit_sessions.proofs.session.AuditedSessionSession.listed.Goals as goal

pub returns-in-Units-clause-few : goal.returns-in-Units-clause-few
returns-in-Units-clause-few c =
    few_in c.self.inside.pair c.in-Units.session c.args.host c.listed.result
    (subst (λ (x : SessionKind). IsSession (session_by c.self.inside.pair x)) c.in-Units.is c.self.invariant.1) c.listed.ensures
