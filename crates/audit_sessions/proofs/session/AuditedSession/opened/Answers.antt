use Rattle.std.proofs.Common.{ap, subst, sym}
use Rattle.audit_sessions.specs.Heard.{IsSession}
use Rattle.audit_sessions.specs.Inside.Sessions.{DnsHeard, dns_session}
use Rattle.audit_sessions.proofs.HeardLaws.{made_session}
use Rattle.audit_sessions.proofs.SeenSessions.{lines_hold}
use Rattle.audit_sessions.proofs.session.AuditedSession.opened.Goals as goal

pub invariant_of-result : goal.invariant_of-result
invariant_of-result c = (
  tt,
  subst (λ (d : DnsHeard). IsSession (dns_session c.args.pair d)) (sym c.in_ok-dns_session.ensures)
      (made_session 53 c.args.pair c.args.initial c.args.mss),
)

pub invariant_of-result-2 : goal.invariant_of-result-2
invariant_of-result-2 c =
    let is = c.ftp_session.ensures in
    ((ap (λ s. s.client_dialogue.pair) is, ap (λ s. s.server_dialogue.pair) is), lines_hold c.args.pair c.ftp_session.result)
