use Rattle.std.proofs.Common.{◌≡◌, ◌∙◌, ap, sym, subst, None}
use Rattle.stream_model.specs.Prelude.{segment_in}
use Rattle.audit_sessions.specs.Heard.{HeardSession, heard_rules}
use Rattle.audit_sessions.specs.Inside.Sessions.{session_by, dns_session}
use Rattle.audit_sessions.proofs.session.AuditedSessionSession.put_octets.Goals as goal

pub put_units-requires-clause-passes : goal.put_units-requires-clause-passes
put_units-requires-clause-passes c =
    let pair = c.self.inside.pair in
    let seen : dns_session pair c.in-Units.session ≡ c.args.self.now = ap (session_by pair) (sym c.in-Units.is) ∙ c.self.view_is in
    subst (λ (h : HeardSession). heard_rules.refusal c.args.from h (segment_in c.args.segment.now) ≡ None) (sym seen) c.requires.passes
