use Rattle.std.proofs.Common.{◌∙◌, ap}
use Rattle.stream_model.specs.Prelude.{Session, session_open}
use Rattle.audit_sessions.proofs.SeenSessions.{lines_seen, units_seen}
use Rattle.audit_sessions.proofs.session.AuditedSession.pending.Goals as goal

pub returns-in-Lines : goal.returns-in-Lines
returns-in-Lines c = c.pending.ensures
    ∙ ap (λ (s : Session). session_open s)
    (lines_seen c.self.inside.pair c.self.inside.kind c.in-Lines.session c.args.self.now c.in-Lines.is c.self.invariant.0 c.self.view_is)

pub returns-in-Units : goal.returns-in-Units
returns-in-Units c = c.pending-in-Units.ensures
    ∙ ap (λ (s : Session). session_open s)
    (units_seen c.self.inside.pair c.self.inside.kind c.in-Units.session c.args.self.now c.in-Units.is c.self.view_is)
