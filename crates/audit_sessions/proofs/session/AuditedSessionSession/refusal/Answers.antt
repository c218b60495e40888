use Rattle.std.proofs.Common.{◌∙◌, ap}
use Rattle.stream_model.specs.Prelude.{Session, segment_in, segment_refusal}
use Rattle.audit_sessions.proofs.SeenSessions.{lines_seen, units_seen}
use Rattle.audit_sessions.proofs.session.AuditedSessionSession.refusal.Goals as goal

pub returns-in-Lines : goal.returns-in-Lines
returns-in-Lines c = c.refusal.ensures
    ∙ ap (λ (s : Session). segment_refusal c.args.from s (segment_in c.args.segment.now))
    (lines_seen c.self.inside.pair c.self.inside.kind c.in-Lines.session c.args.self.now c.in-Lines.is c.self.invariant.0 c.self.view_is)

pub returns-in-Units : goal.returns-in-Units
returns-in-Units c = c.refusal-in-Units.ensures
    ∙ ap (λ (s : Session). segment_refusal c.args.from s (segment_in c.args.segment.now))
    (units_seen c.self.inside.pair c.self.inside.kind c.in-Units.session c.args.self.now c.in-Units.is c.self.view_is)
