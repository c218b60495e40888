use Rattle.std.proofs.Common.{sym, ◌∙◌}
use Rattle.event_segments.proofs.NotedConnections.{noted_reset, timeout_reset}
use Rattle.event_segments.proofs.untracked.note_untracked.Goals as goal

pub returns-then-is_stray_reset-clause-noted : goal.returns-then-is_stray_reset-clause-noted
returns-then-is_stray_reset-clause-noted g c =
    sym (noted_reset c.args.key.now c.args.connections.now c.args.way.now.side c.args.flags c.args.way.now.moment
    (sym c.is_stray_reset.ensures ∙ c.if-is_stray_reset.true))

pub returns-then-is_stray_reset-clause-timeout : goal.returns-then-is_stray_reset-clause-timeout
returns-then-is_stray_reset-clause-timeout g c =
    sym (timeout_reset c.args.key.now c.args.connections.now c.args.way.now.side c.args.flags
    (sym c.is_stray_reset.ensures ∙ c.if-is_stray_reset.true))
