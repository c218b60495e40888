use Rattle.std.proofs.Common.{◌∙◌}
use Rattle.tcp_tracker.proofs.Joining.{timeout_joined}
use Rattle.tcp_tracker.proofs.table.SessionTable.timeout_of.Goals as goal

pub returns : goal.returns
returns g c = rw (← c.self.view_is)
    (c.timeout_of.ensures ∙ timeout_joined c.self.inside.sessions c.self.inside.tracker c.args.key.now c.args.from c.args.flags c.self.invariant.kept)
