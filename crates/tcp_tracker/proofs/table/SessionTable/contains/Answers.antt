use Rattle.std.proofs.Common.{◌∙◌, sym, ap, is_some}
use Rattle.gate_base.proofs.Options.{some_mapped}
use Rattle.tcp_tracker.specs.Prelude.{connection_of, seen_as, inline}
use Rattle.tcp_tracker.proofs.Joining.{connection_joined}
use Rattle.tcp_tracker.proofs.table.SessionTable.contains.Goals as goal

pub returns : goal.returns
returns g c =
    rw (← c.self.view_is)
    (c.is_some.ensures ∙ ap is_some c.find.ensures ∙ some_mapped seen_as (connection_of c.args.key.now c.self.inside.tracker)
    ∙ sym (some_mapped (inline c.self.inside.sessions) (connection_of c.args.key.now c.self.inside.tracker))
    ∙ ap is_some (sym (connection_joined c.self.inside.sessions c.args.key.now c.self.inside.tracker)))
