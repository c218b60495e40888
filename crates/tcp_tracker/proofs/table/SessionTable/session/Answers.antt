use Rattle.std.proofs.Common.{◌∙◌, sym, ap, option_and_then}
use Rattle.slab.specs.Slab.{get}
use Rattle.tcp_tracker.proofs.Joining.{session_joined}
use Rattle.tcp_tracker.proofs.table.SessionTable.session.Goals as goal

pub returns : goal.returns
returns g c = rw (← c.self.view_is)
    (c.session_in.ensures ∙ ap (option_and_then (get c.self.inside.sessions)) c.slot_of.ensures
    ∙ sym (session_joined c.self.inside.sessions c.args.key.now c.self.inside.tracker))
