use Rattle.std.proofs.Common.{ap, sym, ◌∙◌, Some, option_map, option_and_then}
use Rattle.slab.specs.Slab.{get}
use Rattle.tcp_tracker.specs.declared.connection.Conn.{Conn}
use Rattle.tcp_tracker.proofs.Joining.{found_joined}
use Rattle.tcp_tracker.proofs.table.SessionTable.find.Goals as goal

pub returns-in-Some : goal.returns-in-Some
returns-in-Some g c =
    rw (← c.self.view_is)
    (ap (λ o. Some o) c.session_in.ensures ∙ ap (option_map (λ (seen : Conn). option_and_then (get c.self.inside.sessions) seen.session))
    (sym c.in-Some.is ∙ c.find.ensures) ∙ found_joined c.self.inside.sessions c.args.key.now c.self.inside.tracker)

pub returns-in-None : goal.returns-in-None
returns-in-None g c =
    rw (← c.self.view_is)
    (ap (option_map (λ (seen : Conn). option_and_then (get c.self.inside.sessions) seen.session)) (sym c.in-None.is ∙ c.find.ensures)
    ∙ found_joined c.self.inside.sessions c.args.key.now c.self.inside.tracker)
