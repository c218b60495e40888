use Rattle.std.proofs.Common.{◌∙◌, sym, ap}
use Rattle.tcp_tracker.specs.Prelude.{joined}
use Rattle.tcp_tracker.proofs.Replacing.{removed_with, removed_plain}
use Rattle.tcp_tracker.proofs.table.SessionTable.remove.Goals as goal

pub invariant_of-self : goal.invariant_of-self
invariant_of-self g c = rw c.remove.ensures
    ((removed_with c.self.inside.sessions c.clear.new.slots c.self.inside.tracker c.args.key.now c.in-Some.slot c.self.invariant
    (sym c.slot_of.ensures ∙ c.in-Some.is) c.clear.ensures.updates c.clear.ensures.len c.clear.ensures.capacity).whole)

pub invariant_of-self-in-None : goal.invariant_of-self-in-None
invariant_of-self-in-None g c = rw c.remove-in-None.ensures
    ((removed_plain c.self.inside.sessions c.self.inside.tracker c.args.key.now c.self.invariant (sym c.slot_of.ensures ∙ c.in-None.is)).whole)

pub returns-in-Some : goal.returns-in-Some
returns-in-Some g c = rw (← c.self.view_is)
    (ap (joined c.clear.new.slots) c.remove.ensures
    ∙ (removed_with c.self.inside.sessions c.clear.new.slots c.self.inside.tracker c.args.key.now c.in-Some.slot c.self.invariant
    (sym c.slot_of.ensures ∙ c.in-Some.is) c.clear.ensures.updates c.clear.ensures.len c.clear.ensures.capacity).is)

pub returns-in-None : goal.returns-in-None
returns-in-None g c = rw (← c.self.view_is)
    (ap (joined c.self.inside.sessions) c.remove-in-None.ensures
    ∙ (removed_plain c.self.inside.sessions c.self.inside.tracker c.args.key.now c.self.invariant (sym c.slot_of.ensures ∙ c.in-None.is)).is)
