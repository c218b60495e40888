use Rattle.std.proofs.Common.{refl, ◌∙◌}
use Rattle.gate_desk.specs.Discarded.{told_by}
use Rattle.gate_desk.proofs.Laws.{next_all}
use Rattle.gate_desk.proofs.discarding_desk.DiscardingDeskDesk.ahead.Goals as goal

pub returns-clause-octets : goal.returns-clause-octets
returns-clause-octets c =
    rw (← c.self.view_is) (next_all c.args.slot c.self.inside.left (told_by c.self.inside.left) c.octets.result.now refl
    (c.octets.ensures ∙ c.at.ensures))
