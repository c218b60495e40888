use Rattle.std.proofs.Common.{refl, ◌∙◌}
use Rattle.memory_desks.specs.Memory.{told_of}
use Rattle.gate_desk.proofs.Laws.{next_all}
use Rattle.memory_desks.specs.contracts.memory_desk.MemoryDesk.{the_view}
use Rattle.memory_desks.proofs.memory_desk.MemoryDeskDesk.ahead.Goals as goal

pub returns-clause-octets : goal.returns-clause-octets
returns-clause-octets c =
    rw (← c.self.view_is)
    (next_all c.args.slot c.self.inside.left (told_of (the_view c.self.inside)) c.octets.result.now refl (c.octets.ensures ∙ c.at.ensures))
