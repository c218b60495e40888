use Rattle.memory_desks.proofs.MemoryLaws.{memory_fails_to_start, memory_starts}
use Rattle.memory_desks.specs.contracts.memory_desk.MemoryDesk.{the_view}
use Rattle.memory_desks.proofs.memory_desk.MemoryDeskDesk.start.Goals as goal

pub returns-then-name-gt-NAMES_LIMIT-clause-err : goal.returns-then-name-gt-NAMES_LIMIT-clause-err
returns-then-name-gt-NAMES_LIMIT-clause-err c =
    rw (← c.self.view_is) (memory_fails_to_start c.args.slot (the_view c.self.inside) c.raise.new.self c.raise.ensures)

pub returns-clause-ok : goal.returns-clause-ok
returns-clause-ok c =
    rw (← c.self.view_is)
    (memory_starts c.args.slot c.args.name.now c.args.access (the_view c.self.inside) c.push.new.self
    (rw c.as_bytes.ensures.value at c.push.ensures))
