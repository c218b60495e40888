use Rattle.std.proofs.Common.{drop, ap, ◌∙◌}
use Rattle.gate_desk.specs.Slots.{put}
use Rattle.memory_desks.proofs.MemoryLaws.{memory_takes}
use Rattle.memory_desks.specs.contracts.memory_desk.MemoryDesk.{the_view}
use Rattle.memory_desks.proofs.memory_desk.MemoryDeskDesk.skip.Goals as goal

pub returns-clause-takes : goal.returns-clause-takes
returns-clause-takes c =
    let rest = ap (put c.self.inside.left c.args.slot) (c.skip.ensures ∙ ap (drop c.args.count) c.at_mut.ensures.value) in
    rw (← c.self.view_is) (memory_takes c.args.slot c.args.count (the_view c.self.inside) (put c.self.inside.left c.args.slot c.skip.new.self) rest)
