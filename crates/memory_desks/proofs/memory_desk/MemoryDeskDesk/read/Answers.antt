use Rattle.std.proofs.Common.{ℕ, List, take, drop, length, ap, ◌∙◌, arith}
use Rattle.gate_desk.specs.Slots.{put}
use Rattle.memory_desks.proofs.MemoryLaws.{memory_takes, memory_next, memory_end}
use Rattle.memory_desks.specs.contracts.memory_desk.MemoryDesk.{the_view}
use Rattle.memory_desks.proofs.memory_desk.MemoryDeskDesk.read.Goals as goal

pub returns-clause-ok : goal.returns-clause-ok
returns-clause-ok c =
    let rest = ap (put c.self.inside.left c.args.slot) (c.read.ensures.rest ∙ ap (drop c.read.result) c.at_mut.ensures.value) in
    rw (← c.self.view_is) (memory_takes c.args.slot c.read.result (the_view c.self.inside) (put c.self.inside.left c.args.slot c.read.new.self) rest)

pub returns-clause-octets : goal.returns-clause-octets
returns-clause-octets c =
    rw (← c.self.view_is)
    (memory_next c.args.slot c.read.result (the_view c.self.inside) c.read.new.buffer (omega (arith, c.read.ensures.count, c.read.auto.buffer))
    (c.read.ensures.octets ∙ ap (take c.read.result) c.at_mut.ensures.value))

pub returns-clause-end : goal.returns-clause-end
returns-clause-end c =
    rw (← c.self.view_is)
    (λ none some. memory_end c.args.slot (the_view c.self.inside)
    (omega (arith, c.read.ensures.count, none, some, ap (λ (xs : List ℕ). length xs) c.at_mut.ensures.value)))
