use Rattle.std.proofs.Common.{ℕ, List, ◌++◌, ap, ◌∙◌, append_assoc, arith}
use Rattle.gate_desk.specs.Slots.{at, put}
use Rattle.memory_desks.proofs.MemoryLaws.{memory_write_fails, memory_wrote}
use Rattle.memory_desks.specs.contracts.memory_desk.MemoryDesk.{the_view}
use Rattle.memory_desks.proofs.memory_desk.MemoryDeskDesk.write_both.Goals as goal

pub returns-then-first-gt-WRITTEN_LIMIT-clause-err : goal.returns-then-first-gt-WRITTEN_LIMIT-clause-err
returns-then-first-gt-WRITTEN_LIMIT-clause-err c =
    rw (← c.self.view_is) (0, omega arith, memory_write_fails c.args.slot (the_view c.self.inside) c.raise.new.self c.raise.ensures)

pub returns-clause-ok : goal.returns-clause-ok
returns-clause-ok c =
    let first = c.args.first.now in
    let second = c.args.second.now in
    let both = c.push-2.ensures ∙ ap (λ (xs : List ℕ). xs ++ second) (c.push.ensures ∙ ap (λ (xs : List ℕ). xs ++ first) c.at_mut-sink.ensures.value)
    ∙ append_assoc (at c.self.inside.written c.args.slot) first second in
    rw (← c.self.view_is)
    (memory_wrote c.args.slot (first ++ second) (the_view c.self.inside) (put c.self.inside.written c.args.slot c.push-2.new.self)
    (ap (put c.self.inside.written c.args.slot) both))
