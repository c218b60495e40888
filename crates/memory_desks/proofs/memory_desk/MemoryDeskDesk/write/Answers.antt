use Rattle.std.proofs.Common.{ℕ, List, ◌++◌, ap, ◌∙◌}
use Rattle.gate_desk.specs.Slots.{put}
use Rattle.memory_desks.proofs.MemoryLaws.{memory_write_fails, memory_writes}
use Rattle.memory_desks.specs.contracts.memory_desk.MemoryDesk.{the_view}
use Rattle.memory_desks.proofs.memory_desk.MemoryDeskDesk.write.Goals as goal

pub returns-then-piece-gt-WRITTEN_LIMIT-clause-err : goal.returns-then-piece-gt-WRITTEN_LIMIT-clause-err
returns-then-piece-gt-WRITTEN_LIMIT-clause-err c =
    rw (← c.self.view_is) (memory_write_fails c.args.slot (the_view c.self.inside) c.raise.new.self c.raise.ensures)

pub returns-clause-ok : goal.returns-clause-ok
returns-clause-ok c =
    let more = ap (put c.self.inside.written c.args.slot) (c.push.ensures ∙ ap (λ (xs : List ℕ). xs ++ c.args.piece.now) c.at_mut.ensures.value) in
    rw (← c.self.view_is)
    (memory_writes c.args.slot c.args.piece.now (the_view c.self.inside) (put c.self.inside.written c.args.slot c.push.new.self) more)
