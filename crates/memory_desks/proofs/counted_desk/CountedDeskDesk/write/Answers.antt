use Rattle.std.proofs.Common.{ap, ◌∙◌}
use Rattle.memory_desks.specs.Counted.{Counted}
use Rattle.memory_desks.proofs.MemoryLaws.{listed_write}
use Rattle.memory_desks.proofs.counted_desk.CountedDeskDesk.write.Goals as goal

pub returns-then-next_call-clause-err : goal.returns-then-next_call-clause-err
returns-then-next_call-clause-err c =
    listed_write c.args.slot c.args.self.now.inner c.self.inside.inner c.fail_call.new.self
    (ap (λ (d : Counted). d.inner) c.self.view_is ∙ ap (λ (d : Counted). d.inner) c.next_call.ensures.after) c.fail_call.ensures
