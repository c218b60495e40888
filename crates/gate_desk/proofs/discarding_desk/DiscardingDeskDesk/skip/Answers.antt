use Rattle.std.proofs.Common.{drop, ap, ◌∙◌}
use Rattle.gate_desk.specs.Slots.{put}
use Rattle.gate_desk.proofs.DiscardedLaws.{discarded_takes}
use Rattle.gate_desk.proofs.discarding_desk.DiscardingDeskDesk.skip.Goals as goal

pub returns-clause-takes : goal.returns-clause-takes
returns-clause-takes c =
    let rest = ap (put c.self.inside.left c.args.slot) (c.skip.ensures ∙ ap (drop c.args.count) c.at_mut.ensures.value) in
    rw (← c.self.view_is) (discarded_takes c.args.slot c.args.count c.self.inside.left (put c.self.inside.left c.args.slot c.skip.new.self) rest)
