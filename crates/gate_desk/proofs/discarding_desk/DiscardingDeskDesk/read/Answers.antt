use Rattle.std.proofs.Common.{ℕ, List, take, drop, length, ap, ◌∙◌, arith}
use Rattle.gate_desk.specs.Slots.{put}
use Rattle.gate_desk.proofs.DiscardedLaws.{discarded_takes, discarded_next, discarded_end}
use Rattle.gate_desk.proofs.discarding_desk.DiscardingDeskDesk.read.Goals as goal

pub returns-clause-ok : goal.returns-clause-ok
returns-clause-ok c =
    let rest = ap (put c.self.inside.left c.args.slot) (c.read.ensures.rest ∙ ap (drop c.read.result) c.at_mut.ensures.value) in
    rw (← c.self.view_is) (discarded_takes c.args.slot c.read.result c.self.inside.left (put c.self.inside.left c.args.slot c.read.new.self) rest)

pub returns-clause-octets : goal.returns-clause-octets
returns-clause-octets c =
    rw (← c.self.view_is) (discarded_next c.args.slot c.read.result c.self.inside.left c.read.new.buffer
    (omega (arith, c.read.ensures.count, c.read.auto.buffer)) (c.read.ensures.octets ∙ ap (take c.read.result) c.at_mut.ensures.value))

pub returns-clause-end : goal.returns-clause-end
returns-clause-end c =
    rw (← c.self.view_is) (λ none some. discarded_end c.args.slot c.self.inside.left
    (omega (arith, c.read.ensures.count, none, some, ap (λ (xs : List ℕ). length xs) c.at_mut.ensures.value)))
