use Rattle.std.proofs.Common.{arith, length, ap}
use Rattle.event_outbox.proofs.Boxes.{ended}
use Rattle.event_outbox.proofs.outbox.end.Goals as goal

pub push_reserved-requires : goal.push_reserved-requires
push_reserved-requires c = omega (arith, ap length c.requires.none, c.requires.places)

pub returns-clause-one : goal.returns-clause-one
returns-clause-one c =
    ended c.args.octets.now c.push_reserved.new.self.items c.args.ends.now.items _ c.requires.none c.push_reserved.ensures.items
    (omega arith) c.requires.few
