use Rattle.std.proofs.Common.{◌++◌}
use Rattle.gate_desk.proofs.DiscardedLaws.{discarded_writes}
use Rattle.gate_desk.proofs.discarding_desk.DiscardingDeskDesk.write_both.Goals as goal

pub returns-clause-ok : goal.returns-clause-ok
returns-clause-ok c = discarded_writes c.args._slot (c.args._first.now ++ c.args._second.now) c.args.self.now
