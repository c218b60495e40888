use Rattle.std.proofs.Common.{take, length}
use Rattle.gate_desk.proofs.DiscardedLaws.{discarded_writes}
use Rattle.gate_desk.proofs.discarding_desk.DiscardingDeskDesk.write.Goals as goal

pub returns-clause-ok : goal.returns-clause-ok
returns-clause-ok c = discarded_writes c.args.slot (take (length c.args.piece.now) c.args.piece.now) c.args.self.now
