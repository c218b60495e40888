use Rattle.gate_desk.proofs.DiscardedLaws.{discarded_starts}
use Rattle.gate_desk.proofs.discarding_desk.DiscardingDeskDesk.start.Goals as goal

pub returns-clause-ok : goal.returns-clause-ok
returns-clause-ok c = discarded_starts c.args._slot c.args._name.now c.args._access c.args.self.now
