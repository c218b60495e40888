use Rattle.file_desk.proofs.FileLaws.{untold_next}
use Rattle.file_desk.proofs.desk.FileDeskDesk.ahead.Goals as goal

pub returns-clause-octets : goal.returns-clause-octets
returns-clause-octets g c = untold_next c.args.slot c.ahead.result.now c.args.self.now.faults c.args.self.now.start_faults
