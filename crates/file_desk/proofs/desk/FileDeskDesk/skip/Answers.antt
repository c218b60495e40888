use Rattle.file_desk.proofs.FileLaws.{untold_takes}
use Rattle.file_desk.proofs.Unread.{skipped_is}
use Rattle.file_desk.proofs.desk.FileDeskDesk.skip.Goals as goal

pub returns-clause-takes : goal.returns-clause-takes
returns-clause-takes g c = rw (← c.self.view_is) (untold_takes c.args.slot c.args.count c.self.inside.faults c.self.inside.start_faults)

pub returns-clause-exact : goal.returns-clause-exact
returns-clause-exact g c =
    rw (← c.self.view_is) (skipped_is g.R.File.Read.remaining g.R.File.Write.contents c.self.inside.places c.args.slot c.args.count
    c.at_mut.result.now c.skip.new.self c.self.inside.refused c.self.inside.faults c.self.inside.start_faults c.at_mut.ensures.value
    c.skip.ensures.access c.skip.ensures.ahead c.skip.ensures.unread (c.skip.ensures.got g.R.File.Write.contents) c.skip.ensures.waiting)
