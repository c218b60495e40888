use Rattle.file_desk.proofs.FileLaws.{untold_starts, untold_start_fails}
use Rattle.file_desk.proofs.desk.FileDeskDesk.start.Goals as goal

pub returns-in-Ok-clause-ok : goal.returns-in-Ok-clause-ok
returns-in-Ok-clause-ok g c =
    rw (← c.self.view_is) (untold_starts c.args.slot c.args.name.now c.args.access c.self.inside.faults c.self.inside.start_faults)

pub returns-in-Ok-clause-accesses : goal.returns-in-Ok-clause-accesses
returns-in-Ok-clause-accesses g c = rw (← c.self.view_is) c.in-Ok.ensures.accesses

pub returns-in-Ok-clause-ahead : goal.returns-in-Ok-clause-ahead
returns-in-Ok-clause-ahead g c = rw (← c.self.view_is) c.in-Ok.ensures.ahead

pub returns-in-Ok-clause-takes : goal.returns-in-Ok-clause-takes
returns-in-Ok-clause-takes g c = rw (← c.self.view_is) c.in-Ok.ensures.takes

pub returns-in-Ok-clause-unread : goal.returns-in-Ok-clause-unread
returns-in-Ok-clause-unread g c = rw (← c.self.view_is) c.in-Ok.ensures.unread

pub returns-in-Err-clause-err : goal.returns-in-Err-clause-err
returns-in-Err-clause-err g c =
    rw (← c.self.view_is) (untold_start_fails c.args.slot c.self.inside.faults c.self.inside.start_faults c.raise.new.self c.raise.ensures)

pub returns-in-Err-clause-fails : goal.returns-in-Err-clause-fails
returns-in-Err-clause-fails g c = rw (← c.self.view_is) c.in-Err.ensures.loses.fails

pub invariant_of-self : goal.invariant_of-self
invariant_of-self g c = c.in-Ok.ensures.loses.still c.self.invariant

pub invariant_of-self-in-Err : goal.invariant_of-self-in-Err
invariant_of-self-in-Err g c = c.in-Err.ensures.loses.still c.self.invariant
