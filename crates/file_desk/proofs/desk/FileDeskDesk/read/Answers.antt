use Rattle.std.proofs.Common.{refl, take}
use Rattle.file_desk.proofs.FileLaws.{untold_takes, untold_next, untold_end, untold_read_fails, rose_one}
use Rattle.file_desk.proofs.desk.FileDeskDesk.read.Goals as goal

pub returns-in-Ok-clause-ok : goal.returns-in-Ok-clause-ok
returns-in-Ok-clause-ok g c = rw (← c.self.view_is) (untold_takes c.args.slot c.in-Ok.n c.self.inside.faults c.self.inside.start_faults)

pub returns-in-Ok-clause-octets : goal.returns-in-Ok-clause-octets
returns-in-Ok-clause-octets g c = untold_next c.args.slot (take c.in-Ok.n c.read_slot.new.buffer) c.args.self.now.faults c.args.self.now.start_faults

pub returns-in-Ok-clause-end : goal.returns-in-Ok-clause-end
returns-in-Ok-clause-end g c = λ none some. untold_end c.args.slot c.args.self.now.faults c.args.self.now.start_faults

pub returns-in-Err-clause-err : goal.returns-in-Err-clause-err
returns-in-Err-clause-err g c =
    rw (← c.self.view_is) (untold_read_fails c.args.slot c.self.inside.faults c.raise.new.self c.self.inside.start_faults c.raise.ensures)

pub returns-in-Ok-clause-takes : goal.returns-in-Ok-clause-takes
returns-in-Ok-clause-takes g c = rw (← c.self.view_is) c.in-Ok.ensures.takes

pub returns-in-Ok-clause-ahead : goal.returns-in-Ok-clause-ahead
returns-in-Ok-clause-ahead g c = rw (← c.self.view_is) c.in-Ok.ensures.ahead

pub returns-in-Ok-clause-hands_out : goal.returns-in-Ok-clause-hands_out
returns-in-Ok-clause-hands_out g c = rw (← c.self.view_is) c.in-Ok.ensures.hands_out

pub returns-in-Ok-clause-accesses : goal.returns-in-Ok-clause-accesses
returns-in-Ok-clause-accesses g c = rw (← c.self.view_is) c.in-Ok.ensures.accesses

pub returns-in-Ok-clause-others : goal.returns-in-Ok-clause-others
returns-in-Ok-clause-others g c = rw (← c.self.view_is) c.in-Ok.ensures.others

pub returns-in-Ok-clause-unread : goal.returns-in-Ok-clause-unread
returns-in-Ok-clause-unread g c = rw (← c.self.view_is) c.in-Ok.ensures.unread

pub returns-in-Ok-clause-unread_others : goal.returns-in-Ok-clause-unread_others
returns-in-Ok-clause-unread_others g c = rw (← c.self.view_is) c.in-Ok.ensures.unread_others

pub returns-in-Err-clause-accesses : goal.returns-in-Err-clause-accesses
returns-in-Err-clause-accesses g c = rw (← c.self.view_is) c.in-Err.ensures.accesses

pub returns-in-Err-clause-others : goal.returns-in-Err-clause-others
returns-in-Err-clause-others g c = rw (← c.self.view_is) c.in-Err.ensures.others

pub returns-in-Err-clause-unread : goal.returns-in-Err-clause-unread
returns-in-Err-clause-unread g c = rw (← c.self.view_is) c.in-Err.ensures.unread

pub returns-in-Err-clause-unread_others : goal.returns-in-Err-clause-unread_others
returns-in-Err-clause-unread_others g c = rw (← c.self.view_is) c.in-Err.ensures.unread_others

pub returns-in-Ok-clause-refused : goal.returns-in-Ok-clause-refused
returns-in-Ok-clause-refused g c = rw (← c.self.view_is) c.in-Ok.ensures.refused

pub returns-in-Ok-clause-counts : goal.returns-in-Ok-clause-counts
returns-in-Ok-clause-counts g c = rw (← c.self.view_is) refl

pub returns-in-Ok-clause-leaves : goal.returns-in-Ok-clause-leaves
returns-in-Ok-clause-leaves g c = rw (← c.self.view_is) refl

pub returns-in-Err-clause-counts : goal.returns-in-Err-clause-counts
returns-in-Err-clause-counts g c = rw (← c.self.view_is) c.raise.ensures

pub returns-in-Err-clause-cause : goal.returns-in-Err-clause-cause
returns-in-Err-clause-cause g c = rw (← c.self.view_is) (rose_one c.args.slot c.self.inside.faults c.raise.new.self c.raise.ensures)

pub invariant_of-self : goal.invariant_of-self
invariant_of-self g c = c.in-Ok.ensures.loses.still c.self.invariant

pub invariant_of-self-in-Err : goal.invariant_of-self-in-Err
invariant_of-self-in-Err g c = c.in-Err.ensures.loses.still c.self.invariant

pub returns-in-Err-clause-fails : goal.returns-in-Err-clause-fails
returns-in-Err-clause-fails g c = rw (← c.self.view_is) c.in-Err.ensures.loses.fails
