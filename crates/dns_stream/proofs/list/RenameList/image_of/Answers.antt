use Rattle.dns_stream.proofs.Order.{found, not_found}
use Rattle.dns_stream.proofs.list.RenameList.image_of.Goals as goal

pub returns-in-Ok : goal.returns-in-Ok
returns-in-Ok c =
    rw (← c.self.view_is) (found _ _ c.self.invariant.2 _ c.in-Ok.place (rw c.deref.ensures.value at c.in-Ok.ensures.found) c.index.result.now
    c.index.ensures)

pub returns-in-Err : goal.returns-in-Err
returns-in-Err c =
    rw (← c.self.view_is) (not_found _ _ c.self.invariant.2 _ c.in-Err.field-0 (rw c.deref.ensures.value at c.in-Err.ensures.absent))
