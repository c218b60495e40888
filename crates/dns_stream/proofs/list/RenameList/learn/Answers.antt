use Rattle.std.proofs.Common.{arith}
use Rattle.dns_stream.proofs.list.RenameList.learn.Goals as goal

pub invariant_of-self : goal.invariant_of-self
invariant_of-self c = (
  omega arith,
  omega arith,
  rw c.push_reserved.ensures.items
      (c.put.ensures.one _ (rw c.self.view_is c.requires.few) c.self.invariant.2),
)
