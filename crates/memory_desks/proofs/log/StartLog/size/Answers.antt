use Rattle.std.proofs.Common.{arith}
use Rattle.memory_desks.proofs.LogLaws.{names_size-starts_in}
use Rattle.memory_desks.proofs.log.StartLog.size.Goals as goal

pub returns-clause-is : goal.returns-clause-is
returns-clause-is c =
    rw (← c.self.view_is)
    (omega (
      arith,
      c.self.inside.entries.ok.0,
      c.self.inside.names.ok.0,
      names_size-starts_in c.self.inside.entries.items c.self.inside.names.items (omega (arith, c.self.invariant.whole)),
    ))
