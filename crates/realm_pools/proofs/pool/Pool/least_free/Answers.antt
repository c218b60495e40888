use Rattle.std.proofs.Common.{arith}
use Rattle.realm_pools.proofs.Free.{least_from, none_from}
use Rattle.realm_pools.proofs.pool.Pool.least_free.Goals as goal

pub returns-clause-least : goal.returns-clause-least
returns-clause-least c =
    rw c.free_from.ensures.value (least_from 0 0 c.args.self.now c.free_from.ensures.range (omega arith) (λ other above from. omega arith))

pub returns-clause-none : goal.returns-clause-none
returns-clause-none c = rw c.free_from.ensures.value (none_from 0 0 c.args.self.now c.free_from.ensures.range (λ other above from. omega arith))
