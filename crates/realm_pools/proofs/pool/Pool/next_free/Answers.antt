use Rattle.std.proofs.Common.{arith, subst, ap, ◌≡◌, ◌+◌, ◌-◌}
use Rattle.realm_pools.proofs.Free.{HasFlags, least_from, none_from}
use Rattle.realm_pools.specs.Addresses.{Addresses}
use Rattle.realm_pools.proofs.pool.Pool.next_free.Goals as goal

pub returns-then-after-self-clause-least : goal.returns-then-after-self-clause-least
returns-then-after-self-clause-least c =
    let same : c.self.inside.first ≡ c.args.self.now.range.first = ap (λ (p : Addresses). p.range.first) c.self.view_is in
    rw c.free_from.ensures.value
    (least_from (c.args.after.0 + 1) 0 c.args.self.now (subst HasFlags c.self.view_is c.self.invariant.range) (omega arith)
    (λ other above from. omega arith))

pub returns-then-after-self-clause-none : goal.returns-then-after-self-clause-none
returns-then-after-self-clause-none c =
    let same : c.self.inside.first ≡ c.args.self.now.range.first = ap (λ (p : Addresses). p.range.first) c.self.view_is in
    rw c.free_from.ensures.value
    (none_from (c.args.after.0 + 1) 0 c.args.self.now (subst HasFlags c.self.view_is c.self.invariant.range) (λ other above from. omega arith))

pub returns-clause-least : goal.returns-clause-least
returns-clause-least c =
    let same : c.self.inside.first ≡ c.args.self.now.range.first = ap (λ (p : Addresses). p.range.first) c.self.view_is in
    rw c.free_from-2.ensures.value
    (least_from (c.args.after.0 + 1) (c.args.after.0 - c.self.inside.first + 1) c.args.self.now
    (subst HasFlags c.self.view_is c.self.invariant.range) (omega arith) (λ other above from. omega arith))

pub returns-clause-none : goal.returns-clause-none
returns-clause-none c =
    let same : c.self.inside.first ≡ c.args.self.now.range.first = ap (λ (p : Addresses). p.range.first) c.self.view_is in
    rw c.free_from-2.ensures.value
    (none_from (c.args.after.0 + 1) (c.args.after.0 - c.self.inside.first + 1) c.args.self.now
    (subst HasFlags c.self.view_is c.self.invariant.range) (λ other above from. omega arith))
