use Rattle.std.proofs.Common.{◌≡◌, ◌+◌, drop, subst, rules, tests, Bool, filter, nat_lt, nat_le}
use Rattle.std.proofs.lemmas.List.Sorted.{IsPartitionPoint-from_clause, IsPartitionedBy-ltb}
use Rattle.shift_ledger.specs.declared.ledger.ChangedUnit.{ChangedUnit}
use Rattle.shift_ledger.specs.Prelude.{Kept, KeptUnit, unit_of}
use Rattle.shift_ledger.proofs.Order.{from_point, ends_rise, le_not_lt}
use Rattle.shift_ledger.proofs.ledger.Ledger.ended_before.Goals as goal

pub returns : goal.returns
returns c =
    let xs = c.self.inside.changed.items in
    let p : KeptUnit → Bool = λ u. nat_lt (u.start + u.unit) c.args.e in
    let f : KeptUnit → Bool = λ u. nat_le c.args.e (u.start + u.unit) in
    let parted = IsPartitionedBy-ltb (λ (x : ChangedUnit). x.start + x.unit) xs c.args.e (ends_rise xs 0 0 _ _ c.self.invariant) in
    let point = IsPartitionPoint-from_clause (λ x. p (unit_of x)) xs c.partition_point.result c.partition_point.ensures.partitioned parted
    (λ a r f k. search (rules, tests)) in
    subst (λ (l : Kept). drop c.partition_point.result l.changed ≡ filter f l.changed) c.self.view_is
    (from_point p f (λ u. le_not_lt _ _) xs c.partition_point.result (search rules) point)
