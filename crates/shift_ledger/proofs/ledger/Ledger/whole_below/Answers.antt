use Rattle.std.proofs.Common.{◌≡◌, ◌+◌, length, drop, subst, rules, tests, Bool, filter, nat_lt, nat_le}
use Rattle.std.proofs.lemmas.List.Sorted.{IsPartitionPoint-from_clause, IsPartitionedBy-leb}
use Rattle.shift_ledger.specs.declared.ledger.ChangedUnit.{ChangedUnit}
use Rattle.shift_ledger.specs.Prelude.{Kept, KeptUnit, unit_of}
use Rattle.shift_ledger.proofs.Order.{from_point, images_rise, lt_not_le}
use Rattle.shift_ledger.proofs.ledger.Ledger.whole_below.Goals as goal

pub returns : goal.returns
returns c =
    let xs = c.self.inside.changed.items in
    let p : KeptUnit → Bool = λ u. nat_le (u.at + length u.image) c.args.q in
    let f : KeptUnit → Bool = λ u. nat_lt c.args.q (u.at + length u.image) in
    let parted = IsPartitionedBy-leb (λ (x : ChangedUnit). x.at + length x.image.items) xs c.args.q (images_rise xs 0 0 _ _ c.self.invariant) in
    let point = IsPartitionPoint-from_clause (λ x. p (unit_of x)) xs c.partition_point.result c.partition_point.ensures.partitioned parted
    (λ a r f k. search (rules, tests)) in
    subst (λ (l : Kept). drop c.partition_point.result l.changed ≡ filter f l.changed) c.self.view_is
    (from_point p f (λ u. lt_not_le _ _) xs c.partition_point.result (search rules) point)
