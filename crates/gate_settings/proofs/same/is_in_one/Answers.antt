use Rattle.std.proofs.Common.{◌-◌, ◌∙◌, ap, sym, subst, get_or, arith, rules, tests, nat_le, le-ltb}
use Rattle.std.proofs.lemmas.List.Sorted.{IsPartitionPoint-from_clause, IsPartitionedBy-leb}
use Rattle.gate_settings.specs.declared.same.SameRange.{SameRange}
use Rattle.gate_settings.proofs.Rising.{IsPoint, none_begun, last_decides}
use Rattle.gate_settings.proofs.same.is_in_one.Goals as goal
use Rattle.gate_settings.proofs.same.is_in_one.Goals.{After-partition_point-begun}

point_is : (c : After-partition_point-begun) → IsPoint c.args.address c.args.ranges.now c.partition_point-begun.result
point_is c =
    let parted = IsPartitionedBy-leb (λ (r : SameRange). r.first) c.args.ranges.now c.args.address c.requires.firsts in
    IsPartitionPoint-from_clause (λ (r : SameRange). nat_le r.first c.args.address) c.args.ranges.now c.partition_point-begun.result
    c.partition_point-begun.ensures.partitioned parted (λ a r f k. search (rules, tests))

pub returns-then-begun-gt0 : goal.returns-then-begun-gt0
returns-then-begun-gt0 c =
    let d : SameRange = record { first = 0; last = 0 } in
    ap (λ n. nat_le n (get_or c.args.ranges.now (c.partition_point-begun.result - 1) d).last) c.from.ensures
    ∙ last_decides c.args.address c.partition_point-begun.result c.args.ranges.now d c.requires c.if-begun-gt0.true
    c.partition_point-begun.ensures.bound (point_is (goal.at.returns-then-begun-gt0 c).After-partition_point-begun)

pub returns-else-begun-gt0 : goal.returns-else-begun-gt0
returns-else-begun-gt0 c =
    le-ltb _ _ c.if-begun-gt0.false
    ∙ sym (none_begun c.args.address c.args.ranges.now
    (subst (IsPoint c.args.address c.args.ranges.now) (omega arith) (point_is (goal.at.returns-else-begun-gt0 c).After-partition_point-begun)))
