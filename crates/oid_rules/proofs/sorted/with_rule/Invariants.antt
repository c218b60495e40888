use Rattle.std.proofs.Common.{◌≡◌, ◌<◌, ◌++◌, drop, length}
use Rattle.oid_rules.specs.Inside.Sorted.{with_rule}
use Rattle.oid_rules.proofs.sorted.with_rule.Given as goal

abbrev pub invariant-loop-place : goal.invariant-loop-place
invariant-loop-place l = record {
  more : l.more.items ++ with_rule l.sorted (drop l.place-index l.places) l.best ≡ with_rule l.sorted l.places l.one;
  best : l.best < length l.sorted;
}
