use Rattle.std.proofs.Common.{◌≡◌, length}
use Rattle.oid_rules.specs.Inside.Sorted.{AreTried}
use Rattle.oid_rules.proofs.sorted.tried_of.Given as goal

abbrev pub invariant-loop-at : goal.invariant-loop-at
invariant-loop-at l = record {
  tried : AreTried l.sorted l.tried.items;
  every : length l.tried.items ≡ l.at;
}
