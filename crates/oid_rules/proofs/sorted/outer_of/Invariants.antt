use Rattle.std.proofs.Common.{◌≡◌, length}
use Rattle.oid_rules.specs.Inside.Sorted.{AreOuter}
use Rattle.oid_rules.proofs.sorted.outer_of.Given as goal

abbrev pub invariant-loop-one : goal.invariant-loop-one
invariant-loop-one l = record {
  outer : AreOuter l.sorted l.outer.items;
  all : length l.outer.items ≡ l.one-index;
}
