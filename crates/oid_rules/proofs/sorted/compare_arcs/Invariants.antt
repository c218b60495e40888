use Rattle.std.proofs.Common.{◌≡◌, drop}
use Rattle.oid_rules.specs.Sorted.{compared}
use Rattle.oid_rules.proofs.sorted.compare_arcs.Given as goal

abbrev pub invariant-loop-arc : goal.invariant-loop-arc
invariant-loop-arc l = compared l.rest (drop l.arc-index l.prefix) ≡ compared l.arcs l.prefix
