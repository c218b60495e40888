use Rattle.std.proofs.Common.{◌≡◌, ◌-◌, ◌≤◌, ℕ, List, Some}
use Rattle.oid_rules.specs.Inside.Sorted.{Halves}
use Rattle.oid_rules.proofs.sorted.halved.Given as goal

abbrev pub invariant-loop-low : goal.invariant-loop-low
invariant-loop-low g l = record {
  low : l.low ≤ l.high;
  high : l.high ≤ l.count;
  halves : (arcs : List ℕ) → g.I.Identifier.arcs_of l.identifier ≡ Some arcs → Halves l.count l.low l.high l.sorted arcs l.begins;
}

abbrev pub decreases-loop-low : goal.decreases-loop-low
decreases-loop-low g l = l.high - l.low
