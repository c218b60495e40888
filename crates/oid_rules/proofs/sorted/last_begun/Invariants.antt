use Rattle.std.proofs.Common.{◌≡◌, ◌<◌, ℕ, suc, List, Option, Some, None, length, IfSome}
use Rattle.oid_rules.proofs.Halving.{Beneath}
use Rattle.oid_rules.proofs.sorted.last_begun.Given as goal

-- more than the place that is looked at next
abbrev size : Option ℕ → ℕ
size None = 0
size (Some place) = suc place

abbrev pub invariant-loop-place : goal.invariant-loop-place
invariant-loop-place g l = record {
  within : IfSome l.place (λ at. at < length l.outer);
  beneath : (arcs : List ℕ) → g.I.Identifier.arcs_of l.identifier ≡ Some arcs → Beneath l.sorted (length l.outer) arcs l.place;
}

abbrev pub decreases-loop-place : goal.decreases-loop-place
decreases-loop-place g l = size l.place
