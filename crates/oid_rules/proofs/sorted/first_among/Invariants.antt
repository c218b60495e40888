use Rattle.std.proofs.Common.{◌<◌, ℕ, List, All, get_or, IfSome, IsSome}
use Rattle.oid_rules.specs.Sorted.{by_rule}
use Rattle.oid_rules.specs.Inside.Sorted.{before_at, rule_at, BeginsAt, IsEarly, IsFound}
use Rattle.oid_rules.proofs.sorted.first_among.Given as goal

abbrev pub invariant-loop-at : goal.invariant-loop-at
invariant-loop-at g l = record {
  found : IsFound (by_rule (g.A.Addresses.address_by l.addresses)) l.sorted l.found;
  begun : (arcs : List ℕ) → All (BeginsAt l.sorted arcs) l.tried → IfSome l.found (λ p. BeginsAt l.sorted arcs p.0);
  early : (j : ℕ) → j < l.at-index → IsSome (g.A.Addresses.address_by l.addresses (before_at l.sorted (get_or l.tried j 0)))
      → IsEarly l.sorted l.found (rule_at l.sorted (get_or l.tried j 0)).number;
}
