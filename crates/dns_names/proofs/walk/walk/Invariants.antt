use Rattle.std.proofs.Common.{◌≡◌, ◌+◌, ◌-◌, ◌≤◌, ◌++◌, ◌⊎◌, ℕ, List, length, reverse}
use Rattle.dns_names.specs.Prelude.{Trail}
use Rattle.dns_names.proofs.Walking.{run}
use Rattle.dns_names.proofs.walk.walk.Given as goal

-- the octets of the labels on the trail, of which the last ones aren't kept yet
pub record OnWay (message old kept : List ℕ) (first : ℕ) (path : List ℕ) (start from at count : ℕ) : Type 0 where
  pub octets : List ℕ
  pub trail : Trail message first (reverse path) start at octets
  pub size : count ≡ length octets
  pub short : count ≤ 254
  pub order : from ≤ at
  pub inside : (from ≡ at) ⊎ (at ≤ length message)
  pub kept_are : kept ++ run message from at ≡ old ++ octets
  pub more : (more : List ℕ) × (kept ≡ old ++ more)

abbrev pub invariant-pieces : goal.invariant-pieces
invariant-pieces l = OnWay l.message l.fn.kept.items l.kept.items l.place l.path.items l.start l.from l.at l.count

abbrev pub decreases-pieces : goal.decreases-pieces
decreases-pieces l = l.start + (254 - l.count)
