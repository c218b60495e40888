use Rattle.std.proofs.Common.{◌≡◌, ℕ, ◌*◌, ◌<◌, nat_lt, length}
use Rattle.realm_pools.specs.Inside.Places.{bit_of, one_if}
use Rattle.realm_pools.proofs.places.Places.new.Given as goal

abbrev pub invariant-loop-place : goal.invariant-loop-place
invariant-loop-place l = record {
  long : l.size < 64 * length l.places;
  so_far : (place : ℕ) → bit_of l.places place ≡ one_if (nat_lt place l.place);
}
