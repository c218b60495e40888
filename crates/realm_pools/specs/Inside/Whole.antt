-- What a pool keeps.
use Rattle.std.specs.Prelude.{◌≡◌, ℕ, ◌+◌, ◌*◌, ◌<◌, ◌≤◌, ◌^◌, true, not, length, count_by, slice_index_or}
use Rattle.realm_pools.specs.declared.pool.Pool.TheInside.{Inside}
use Rattle.realm_pools.specs.Addresses.{Addresses}
use Rattle.realm_pools.specs.Inside.Places.{bit_of, one_if}
use Rattle.gate_base.specs.declared.address.TheConstants.{LARGEST_POOL}

-- the addresses of the pool
abbrev pub addresses_of : Inside → Addresses
addresses_of pool = record { range = record { first = pool.first; last = pool.last }; taken = pool.taken.items }

-- there are 1 to LARGEST_POOL addresses of 32 bits, the free ones are counted, and their places are kept
pub record IsWhole (pool : Inside) : Type 0 where
  pub range : pool.first + length pool.taken.items ≡ pool.last + 1
  pub some : pool.first ≤ pool.last
  pub few : length pool.taken.items ≤ LARGEST_POOL
  pub fits : pool.last < 2 ^ 32
  pub counted : pool.free ≡ count_by not pool.taken.items
  pub reach : length pool.taken.items < 64 * length pool.places
  pub free_places : (place : ℕ) → bit_of pool.places place ≡ one_if (not (slice_index_or pool.taken.items place true))
