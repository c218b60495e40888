-- The addresses of a pool, free and taken.
use Rattle.std.specs.Prelude.{ℕ, ◌+◌, ◌-◌, ◌≤◌, Bool, true, false, not, ◌&&◌, nat_le, IsTrue, List, drop, replicate, position, slice_index_or, slice_set, Option, option_map}
use Rattle.gate_base.specs.declared.address.Addr.{Addr}

-- the addresses from a first to a last
pub record Range : Type 0 where
  pub first : ℕ
  pub last : ℕ

-- the range of a pool, and of each of its addresses in order whether it is taken
pub record Addresses : Type 0 where
  pub range : Range
  pub taken : List Bool

-- a pool none of whose addresses is taken
abbrev pub unused : Addr → Addr → Addresses
unused first last = record { range = record { first = first.0; last = last.0 }; taken = replicate (last.0 - first.0 + 1) false }

-- whether the address is one of the range's
abbrev pub is_in : Addr → Range → Bool
is_in address range = nat_le range.first address.0 && nat_le address.0 range.last

-- the place of an address in its pool
abbrev pub place_of : Addr → Addresses → ℕ
place_of address pool = address.0 - pool.range.first

-- whether the address is one of the pool's, and is taken
abbrev pub is_taken : Addr → Addresses → Bool
is_taken address pool = is_in address pool.range && slice_index_or pool.taken (place_of address pool) false

-- whether the address is one of the pool's, and is free
abbrev pub is_free : Addr → Addresses → Bool
is_free address pool = is_in address pool.range && not (slice_index_or pool.taken (place_of address pool) true)

-- the pool with one address taken or free
abbrev pub with_address : Addr → Bool → Addresses → Addresses
with_address address taken pool = record pool { taken = slice_set pool.taken (place_of address pool) taken }

-- the first free address from a place of the pool on
abbrev pub free_from : ℕ → Addresses → Option Addr
free_from place pool = option_map (λ more. record { 0 = pool.range.first + (place + more) }) (position not (drop place pool.taken))

-- the least free address
abbrev pub least_free : Addresses → Option Addr
least_free pool = free_from 0 pool

-- the least free address above another
abbrev pub next_free : Addr → Addresses → Option Addr
next_free after pool = free_from (after.0 + 1 - pool.range.first) pool

-- the address is free and not below the bound, and every other such address is greater
pub record IsLeastFree (bound : ℕ) (pool : Addresses) (address : Addr) : Type 0 where
  pub free : IsTrue (is_free address pool)
  pub within : bound ≤ address.0
  pub least : (other : Addr) → IsTrue (is_free other pool) → bound ≤ other.0 → address.0 ≤ other.0

-- no free address is at or above the bound
abbrev pub IsNoneFree : ℕ → Addresses → Type 0
IsNoneFree bound pool = (other : Addr) → IsTrue (is_free other pool) → bound ≤ other.0 → ⊥
