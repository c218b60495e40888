-- Rows worked by hand.
use Rattle.std.proofs.Common.{◌≡◌, ℕ, true, false, Some, None, refl}
use Rattle.gate_base.specs.declared.address.Addr.{Addr}
use Rattle.realm_pools.specs.Addresses.{Addresses, is_free, least_free, next_free, unused, with_address}

abbrev address : ℕ → Addr
address number = record { 0 = number }

-- 5 and 7 of 5 to 7 are taken
abbrev pool : Addresses
pool = with_address (address 7) true (with_address (address 5) true (unused (address 5) (address 7)))

taken : is_free (address 5) pool ≡ false
taken = refl

outside : is_free (address 8) pool ≡ false
outside = refl

least : least_free pool ≡ Some (address 6)
least = refl

below : next_free (address 2) pool ≡ Some (address 6)
below = refl

above : next_free (address 6) pool ≡ None
above = refl

given_back : next_free (address 6) (with_address (address 7) false pool) ≡ Some (address 7)
given_back = refl
