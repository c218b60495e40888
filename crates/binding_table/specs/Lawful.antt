-- What is true of every table.
use Rattle.std.specs.Prelude.{◌≡◌, ◌≤◌, Bool, true, false, ◌&&◌, ◌||◌, ◌==◌, All, AllPairs}
use Rattle.gate_base.specs.Prelude.{other, same_side}
use Rattle.gate_base.specs.declared.address.Addr.{Addr}
use Rattle.gate_base.specs.declared.side.Side.{Side}
use Rattle.binding_table.specs.declared.binding.Binding.{Binding}
use Rattle.binding_table.specs.Bindings.{Bindings, range_of, is_same, in_pool}

-- the two are of hosts of one realm, and have the host or the alias in common
abbrev pub collides : Binding → Binding → Bool
collides binding earlier = same_side earlier.side binding.side && (earlier.host.0 == binding.host.0 || earlier.alias.0 == binding.alias.0)

-- the alias is in the other realm's pool, and the host is a host of its own realm
pub record IsInPlace (table : Bindings) (binding : Binding) : Type 0 where
  pub alias : in_pool table (other binding.side) binding.alias ≡ true
  pub outside : in_pool table binding.side binding.host ≡ false
  pub host : is_same table binding.host ≡ false

-- hosts and aliases are in their places, no two bindings of one realm's hosts share either, no pool is empty, and no address of a pool crosses
-- unchanged
pub record IsLawful (table : Bindings) : Type 0 where
  pub once : AllPairs (λ earlier binding. collides binding earlier ≡ false) table.entries
  pub places : All (IsInPlace table) table.entries
  pub ranges : (side : Side) → (range_of table side).first ≤ (range_of table side).last
  pub pools : (side : Side) (address : Addr) → in_pool table side address ≡ true → is_same table address ≡ false
