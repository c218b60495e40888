-- What the table's inner calls need and give.
use Rattle.std.specs.Prelude.{◌≡◌, ℕ, ◌+◌, ◌-◌, ◌*◌, ◌<◌, length, nat_le, ◌||◌, IfSome, Bool, true, false, if◌then◌else◌, List, [], map, replicate, position, slice_index_or, slice_set, Option, Some, None, is_some, option_and_then, All, AllPairs}
use Rattle.std.specs.List.{range_with_len}
use Rattle.expiring_table.specs.declared.row.Row.{Row}
use Rattle.expiring_table.specs.Prelude.{Table, row_of}
use Rattle.gate_base.specs.Prelude.{other, same_side}
use Rattle.gate_base.specs.declared.address.Addr.{Addr}
use Rattle.gate_base.specs.declared.event.Moment.{Moment}
use Rattle.gate_base.specs.declared.side.Side.{Side}
use Rattle.gate_base.specs.declared.side.Side.TheVariants.{Left, Right}
use Rattle.realm_pools.specs.Addresses.{Range, Addresses, unused, place_of, with_address, least_free, next_free}
use Rattle.binding_table.specs.declared.binding.Binding.{Binding}
use Rattle.binding_table.specs.declared.binding.Crossing.{Crossing}
use Rattle.binding_table.specs.declared.binding.Crossing.TheVariants.{Same, Bound}
use Rattle.binding_table.specs.Bindings.{Bindings, cross, extend_through, in_pool, range_of, host_of, pool_with}
use Rattle.binding_table.specs.Lawful.{IsInPlace, collides}
use Rattle.binding_table.specs.Plan.{is_address, needs_binding}
use Rattle.binding_table.specs.declared.seen_addresses.TheConstants.{MOST_SEEN}

-- ## Bindings that come and go

-- the binding can be put behind those of the table
pub record CanHold (table : Bindings) (binding : Binding) : Type 0 where
  pub place : IsInPlace table binding
  pub once : All (λ earlier. collides binding earlier ≡ false) table.entries

-- a table without blocks and rules
abbrev pub plain_table : Range → Range → List Binding → Bindings
plain_table left right entries = record { same = []; left = left; right = right; oids = []; entries = entries }

-- every alias is in its pool, and no two bindings of one realm's hosts share it
pub record AreTaken (table : Bindings) : Type 0 where
  pub once : AllPairs (λ earlier binding. collides binding earlier ≡ false) table.entries
  pub aliases : All (λ binding. in_pool table (other binding.side) binding.alias ≡ true) table.entries

-- ## The hosts for which the addresses of a pool stand

-- a pool, and for each of its addresses in order the host for which it stands
pub record Aliases : Type 0 where
  pub pool : Addresses
  pub hosts : List (Option Addr)

-- a pool none of whose addresses stands for a host
abbrev pub no_hosts : Addr → Addr → Aliases
no_hosts first last = record { pool = unused first last; hosts = replicate (last.0 - first.0 + 1) None }

-- the pool, one address of which stands for a host, or for none
abbrev pub with_host : Addr → Option Addr → Aliases → Aliases
with_host alias host aliases =
    record { pool = with_address alias (is_some host) aliases.pool; hosts = slice_set aliases.hosts (place_of alias aliases.pool) host }

-- the host for which the address with a number stands
abbrev pub host_at : Side → List Binding → ℕ → Option Addr
host_at side entries number = host_of side (record { 0 = number }) entries

-- the pool of a realm whose addresses stand for their hosts by the bindings
abbrev pub aliases_with : Range → Side → List Binding → Aliases
aliases_with range side entries =
    record { pool = pool_with range side entries; hosts = map (host_at side entries) (range_with_len range.first (range.last + 1 - range.first)) }

abbrev pub aliases_of : Bindings → Side → Aliases
aliases_of table side = aliases_with (range_of table side) side table.entries

-- a pool, where the binding's alias, if it is one of the realm's, stands for a host or for none
abbrev pub changed : Side → Binding → Option Addr → Aliases → Aliases
changed side binding host aliases = if same_side binding.side (other side) then with_host binding.alias host aliases else aliases

-- ## Bindings as rows

-- the number of a host of a realm
abbrev pub number_of : Side → ℕ → ℕ
number_of Left host = 2 * host
number_of Right host = 2 * host + 1

-- the binding under its host's number, with its end, if it has one
abbrev pub filed : Binding → Row Binding
filed binding = record { key = number_of binding.side binding.host.0; end = if binding.fixed then None else Some binding.until.0; value = binding }

-- the binding lives at least until a moment already
abbrev pub lasts : Moment → Binding → Bool
lasts until binding = binding.fixed || nat_le until.0 binding.until.0

-- the binding, unless it is fixed
abbrev pub unless_fixed : Binding → Option Binding
unless_fixed binding = if binding.fixed then None else Some binding

-- the row, unless it has no end
abbrev pub ending : Row Binding → Option (Row Binding)
ending row = if is_some row.end then Some row else None

-- the row with a number, unless it is that of a fixed binding
abbrev pub moving_row : ℕ → List Binding → Option (Row Binding)
moving_row number entries = option_and_then ending (row_of number (map filed entries))

-- the bindings, where that of a row lives at least until a moment
abbrev pub extended_by : Option (Row Binding) → Moment → List Binding → List Binding
extended_by None until entries = entries
extended_by (Some row) until entries = map (extend_through false row.value.side row.value.host until) entries

abbrev pub entries_in : List (Row Binding) → List Binding
entries_in rows = map (λ row. row.value) rows

-- the rows are those of bindings, whose aliases stand for their hosts
pub record AreKept (left right : Aliases) (rows : List (Row Binding)) : Type 0 where
  pub rows_are : rows ≡ map filed (entries_in rows)
  pub taken : AreTaken (plain_table left.pool.range right.pool.range (entries_in rows))
  pub left_is : left ≡ aliases_with left.pool.range Left (entries_in rows)
  pub right_is : right ≡ aliases_with right.pool.range Right (entries_in rows)

-- ## How a plan is made

-- the least free address behind the one that was given last
abbrev pub next_alias : Addresses → Option Addr → Option Addr
next_alias pool None = least_free pool
next_alias pool (Some given) = next_free given pool

-- the image that an earlier place of the same address has, or else the next alias; and the alias that was given last
abbrev pub given_image : Addresses → List (Option Addr) → Option Addr → Option ℕ → Option Addr × Option Addr
given_image pool images given (Some place) = (slice_index_or images place None, given)
given_image pool images given None = (next_alias pool given, next_alias pool given)

-- the image of an address behind earlier ones and their images, and the alias that was given last
abbrev pub planned_by : Addresses → List Addr → List (Option Addr) → Option Addr → Addr → Crossing → Option Addr × Option Addr
planned_by pool earlier images given address Same = (None, given)
planned_by pool earlier images given address (Bound image) = (Some image, given)
planned_by pool earlier images given address _ = given_image pool images given (position (is_address address) earlier)

-- whether an address of the realm needs a binding
abbrev pub needing : Bindings → Side → Addr → Bool
needing table side address = needs_binding (cross table side address)

-- a row that is taken out whenever rows that ended are
abbrev pub EndsAtOnce : Row ℕ → Type 0
EndsAtOnce row = row.end ≡ Some 0

-- the rows have the places at which earlier addresses stand first: all of those that need a binding, as long as there is room for a row more
pub record AreFirsts (needs : Addr → Bool) (earlier : List Addr) (seen_addresses : Table ℕ) : Type 0 where
  pub most : seen_addresses.most ≡ MOST_SEEN
  pub ends : All EndsAtOnce seen_addresses.rows
  pub found : (address : Addr) → needs address ≡ true → IfSome (row_of address.0 seen_addresses.rows)
      (λ row. position (is_address address) earlier ≡ Some row.value)
  pub lacks : (address : Addr) → needs address ≡ true → row_of address.0 seen_addresses.rows ≡ None → length seen_addresses.rows < seen_addresses.most
      → position (is_address address) earlier ≡ None
