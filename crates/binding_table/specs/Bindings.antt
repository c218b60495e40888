-- A table of bindings, and what addresses are called by it.
use Rattle.std.specs.Prelude.{ℕ, ◌+◌, ◌-◌, max, Bool, true, false, not, ◌&&◌, ◌||◌, ◌==◌, nat_lt, if◌then◌else◌, List, [], ◌∷◌, ◌++◌, map, Option, Some, None, option_map, count_by}
use Rattle.std.specs.List.{find, filter, list_any, range_with_len}
use Rattle.gate_base.specs.Prelude.{is_unicast_number, other, same_side}
use Rattle.gate_base.specs.declared.address.Addr.{Addr}
use Rattle.gate_base.specs.declared.event.Moment.{Moment}
use Rattle.gate_base.specs.declared.rule.OidRule.{OidRule}
use Rattle.gate_base.specs.declared.side.Side.{Side}
use Rattle.gate_base.specs.declared.side.Side.TheVariants.{Left, Right}
use Rattle.gate_settings.specs.Prelude.{is_in_same}
use Rattle.gate_settings.specs.declared.settings.Block.{Block}
use Rattle.gate_settings.specs.declared.settings.Fixed.{Fixed}
use Rattle.gate_settings.specs.declared.settings.Settings.{Settings}
use Rattle.gate_settings.specs.declared.settings.SideSettings.{SideSettings}
use Rattle.realm_pools.specs.Addresses.{Range, Addresses, is_in, least_free}
use Rattle.binding_table.specs.declared.binding.Binding.{Binding}
use Rattle.binding_table.specs.declared.binding.Crossing.{Crossing}
use Rattle.binding_table.specs.declared.binding.Crossing.TheVariants.{Same, Bound, New, Unbound, Empty}

-- the blocks whose addresses mean the same host in both realms, both pools, where object identifiers hold addresses, and the bindings in their order
pub record Bindings : Type 0 where
  pub same : List Block
  pub left : Range
  pub right : Range
  pub oids : List OidRule
  pub entries : List Binding

-- ## The opening table

-- the range of a realm's pool
abbrev pub range_of_settings : SideSettings → Range
range_of_settings side = record { first = side.first.0; last = side.last.0 }

-- a static binding
abbrev pub fixed_binding : Fixed → Binding
fixed_binding fixed = record { side = fixed.side; host = fixed.host; alias = fixed.alias; until = record { 0 = 0 }; fixed = true }

-- no binding yet
abbrev pub without_bindings : Settings → Bindings
without_bindings settings = record {
  same = settings.same;
  left = range_of_settings settings.left;
  right = range_of_settings settings.right;
  oids = settings.oids;
  entries = [];
}

-- the static bindings in their order
abbrev pub opening : Settings → Bindings
opening settings = record (without_bindings settings) { entries = map fixed_binding settings.statics }

-- ## Looking through the bindings

-- the binding of a host of the realm
abbrev pub is_of_host : Side → ℕ → Binding → Bool
is_of_host side host binding = same_side binding.side side && binding.host.0 == host

-- the binding of a host of the other realm, for which an address of the realm stands
abbrev pub is_of_alias : Side → ℕ → Binding → Bool
is_of_alias side alias binding = same_side binding.side (other side) && binding.alias.0 == alias

-- the alias of a host of the realm
abbrev pub alias_of : Side → Addr → List Binding → Option Addr
alias_of side host entries = option_map (λ binding. binding.alias) (find (is_of_host side host.0) entries)

-- the host for which an address of the realm stands
abbrev pub host_of : Side → Addr → List Binding → Option Addr
host_of side alias entries = option_map (λ binding. binding.host) (find (is_of_alias side alias.0) entries)

-- whether an address of the realm stands for a host
abbrev pub is_used : Side → List Binding → ℕ → Bool
is_used side entries alias = list_any (is_of_alias side alias) entries

-- ## The pools

-- the range of a realm's pool in a table
abbrev pub range_of : Bindings → Side → Range
range_of table Left = table.left
range_of table Right = table.right

-- the pool of a realm in which exactly the addresses that stand for a host are taken
abbrev pub pool_with : Range → Side → List Binding → Addresses
pool_with range side entries =
    record { range = range; taken = map (is_used side entries) (range_with_len range.first (range.last + 1 - range.first)) }

-- the realm's pool
abbrev pub pool_of : Bindings → Side → Addresses
pool_of table side = pool_with (range_of table side) side table.entries

-- how many addresses of the realm's pool are free
abbrev pub free : Bindings → Side → ℕ
free table side = count_by not (pool_of table side).taken

-- ## Crossing

-- no host's address, or one that means the same host in both realms
abbrev pub is_same : Bindings → Addr → Bool
is_same table address = not (is_unicast_number address.0) || is_in_same address table.same

-- whether an address lies in the realm's pool
abbrev pub in_pool : Bindings → Side → Addr → Bool
in_pool table side address = is_in address (range_of table side)

-- a known address, or else another crossing
abbrev pub known_or : Crossing → Option Addr → Crossing
known_or other None = other
known_or other (Some address) = Bound address

-- a new host is bound to this address, if there is one
abbrev pub new_or_empty : Option Addr → Crossing
new_or_empty None = Empty
new_or_empty (Some alias) = New alias

-- what an address of the realm's pool is called in the other realm
abbrev pub pool_crossing : Bindings → Side → Addr → Crossing
pool_crossing table side address = known_or Unbound (host_of side address table.entries)

-- what a host of the realm is called in the other realm
abbrev pub host_crossing : Bindings → Side → Addr → Crossing
host_crossing table side address = known_or (new_or_empty (least_free (pool_of table (other side)))) (alias_of side address table.entries)

-- what an address of the realm is called in the other realm
unfoldable pub cross : Bindings → Side → Addr → Crossing
cross table side address =
    if is_same table address then Same
    else if in_pool table side address then pool_crossing table side address
    else host_crossing table side address

-- the address by which an address goes on, if it has one already
abbrev pub seen_by : Addr → Crossing → Option Addr
seen_by address Same = Some address
seen_by address (Bound image) = Some image
seen_by address _ = None

-- whether an address goes on by one that it has already
abbrev pub is_settled : Crossing → Bool
is_settled Same = true
is_settled (Bound image) = true
is_settled _ = false

-- what an address of the realm is called in the other realm by the bindings of the table alone
abbrev pub seen : Bindings → Side → Addr → Option Addr
seen table side address = seen_by address (cross table side address)

-- ## Changes

-- a host of the realm that can be bound
abbrev pub IsNew : Crossing → Type 0
IsNew (New alias) = Unit {0}
IsNew _ = ⊥

-- an address that crosses through a binding
abbrev pub IsKnown : Crossing → Type 0
IsKnown (Bound image) = Unit {0}
IsKnown _ = ⊥

-- the table with a binding behind the others
abbrev pub with_binding : Bindings → Binding → Bindings
with_binding table binding = record table { entries = table.entries ++ binding ∷ [] }

-- the table with a host bound as it crosses
abbrev pub bound_by : Bindings → Side → Addr → Moment → Crossing → Bindings
bound_by table side host until (New alias) = with_binding table (record { side = side; host = host; alias = alias; until = until; fixed = false })
bound_by table side host until _ = table

-- the table with a new host bound behind the others
abbrev pub bound : Bindings → Side → Addr → Moment → Bindings
bound table side host until = bound_by table side host until (cross table side host)

-- the binding lasts at least until a moment
abbrev pub lasting : Moment → Binding → Binding
lasting until binding = if binding.fixed then binding else record binding { until = record { 0 = max binding.until.0 until.0 } }

-- the binding through which an address crosses: that of the host for which it stands, or that of the host itself
abbrev pub is_through : Bool → Side → Addr → Binding → Bool
is_through from_pool side address binding = if from_pool then is_of_alias side address.0 binding else is_of_host side address.0 binding

-- a binding lasts longer, if the address crosses through it
abbrev pub extend_through : Bool → Side → Addr → Moment → Binding → Binding
extend_through from_pool side address until binding = if is_through from_pool side address binding then lasting until binding else binding

-- the table in which the binding through which an address crosses lasts at least until a moment
abbrev pub extended : Bindings → Side → Addr → Moment → Bindings
extended table side address until = record table { entries = map (extend_through (in_pool table side address) side address until) table.entries }

-- a binding lives while it is fixed or hasn't ended
abbrev pub is_live : Moment → Binding → Bool
is_live now binding = binding.fixed || nat_lt now.0 binding.until.0

-- the table without the bindings that don't live
abbrev pub expired : Bindings → Moment → Bindings
expired table now = record table { entries = filter (is_live now) table.entries }
