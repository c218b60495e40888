-- What the whole units in octets do that follow a unit's end.
use Rattle.std.specs.Prelude.{◌≡◌, ◌≢◌, ℕ, Bool, nat_lt, List, [], ◌∷◌, map, length, Option, Some, All}
use Rattle.std.specs.List.{list_any}
use Rattle.gate_base.specs.Prelude.{other}
use Rattle.verdicts.specs.Prelude.{first_that_holds}
use Rattle.gate_base.specs.declared.address.Addr.{Addr}
use Rattle.verdicts.specs.declared.refusal.Refusal.{Refusal}
use Rattle.verdicts.specs.declared.refusal.Refusal.TheVariants.{BadUnit, UnitUnbound, RenamesFull, PoolEmpty, UnitGrows}
use Rattle.gate_base.specs.declared.side.Side.{Side}
use Rattle.binding_table.specs.Prelude.{AreUsesOf, Bindings, cross, free, Use, after_uses, image_after, needed}
use Rattle.binding_table.specs.declared.binding.Crossing.TheVariants.{Unbound}
use Rattle.dialogue.specs.Prelude.{Entry, cut}
use Rattle.dns_stream.specs.Prelude.{dns_units}
use Rattle.gate_model.specs.Prelude.{addresses_in, entered, is_bad, grows_too_much, is_new_unbound}
use Rattle.dialogue.specs.declared.TheConstants.{MOST_ENTRIES}
use Rattle.dns_plans.specs.declared.plan.Endpoints.{Endpoints}
use Rattle.dns_plans.specs.declared.stop.PlanStop.{PlanStop}
use Rattle.dns_plans.specs.declared.stop.PlanStop.TheVariants.{Refused, OutOfMemory}

-- the whole units; no list changes where a unit ends
abbrev pub whole_units : List ℕ → List (List ℕ)
whole_units octets = (cut (dns_units []) octets).units

-- the addresses to rename in them
abbrev pub names_in : List ℕ → List Addr
names_in octets = addresses_in (whole_units octets)

-- the addresses that a segment uses: those of its header, and then those that its units name
abbrev pub all_addresses : Endpoints → List Addr → List Addr
all_addresses ends names = ends.source ∷ ends.destination ∷ names

-- what an address of the realm is called once these uses are made: none where it crosses unchanged
abbrev pub called_after : Bindings → List Use → Side → Addr → Option Addr
called_after table uses side address = image_after table (after_uses table uses) side address

-- addresses beside what they are called
abbrev pub beside : (Addr → Option Addr) → List Addr → List Entry
beside called names = map (λ (address : Addr). let one : Entry = (address, called address) in one) names

-- none of these addresses is of the realm's pool and stands for no host
abbrev pub AreBound : Bindings → Side → List Addr → Type 0
AreBound table side addresses = All (λ address. cross table side address ≢ Unbound) addresses

-- and none that a list has
abbrev pub IsListBound : Bindings → Side → List Entry → Type 0
IsListBound table side entries = AreBound table side (map (λ (entry : Entry). entry.0) entries)

-- the tests of units, by what the addresses in them are called afterwards
abbrev pub plan_tests : Bindings → (Addr → Option Addr) → Endpoints → List Entry → List ℕ → List (Bool × Refusal)
plan_tests table called ends entries octets =
    let units = whole_units octets in
    let names = addresses_in units in
    let after = entered called entries names in
    (list_any is_bad units, BadUnit)
    ∷ (list_any (is_new_unbound table ends.side entries) names, UnitUnbound)
    ∷ (nat_lt MOST_ENTRIES (length after), RenamesFull)
    ∷ (nat_lt (free table (other ends.side)) (needed table ends.side (all_addresses ends names)), PoolEmpty)
    ∷ (list_any (grows_too_much after) units, UnitGrows)
    ∷ []

-- these are uses of all addresses of a segment whose units end in these octets
abbrev pub AreAllUses : Endpoints → List ℕ → List Use → Type 0
AreAllUses ends octets uses = AreUsesOf ends.side (all_addresses ends (names_in octets)) uses

-- the first test that holds, by what addresses are called once these uses are made
abbrev pub first_reason : Bindings → List Use → Endpoints → List Entry → List ℕ → Option Refusal
first_reason table uses ends entries octets = first_that_holds (plan_tests table (called_after table uses ends.side) ends entries octets)

-- there is no plan since a test holds, which is told, or since memory is wanting
abbrev pub TellsFirst : Option Refusal → PlanStop → Type 0
TellsFirst first (Refused refusal) = first ≡ Some refusal
TellsFirst first OutOfMemory = Unit {0}
