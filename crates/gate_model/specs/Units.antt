-- What the units of a DNS session over TCP name, for how long its lists keep bindings alive, and how units are tested.
use Rattle.std.specs.Prelude.{ℕ, Bool, not, ◌&&◌, nat_lt, List, [], ◌∷◌, ◌++◌, map, length, Option, Some, None}
use Rattle.gate_base.specs.Prelude.{other}
use Rattle.verdicts.specs.Prelude.{unless_refused}
use Rattle.std.specs.List.{list_any}
use Rattle.gate_base.specs.declared.address.Addr.{Addr}
use Rattle.verdicts.specs.declared.refusal.Refusal.{Refusal}
use Rattle.gate_base.specs.declared.side.Side.{Side}
use Rattle.binding_table.specs.Prelude.{Bindings, cross, Use}
use Rattle.dialogue.specs.Prelude.{Entry, is_listed}
use Rattle.ipv4_frames.specs.Ipv4.{Datagram}
use Rattle.gate_model.specs.Lists.{addresses_in, entered, renamed_in, is_bad, grows_too_much}
use Rattle.dialogue.specs.declared.TheConstants.{MOST_ENTRIES}
use Rattle.gate_model.specs.Names.{is_unbound}
use Rattle.verdicts.specs.declared.refusal.Refusal.TheVariants.{BadUnit, UnitUnbound, RenamesFull, UnitGrows}
use Rattle.gate_base.specs.declared.host.Host.TheVariants.{Client, Server}
use Rattle.gate_model.specs.Rules.{SessionRules}
use Rattle.gate_model.specs.Stream.{segment_of}
use Rattle.gate_model.specs.World.{Tracked, host_on}

-- uses of addresses of a realm, each until a moment
abbrev pub uses_until : Side → ℕ → List Addr → List Use
uses_until side moment addresses =
    map (λ address. let one : Use = record { side = side; address = address; until = record { 0 = moment } } in one) addresses

-- the units that a segment completes in the session that takes it, unless that refuses it
abbrev pub units_in : {S : Type 0} → SessionRules S → Side → Datagram → Option (Tracked S) → List (List ℕ)
units_in rules side d None = []
units_in rules side d (Some t) =
    unless_refused (rules.refusal (host_on side t) t.session (segment_of d)) (rules.units (host_on side t) t.session (segment_of d)) []

-- the addresses to rename in them
abbrev pub names_in : {S : Type 0} → SessionRules S → Side → Datagram → Option (Tracked S) → List Addr
names_in rules side d t = addresses_in (units_in rules side d t)

-- the list of the segment's sender, before it
abbrev pub entries_in : {S : Type 0} → SessionRules S → Side → Option (Tracked S) → List Entry
entries_in rules side None = []
entries_in rules side (Some t) = rules.listed (host_on side t) t.session

-- and after the segment, by what new addresses are called
abbrev pub entries_after : {S : Type 0} → SessionRules S → (Addr → Option Addr) → Side → Datagram → Option (Tracked S) → List Entry
entries_after rules image side d t = entered image (entries_in rules side t) (names_in rules side d t)

-- the uses of the addresses that the lists of a session rename, each from the realm of its list's sender: the client's list first
abbrev pub uses_of_lists : {S : Type 0} → SessionRules S → ℕ → Option (Tracked S) → List Use
uses_of_lists rules until None = []
uses_of_lists rules until (Some t) =
    uses_until t.client until (renamed_in (rules.listed Client t.session)) ++ uses_until (other t.client) until
    (renamed_in (rules.listed Server t.session))

-- an address that isn't listed, is of the realm's pool and stands for no host
abbrev pub is_new_unbound : Bindings → Side → List Entry → Addr → Bool
is_new_unbound table side entries address = not (is_listed entries address.0) && is_unbound (cross table side address)

-- the tests of the units that a segment completes: one holds no message, one names an address that stands for no host, or the list of its sender would be longer than the most
abbrev pub unit_tests : {S : Type 0} → SessionRules S → (Addr → Option Addr) → Bindings → Side → Datagram → Option (Tracked S) → List (Bool × Refusal)
unit_tests rules image table side d t =
    (list_any is_bad (units_in rules side d t), BadUnit)
    ∷ (list_any (is_new_unbound table side (entries_in rules side t)) (names_in rules side d t), UnitUnbound)
    ∷ (nat_lt MOST_ENTRIES (length (entries_after rules image side d t)), RenamesFull) ∷ []

-- behind all others: one would grow too much by the list afterwards
abbrev pub growth_tests : {S : Type 0} → SessionRules S → (Addr → Option Addr) → Side → Datagram → Option (Tracked S) → List (Bool × Refusal)
growth_tests rules image side d t = (list_any (grows_too_much (entries_after rules image side d t)) (units_in rules side d t), UnitGrows) ∷ []
