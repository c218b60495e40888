-- Both addresses of a datagram, and how they cross.
use Rattle.std.specs.Prelude.{◌≡◌, ℕ, ◌+◌, Bool, true, false, not, List, [], ◌∷◌}
use Rattle.gate_base.specs.declared.address.Addr.{Addr}
use Rattle.verdicts.specs.declared.refusal.Refusal.{Refusal}
use Rattle.verdicts.specs.declared.refusal.Refusal.TheVariants.{SourceInPool, NoBinding}
use Rattle.binding_table.specs.Prelude.{Bindings, cross, in_pool, Use}
use Rattle.binding_table.specs.declared.binding.Crossing.{Crossing}
use Rattle.binding_table.specs.declared.binding.Crossing.TheVariants.{Bound, New, Empty}
use Rattle.gate_model.specs.Prelude.{uses_until, is_reachable}
use Rattle.event_payloads.specs.declared.addresses.Way.{Way}

-- the crossings are those of a table
pub record IsWay (table : Bindings) (way : Way) : Type 0 where
  pub source : way.of_source ≡ cross table way.side way.source
  pub destination : way.of_destination ≡ cross table way.side way.destination

-- what an address is called once it was used
abbrev pub image_by : Crossing → Addr → Addr
image_by (Bound image) address = image
image_by (New image) address = image
image_by _ address = address

-- there is no address left for a host
abbrev pub is_empty : Crossing → Bool
is_empty Empty = true
is_empty _ = false

-- the tests of both addresses
abbrev pub way_tests : Bindings → Way → List (Bool × Refusal)
way_tests table way =
    (in_pool table way.side way.source, SourceInPool)
    ∷ (not (is_reachable table way.side way.destination), NoBinding)
    ∷ []

-- the uses of both addresses, until a timeout after the datagram's moment
abbrev pub header_uses : Way → ℕ → List Use
header_uses way timeout = uses_until way.side (way.moment.0 + timeout) (way.source ∷ way.destination ∷ [])
