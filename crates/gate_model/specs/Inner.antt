-- ICMP errors: the datagram inside, which came from the other realm and goes back.
use Rattle.std.specs.Prelude.{ℕ, Bool, true, false, ◌||◌, ◌==◌, if◌then◌else◌, List, ◌++◌, take, drop, Option, Some, None, option_map, option_and_then, is_none}
use Rattle.gate_base.specs.Prelude.{other}
use Rattle.gate_base.specs.declared.protocol.TheConstants.{TCP}
use Rattle.gate_base.specs.declared.side.Side.{Side}
use Rattle.binding_table.specs.Prelude.{seen}
use Rattle.icmp_errors.specs.Inner.{inner_fields, inner_with}
use Rattle.icmp_errors.specs.declared.Inner.{Inner}
use Rattle.ipv4_frames.specs.Ipv4.{Datagram}
use Rattle.tcp_tracker.specs.Prelude.{connection_of}
use Rattle.gate_model.specs.Rules.{SessionRules}
use Rattle.gate_model.specs.World.{Tracked, World, called, host_on}
use Rattle.gate_model.specs.Stream.{key_of, session_in}

-- what follows the first 8 octets of the message
abbrev pub inside : Datagram → List ℕ
inside d = drop 8 d.payload

-- the session to which the datagram inside belongs, if one tracks it
abbrev pub inner_session : {S : Type 0} → World S → Side → Inner → Option (Tracked S)
inner_session live side inner =
    if inner.protocol == TCP
    then session_in (connection_of (key_of side inner.destination inner.ports.1 (called live.table side inner.source) inner.ports.0) live.connections)
    else None

-- the number that its sender gave it, where a session tells; nothing inside that where the session sent no such number
abbrev pub inner_number : {S : Type 0} → SessionRules S → World S → Side → Inner → Option (Option ℕ)
inner_number rules live side inner = option_map (λ t. rules.inner (host_on (other side) t) t.session inner.sequence) (inner_session live side inner)

-- a session that tells nothing
abbrev pub is_unknown : Option (Option ℕ) → Bool
is_unknown (Some None) = true
is_unknown _ = false

-- an address inside, or its number, has no image
abbrev pub is_inner_unbound : {S : Type 0} → SessionRules S → World S → Side → Inner → Bool
is_inner_unbound rules live side inner =
    (is_none (seen live.table side inner.source) || is_none (seen live.table side inner.destination)) || is_unknown
    (inner_number rules live side inner)

-- the octets inside as they go on: by the bindings before those of the message itself
abbrev pub inner_after : {S : Type 0} → SessionRules S → World S → Side → List ℕ → List ℕ
inner_after rules live side octets =
    let inner = inner_fields octets in
    inner_with octets (called live.table side inner.source).0 (called live.table side inner.destination).0
    (option_and_then (λ number. number) (inner_number rules live side inner))

-- the message with these octets inside
abbrev pub with_inside : Datagram → List ℕ → Datagram
with_inside d octets = record d { payload = take 8 d.payload ++ octets }
