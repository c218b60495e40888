-- SNMP messages (RFC 2962).
use Rattle.std.specs.Prelude.{ℕ, List, Option, option_map}
use Rattle.gate_base.specs.declared.side.Side.{Side}
use Rattle.binding_table.specs.Prelude.{Bindings, seen}
use Rattle.ipv4_frames.specs.Ipv4.{Datagram}
use Rattle.snmp_oids.specs.Elements.{oid_renamed}
use Rattle.gate_model.specs.Names.{carried}

-- what an address that is a number is called in the other realm
abbrev pub number_seen : Bindings → Side → ℕ → Option ℕ
number_seen table side address = option_map (λ image. image.0) (seen table side (record { 0 = address }))

-- the message that goes on, by the bindings after it
abbrev pub management_after : Bindings → Side → Datagram → List ℕ
management_after after side d = oid_renamed (number_seen after side) after.oids (carried d)
