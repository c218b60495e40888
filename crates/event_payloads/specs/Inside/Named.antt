-- What a datagram with a DNS message uses.
use Rattle.std.specs.Prelude.{ℕ, ◌+◌, List, [], ◌∷◌, ◌++◌}
use Rattle.gate_base.specs.declared.address.Addr.{Addr}
use Rattle.gate_base.specs.declared.side.Side.{Side}
use Rattle.binding_table.specs.Prelude.{Use}
use Rattle.gate_model.specs.Prelude.{uses_until}
use Rattle.gate_model.specs.declared.timeouts.TheConstants.{NAMED_TIMEOUT, UDP_TIMEOUT}

-- the uses of both addresses by the header, and of those in the message
abbrev pub named_uses : Side → ℕ → Addr → Addr → List Addr → List Use
named_uses side moment source destination named =
    uses_until side (moment + UDP_TIMEOUT) (source ∷ destination ∷ []) ++ uses_until side (moment + NAMED_TIMEOUT) named
