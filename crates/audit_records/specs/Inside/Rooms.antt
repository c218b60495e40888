-- A room in which one datagram may stand.
use Rattle.std.specs.Prelude.{◌≤◌, ℕ, List, [], ◌∷◌, length, take, Option, Some, None, IfSome}
use Rattle.gate_base.specs.declared.protocol.TheConstants.{LONGEST_DATAGRAM}

-- the datagram of so many octets at its front, or none
abbrev pub datagrams_in : Option ℕ → List ℕ → List (List ℕ)
datagrams_in None room = []
datagrams_in (Some size) room = take size room ∷ []

-- the room is large enough for any datagram
pub record IsRoom (size : Option ℕ) (room : List ℕ) : Type 0 where
  pub large : LONGEST_DATAGRAM ≤ length room
  pub stands : IfSome size (λ n. n ≤ LONGEST_DATAGRAM)
