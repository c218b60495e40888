-- One datagram.
use Rattle.std.specs.Prelude.{◌≡◌, ◌≤◌, ℕ, List, [], ◌∷◌, length}
use Rattle.gate_base.specs.declared.protocol.TheConstants.{LONGEST_DATAGRAM}
use Rattle.resegment.specs.Datagrams.{datagrams_from, AreEnds}
use Rattle.resegment.specs.declared.datagrams.TheConstants.{MOST_DATAGRAMS}

-- these octets are the one datagram
pub record IsOne (octets ends : List ℕ) : Type 0 where
  pub datagrams : datagrams_from 0 octets ends ≡ octets ∷ []
  pub bounds : AreEnds 0 ends (length octets)
  pub few : length ends ≤ MOST_DATAGRAMS
  pub short : length octets ≤ LONGEST_DATAGRAM
