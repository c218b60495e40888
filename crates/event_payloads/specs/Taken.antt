-- What becomes of a datagram by what it carries.
use Rattle.std.specs.Prelude.{[], ◌≡◌, ◌≤◌, ℕ, length, false, true, List, ◌∷◌, ◌++◌, Option}
use Rattle.verdicts.specs.declared.refusal.Refusal.{Refusal}
use Rattle.verdicts.specs.declared.refusal.Refusal.TheVariants.{PoolEmpty}
use Rattle.gate_base.specs.declared.side.Side.{Side}
use Rattle.binding_table.specs.Prelude.{Bindings, in_pool, is_settled}
use Rattle.ipv4_frames.specs.Ipv4.{Datagram}
use Rattle.verdicts.specs.Prelude.{first_that_holds, unless_refused}
use Rattle.gate_base.specs.declared.protocol.TheConstants.{LONGEST_DATAGRAM, UDP}
use Rattle.twice_translate.specs.Renamed.{CanGoOn, datagram_of}
use Rattle.gate_model.specs.Prelude.{Kind, carried, out_kind, kind_tests, late_tests, is_pool_empty, table_after, World, source_of, destination_of, SessionRules}
use Rattle.event_payloads.specs.Ways.{IsWay}
use Rattle.event_payloads.specs.declared.addresses.Way.{Way}

-- a datagram of a kind is refused by the tests of that kind and its pool, or passes: the bindings, and what goes out
pub record IsTaken {S : Type 0} (rules : SessionRules S) (live : World S) (side : Side) (d : Datagram) (kind : Kind) (refusal : Option Refusal)
    (table : Bindings) (sent : List (List ℕ)) : Type 0 where
  pub answer : refusal ≡ first_that_holds
      (kind_tests rules live side live.clock d kind
      ++ (is_pool_empty rules live side d kind, PoolEmpty) ∷ late_tests rules live side live.clock d kind)
  pub bound : table ≡ unless_refused refusal (table_after rules live side live.clock d kind) live.table
  pub gone : sent ≡ unless_refused refusal (out_kind rules live side live.clock d kind) []

-- the way is that of a datagram, over what lives, and its addresses are not refused
pub record IsWayOf {S : Type 0} (live : World S) (side : Side) (d : Datagram) (way : Way) : Type 0 where
  pub side_is : way.side ≡ side
  pub moment_is : way.moment.0 ≡ live.clock
  pub source_is : way.source ≡ source_of d
  pub destination_is : way.destination ≡ destination_of d
  pub crossings : IsWay live.table way
  pub outside : in_pool live.table side (source_of d) ≡ false
  pub settled : is_settled way.of_destination ≡ true

-- the octets of a UDP datagram that can go on, and what it carries
pub record IsUdpOf (octets payload : List ℕ) : Type 0 where
  pub few : length octets ≤ LONGEST_DATAGRAM
  pub can : CanGoOn octets
  pub protocol : (datagram_of octets).protocol ≡ UDP
  pub same : payload ≡ carried (datagram_of octets)
