-- What becomes of a segment.
use Rattle.std.specs.Prelude.{◌≤◌, ◌≡◌, ◌&&◌, ◌++◌, not, nat_le, ℕ, Bool, List, [], ◌∷◌, length, Option, Some, None, is_none, if◌then◌else◌}
use Rattle.gate_base.specs.declared.address.Addr.{Addr}
use Rattle.verdicts.specs.Prelude.{first_that_holds}
use Rattle.gate_base.specs.declared.event.Pair.{Pair}
use Rattle.verdicts.specs.declared.refusal.Refusal.{Refusal}
use Rattle.verdicts.specs.declared.refusal.Refusal.TheVariants.{PoolEmpty, SessionsFull}
use Rattle.gate_base.specs.declared.side.Side.{Side}
use Rattle.gate_base.specs.declared.protocol.TheConstants.{LONGEST_DATAGRAM}
use Rattle.ipv4_frames.specs.Ipv4.{Datagram}
use Rattle.tcp_segments.specs.Prelude.{Tcp, flags_of}
use Rattle.tcp_tracker.specs.declared.connection.Connection.{Connection}
use Rattle.tcp_tracker.specs.declared.tracker.TheConstants.{MOST_CONNECTIONS}
use Rattle.gate_model.specs.Prelude.{Kind, Stream, tcp_of, segment_of, stepped, ends_by, pending_by, kind_tests}
use Rattle.gate_model.specs.Prelude.{late_tests, is_pool_empty, Tracked, World, host_on, addresses_in, SessionRules}
use Rattle.twice_translate.specs.Renamed.{CanGoOn, datagram_of}
use Rattle.dialogue.specs.Prelude.{Entry, AreImages}
use Rattle.dialogue.specs.declared.TheConstants.{MOST_ENTRIES}
use Rattle.dialogue.specs.declared.learns.UnitImage.{UnitImage}
use Rattle.dns_stream.specs.Prelude.{dns_units}
use Rattle.dns_plans.specs.Prelude.{beside, entered_all}
use Rattle.event_payloads.specs.Prelude.{image_by}
use Rattle.event_payloads.specs.declared.addresses.Way.{Way}

-- what stands in the octets of a segment, which can go on
pub record IsSegmentOf (octets : List ℕ) (d : Datagram) (tcp : Tcp) : Type 0 where
  pub same : datagram_of octets ≡ d
  pub few : length octets ≤ LONGEST_DATAGRAM
  pub can : CanGoOn octets
  pub tcp_is : tcp ≡ tcp_of d

-- the first test behind those of the addresses that holds, of a datagram of a kind
abbrev pub refusal_as : {S : Type 0} (rules : SessionRules S) → Kind → World S → Side → Datagram → Option Refusal
refusal_as rules kind live side d =
    first_that_holds
    (kind_tests rules live side live.clock d kind
    ++ (is_pool_empty rules live side d kind, PoolEmpty) ∷ late_tests rules live side live.clock d kind)

-- a segment whose addresses are not refused
abbrev pub stream_refusal : {S : Type 0} (rules : SessionRules S) → World S → Side → Datagram → Option Refusal
stream_refusal rules live side d = refusal_as rules Stream live side d

-- the tests behind those of a session
abbrev pub room_tests : Bool → Bool → List (Bool × Refusal)
room_tests full empty = (full, SessionsFull) ∷ (empty, PoolEmpty) ∷ []

-- it would make a connection, and the most of them live
abbrev pub lacks_place : {X : Type 0} → List (Connection X) → Option (Connection X) → ℕ → Bool
lacks_place all found flags = is_none found && (not (flags_of flags).reset && nat_le MOST_CONNECTIONS (length all))

-- the addresses that the units of a segment name, each beside what it is called
abbrev pub AreCalled : {S : Type 0} (rules : SessionRules S) → (Addr → Option Addr) → Side → Datagram → Tracked S → List Entry → Type 0
AreCalled rules image side d t entries = entries ≡ beside image (addresses_in (rules.units (host_on side t) t.session (segment_of d)))

-- a session passes a segment, its list has room for such entries, and these are images of units by the list with them
pub record Enters {S : Type 0} (rules : SessionRules S) (side : Side) (d : Datagram) (t : Tracked S) (entries : List Entry)
    (images : List UnitImage) : Type 0 where
  pub passes : rules.refusal (host_on side t) t.session (segment_of d) ≡ None
  pub few : length (entered_all (rules.listed (host_on side t) t.session) entries) ≤ MOST_ENTRIES
  pub image : Addr → Option Addr
  pub called : AreCalled rules image side d t entries
  pub right : AreImages (dns_units (entered_all (rules.listed (host_on side t) t.session) entries)) images

-- how many changed lines or units wait in a session after a segment, unless it ends
abbrev pub waiting_after : {S : Type 0} (rules : SessionRules S) → (Addr → Option Addr) → Side → Datagram → Tracked S → Option ℕ
waiting_after rules image side d t = if ends_by rules side d (Some t) then None else Some (pending_by rules (Some (stepped rules image side d t)))

-- the pair of the hosts on a way
abbrev pub pair_on : Way → Pair
pair_on way = record {
  client = way.source;
  client_alias = image_by way.of_source way.source;
  server = image_by way.of_destination way.destination;
  server_alias = way.destination;
}

-- the session that a first segment makes
abbrev pub made_on : {S : Type 0} (rules : SessionRules S) → Way → Tcp → Tracked S
made_on rules way tcp = record { client = way.side; pair = pair_on way; session = rules.made tcp.destination_port (pair_on way) tcp.sequence tcp.mss }
