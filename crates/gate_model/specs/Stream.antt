-- TCP segments, their connections and their sessions.
use Rattle.std.specs.Prelude.{ℕ, ◌-◌, Bool, false, not, ◌&&◌, ◌||◌, nat_le, if◌then◌else◌, List, take, drop, length, count_by, Option, Some, None, option_map, option_and_then, is_none}
use Rattle.gate_base.specs.declared.address.Addr.{Addr}
use Rattle.gate_base.specs.declared.event.Pair.{Pair}
use Rattle.verdicts.specs.declared.refusal.Refusal.{Refusal}
use Rattle.gate_base.specs.declared.side.Side.{Side}
use Rattle.gate_base.specs.declared.side.Side.TheVariants.{Left, Right}
use Rattle.binding_table.specs.Prelude.{Bindings}
use Rattle.ipv4_frames.specs.Ipv4.{Datagram}
use Rattle.tcp_segments.specs.Prelude.{flags_of, flags_octet, Tcp, tcp_fields_of, tcp_header_length_of, spelled_segment, datagram_of}
use Rattle.stream_model.specs.Prelude.{Segment, Outgoing, segment_in}
use Rattle.tcp_tracker.specs.Prelude.{is_tracked, connection_of, timeout_of, after, with_session}
use Rattle.tcp_tracker.specs.declared.connection.TheConstants.{SHORT_TIMEOUT}
use Rattle.tcp_tracker.specs.declared.connection.ConnKey.{ConnKey}
use Rattle.tcp_tracker.specs.declared.connection.Connection.{Connection}
use Rattle.tcp_tracker.specs.declared.tracker.TheConstants.{MOST_CONNECTIONS}
use Rattle.tcp_tracker.specs.declared.table.TheConstants.{MOST_SESSIONS}
use Rattle.gate_model.specs.Frame.{is_tracked_port}
use Rattle.gate_model.specs.Rules.{SessionRules}
use Rattle.gate_model.specs.World.{Tracked, World, called, source_of, destination_of, host_on}

-- ## The segment

-- the segment of a datagram, by its places
abbrev pub tcp_of : Datagram → Tcp
tcp_of d = let count = tcp_header_length_of d.payload in tcp_fields_of (take count d.payload) (drop count d.payload)

-- what a session sees of it
abbrev pub segment_of : Datagram → Segment
segment_of d = segment_in (tcp_of d)

-- a SYN without ACK
abbrev pub is_opening : ℕ → Bool
is_opening flags = (flags_of flags).syn && not (flags_of flags).ack

-- ## Its connection

-- the name of a connection of a host of the realm to one of the other, by the hosts' own addresses
abbrev pub key_of : Side → Addr → ℕ → Addr → ℕ → ConnKey
key_of Left own own_port far far_port = record { left = own; left_port = own_port; right = far; right_port = far_port }
key_of Right own own_port far far_port = record { left = far; left_port = far_port; right = own; right_port = own_port }

-- the name of a segment's connection
abbrev pub key_in : Bindings → Side → Datagram → ConnKey
key_in table side d = let tcp = tcp_of d in key_of side (source_of d) tcp.source_port (called table side (destination_of d)) tcp.destination_port

-- the connection of a segment, if one lives
abbrev pub found_in : {S : Type 0} → World S → Side → Datagram → Option (Connection (Tracked S))
found_in live side d = connection_of (key_in live.table side d) live.connections

-- ## Its session

-- the session of a connection
abbrev pub session_in : {S : Type 0} → Option (Connection (Tracked S)) → Option (Tracked S)
session_in found = option_and_then (λ c. c.session) found

-- the segment is the first of a connection that is tracked: a SYN without ACK to such a port
abbrev pub begins : {S : Type 0} → Option (Connection (Tracked S)) → Datagram → Bool
begins found d = is_none found && (is_opening (tcp_of d).flags && is_tracked_port (tcp_of d).destination_port)

-- the pair of its session, by a table in which both hosts are bound
abbrev pub pair_in : Bindings → Side → Datagram → Pair
pair_in table side d = record {
  client = source_of d;
  client_alias = called table side (source_of d);
  server = called table side (destination_of d);
  server_alias = destination_of d;
}

-- the session that it makes, itself not yet taken
abbrev pub made_by : {S : Type 0} → SessionRules S → Bindings → Side → Datagram → Tracked S
made_by rules table side d = let pair = pair_in table side d in
    record { client = side; pair = pair; session = rules.made (tcp_of d).destination_port pair (tcp_of d).sequence (tcp_of d).mss }

-- the session that takes the segment, if one does: its connection's, or the one that it makes
abbrev pub taker_by : {S : Type 0} → SessionRules S → Bindings → Side → Datagram → Option (Connection (Tracked S)) → Option (Tracked S)
taker_by {S = S} rules table side d None = if begins {S = S} None d then Some (made_by rules table side d) else None
taker_by rules table side d (Some c) = c.session

-- why the session refuses it
abbrev pub session_refusal : {S : Type 0} → SessionRules S → Side → Datagram → Option (Tracked S) → Option Refusal
session_refusal rules side d taker = option_and_then (λ t. rules.refusal (host_on side t) t.session (segment_of d)) taker

-- the session after it, by what new addresses are called
abbrev pub stepped : {S : Type 0} → SessionRules S → (Addr → Option Addr) → Side → Datagram → Tracked S → Tracked S
stepped rules image side d t = record t { session = rules.next image (host_on side t) t.session (segment_of d) }

-- whether the session ends with it
abbrev pub ends_by : {S : Type 0} → SessionRules S → Side → Datagram → Option (Tracked S) → Bool
ends_by rules side d None = false
ends_by rules side d (Some t) = rules.ends (host_on side t) t.session (segment_of d)

-- ## Refusals

-- one of both ports is one at which connections are tracked
abbrev pub has_tracked_port : Datagram → Bool
has_tracked_port d = is_tracked_port (tcp_of d).source_port || is_tracked_port (tcp_of d).destination_port

-- no connection lives, connections to one of both ports are tracked, and the segment isn't a SYN without ACK
abbrev pub lacks_session : {S : Type 0} → Option (Connection (Tracked S)) → Datagram → Bool
lacks_session found d = is_none found && (has_tracked_port d && not (is_opening (tcp_of d).flags))

-- the segment would make a connection or a session, and the most of them live
abbrev pub is_full : {S : Type 0} → List (Connection (Tracked S)) → Option (Connection (Tracked S)) → Datagram → Bool
is_full all found d =
    is_none found && (not (flags_of (tcp_of d).flags).reset && nat_le MOST_CONNECTIONS (length all))
    || (begins found d && nat_le MOST_SESSIONS (count_by is_tracked all))

-- ## After a segment that passes

-- how long its addresses are held: as its connection is, and a short time where none is left
abbrev pub stream_timeout : {S : Type 0} → SessionRules S → World S → Side → Datagram → ℕ
stream_timeout rules live side d =
    if ends_by rules side d (session_in (found_in live side d)) then SHORT_TIMEOUT else timeout_of live.connections (key_in live.table side d) side
    (tcp_of d).flags

-- what is left of its connection: nothing where its session ends
abbrev pub connection_after : {S : Type 0} → SessionRules S → (Addr → Option Addr) → World S → Side → ℕ → Datagram → Option (Tracked S)
    → Option (Connection (Tracked S))
connection_after rules image live side moment d taker =
    if ends_by rules side d taker then None
    else option_map (with_session (option_map (stepped rules image side d) taker))
    (after (key_in live.table side d) side (tcp_of d).flags taker (record { 0 = moment }) (found_in live side d))

-- how many changed lines or units wait in a session
abbrev pub pending_by : {S : Type 0} → SessionRules S → Option (Tracked S) → ℕ
pending_by rules None = 0
pending_by rules (Some t) = rules.pending t.session

-- an outgoing segment as a datagram: a header by the segment's, without selective acknowledgements and urgency, and the lifetime less 1
abbrev pub sent_as : Datagram → ℕ → ℕ → Outgoing → List ℕ
sent_as d source destination o =
    datagram_of d.header source destination (d.lifetime - 1)
    (spelled_segment (tcp_of d).header source destination o.sequence o.acknowledgement (flags_octet o.flags) o.octets)
