-- What an event makes of the world, and what goes out.
use Rattle.std.specs.Prelude.{ℕ, max, List, [], ◌∷◌, map, Option, Some, None}
use Rattle.gate_base.specs.Prelude.{Event}
use Rattle.gate_base.specs.declared.address.Addr.{Addr}
use Rattle.verdicts.specs.declared.verdict.Verdict.{Verdict}
use Rattle.verdicts.specs.declared.verdict.Verdict.TheVariants.{Pass}
use Rattle.gate_base.specs.declared.side.Side.{Side}
use Rattle.binding_table.specs.Prelude.{Bindings}
use Rattle.ipv4_frames.specs.Ipv4.{Datagram}
use Rattle.tcp_tracker.specs.Prelude.{place_of, changed}
use Rattle.tcp_tracker.specs.declared.connection.Connection.{Connection}
use Rattle.twice_translate.specs.Renamed.{renamed, with_payload}
use Rattle.gate_model.specs.Frame.{Error, Dns, Snmp, Kind, Whole, Stream, datagram_in, kind_of}
use Rattle.gate_model.specs.Inner.{inside, inner_after, with_inside}
use Rattle.gate_model.specs.Management.{management_after}
use Rattle.gate_model.specs.Names.{names_after}
use Rattle.gate_model.specs.Rules.{SessionRules}
use Rattle.gate_model.specs.Stream.{segment_of, found_in, key_in, session_in, taker_by, connection_after, pending_by, sent_as}
use Rattle.gate_model.specs.Verdict.{table_after, image_in, verdict}
use Rattle.gate_model.specs.World.{World, Tracked, at_moment, called, source_of, destination_of, host_on}

-- ## What is known afterwards

-- the session that takes a segment, by the bindings after it
abbrev pub taker_in : {S : Type 0} → SessionRules S → World S → Side → ℕ → Datagram → Option (Tracked S)
taker_in rules live side moment d = taker_by rules (table_after rules live side moment d Stream) side d (found_in live side d)

-- its connection is another one afterwards
abbrev pub with_connection : {S : Type 0} → SessionRules S → World S → Side → Datagram → Bindings → Option (Connection (Tracked S)) → World S
with_connection rules live side d table c =
    let all = changed live.connections (place_of (key_in live.table side d) live.connections) c in
    record live { table = table; connections = all; pending = max live.pending (pending_by rules (session_in c)) }

-- what a datagram of a kind that passes leaves of what lives
abbrev pub after_kind : {S : Type 0} → SessionRules S → World S → Side → ℕ → Datagram → Kind → World S
after_kind rules live side moment d Stream =
    with_connection rules live side d (table_after rules live side moment d Stream)
    (connection_after rules (image_in rules live side moment d) live side moment d (taker_in rules live side moment d))
after_kind rules live side moment d (Whole payload) = record live { table = table_after rules live side moment d (Whole payload) }

-- by the verdict: a frame that is refused moves the clock, by which bindings and connections may end, and changes nothing else
abbrev pub next_by : {S : Type 0} → SessionRules S → World S → Event → Verdict → World S
next_by rules live e Pass = let d = datagram_in e in after_kind rules live e.side e.moment d (kind_of d)
next_by rules live e _ = live

-- what is known after an event
abbrev pub next : {S : Type 0} → SessionRules S → World S → Event → World S
next rules w e = next_by rules (at_moment w e.moment) e (verdict rules w e)

-- ## What goes out

-- a segment of a session goes as the session says, and any other one as it came
abbrev pub stream_out : {S : Type 0} → SessionRules S → (Addr → Option Addr) → Side → Datagram → ℕ → ℕ → Option (Tracked S) → List (List ℕ)
stream_out rules image side d source destination None = renamed d source destination ∷ []
stream_out rules image side d source destination (Some t) =
    map (sent_as d source destination) (rules.out image (host_on side t) t.session (segment_of d))

-- a datagram with the addresses in its payload renamed, by its kind; table is that of afterwards
abbrev pub translated : {S : Type 0} → SessionRules S → World S → Bindings → Side → Datagram → Kind → Datagram
translated rules live table side d (Whole Error) = with_inside d (inner_after rules live side (inside d))
translated rules live table side d (Whole Dns) = with_payload d (names_after live.table table side d)
translated rules live table side d (Whole Snmp) = with_payload d (management_after table side d)
translated rules live table side d _ = d

-- the datagrams that go out for one of a kind that passes, between these addresses
abbrev pub out_between : {S : Type 0} → SessionRules S → World S → Bindings → Side → ℕ → Datagram → ℕ → ℕ → Kind → List (List ℕ)
out_between rules live table side moment d source destination (Whole payload) =
    renamed (translated rules live table side d (Whole payload)) source destination ∷ []
out_between rules live table side moment d source destination Stream =
    stream_out rules (image_in rules live side moment d) side d source destination (taker_in rules live side moment d)

-- between the addresses as they are called afterwards
abbrev pub out_kind : {S : Type 0} → SessionRules S → World S → Side → ℕ → Datagram → Kind → List (List ℕ)
out_kind rules live side moment d kind =
    let table = table_after rules live side moment d kind in
    out_between rules live table side moment d (called table side (source_of d)).0 (called table side (destination_of d)).0 kind

-- by the verdict
abbrev pub out_by : {S : Type 0} → SessionRules S → World S → Event → Verdict → List (List ℕ)
out_by rules live e Pass = let d = datagram_in e in out_kind rules live e.side e.moment d (kind_of d)
out_by rules live e _ = []

-- the datagrams that go out at an event, in their order
abbrev pub out : {S : Type 0} → SessionRules S → World S → Event → List (List ℕ)
out rules w e = out_by rules (at_moment w e.moment) e (verdict rules w e)
