-- Segments that pass, and those for which memory runs out.
use Rattle.std.proofs.Common.{◌≡◌, ℕ, ◌+◌, max, Bool, true, false, ◌&&◌, List, [], ◌∷◌, Option, Some, None, option_map, refl, sym, ap, ◌∙◌, arith, if◌then◌else◌, unwrap_or}
use Rattle.std.specs.Option.{option_or}
use Rattle.gate_base.specs.declared.address.Addr.{Addr}
use Rattle.gate_base.specs.declared.event.Moment.{Moment}
use Rattle.gate_base.specs.declared.event.Pair.{Pair}
use Rattle.verdicts.specs.declared.refusal.Refusal.{Refusal}
use Rattle.gate_base.specs.declared.side.Side.{Side}
use Rattle.binding_table.specs.Prelude.{Bindings, cross, is_settled, after_uses}
use Rattle.ipv4_frames.specs.Ipv4.{Datagram}
use Rattle.tcp_segments.specs.Prelude.{Tcp, flags_of}
use Rattle.tcp_tracker.specs.Prelude.{connection_of, timeout_of, noted, without, changed, place_of, after, with_session, replaced}
use Rattle.tcp_tracker.specs.declared.connection.TheConstants.{SHORT_TIMEOUT}
use Rattle.tcp_tracker.specs.declared.connection.ConnKey.{ConnKey}
use Rattle.tcp_tracker.specs.declared.connection.Connection.{Connection}
use Rattle.twice_translate.specs.Renamed.{datagram_of, renamed}
use Rattle.verdicts.specs.Prelude.{first_that_holds, unless_refused}
use Rattle.gate_model.specs.Prelude.{Stream, is_tracked_port, taker_in, with_connection, tcp_of, key_in, found_in, session_in, begins, is_opening}
use Rattle.gate_model.specs.Prelude.{pair_in, made_by, session_refusal, stepped, ends_by, stream_timeout, connection_after}
use Rattle.gate_model.specs.Prelude.{pending_by, table_after, uses_until, Tracked, World, called, source_of, destination_of, SessionRules}
use Rattle.event_payloads.specs.Prelude.{IsWayOf, image_by, is_empty, header_uses}
use Rattle.event_payloads.specs.declared.addresses.Way.{Way}
use Rattle.event_payloads.proofs.Passes.{source_called, destination_called}
use Rattle.event_payloads.proofs.HeadersOnly.{of_source_is, of_destination_is, uses_are}
use Rattle.event_segments.specs.Prelude.{world_of, Tells, stream_refusal, room_tests, lacks_place, waiting_after, pair_on, made_on, image_of}
use Rattle.event_segments.specs.Passed.{IsSegmentTaken}
use Rattle.event_segments.proofs.NotedConnections.{noted_replaced, noted_untracked, noted_begun, without_replaced, session_left, session_begun, none_left}
use Rattle.event_segments.proofs.NoUnits.{table_is}
use Rattle.event_segments.proofs.SegmentTests.{IsJoined, joined_refusal, room_none, session_takes}

-- ## What both addresses are called

pub source_is : {S : Type 0} (live : World S) (side : Side) (d : Datagram) (way : Way) (until : ℕ) → IsWayOf live side d way
    → is_empty way.of_source ≡ false → image_by way.of_source way.source
    ≡ called (after_uses live.table (uses_until side until (source_of d ∷ destination_of d ∷ []))) side (source_of d)
source_is live side d way until w room =
    let s = of_source_is live side d way w in
    ap (λ c. image_by c way.source) s ∙ ap (image_by (cross live.table side (source_of d))) w.source_is
    ∙ sym (source_called live.table side (source_of d) (destination_of d) (record { 0 = until }) w.outside (ap is_empty (sym s) ∙ room))

pub destination_is : {S : Type 0} (live : World S) (side : Side) (d : Datagram) (way : Way) (until : ℕ) → IsWayOf live side d way
    → image_by way.of_destination way.destination ≡ called (after_uses live.table (uses_until side until (source_of d ∷ destination_of d ∷ []))) side
    (destination_of d)
destination_is live side d way until w =
    let t = of_destination_is live side d way w in
    ap (λ c. image_by c way.destination) t ∙ ap (image_by (cross live.table side (destination_of d))) w.destination_is
    ∙ sym (destination_called live.table side (source_of d) (destination_of d) (record { 0 = until }) (ap is_settled (sym t) ∙ w.settled))

-- ## A segment that passes

-- the bindings are those after all uses, and both addresses of the header go on as they are then called
pub record AreUsed {S : Type 0} (rules : SessionRules S) (live : World S) (side : Side) (d : Datagram) (way : Way) (table : Bindings) : Type 0 where
  pub bound : table ≡ table_after rules live side live.clock d Stream
  pub source : image_by way.of_source way.source ≡ called (table_after rules live side live.clock d Stream) side (source_of d)
  pub destination : image_by way.of_destination way.destination ≡ called (table_after rules live side live.clock d Stream) side (destination_of d)

pub passed_is : {S A : Type 0} (rules : SessionRules S) (tells : Tells S A) (live : World S) (side : Side) (d : Datagram) (way : Way)
    (taker : Option (Tracked S)) (table : Bindings) (connections : List (Connection (Tracked S))) (pending : ℕ) (sent : A) →
    AreUsed rules live side d way table → taker_in rules live side live.clock d ≡ taker → None ≡ stream_refusal rules live side d →
    connections ≡ changed live.connections (place_of (key_in live.table side d) live.connections)
    (connection_after rules (image_of rules live side d) live side live.clock d taker) →
    pending ≡ max live.pending (pending_by rules (session_in (connection_after rules (image_of rules live side d) live side live.clock d taker))) →
    sent ≡ tells.segment (image_of rules live side d) side d (image_by way.of_source way.source).0
    (image_by way.of_destination way.destination).0 taker →
    IsSegmentTaken rules tells live side d None (world_of live.clock table connections pending) sent
passed_is {S = S} rules tells live side d way taker table connections pending sent u t none two three four = record {
  answer = none;
  left =
      ap (λ (x : Bindings). world_of live.clock x connections pending) u.bound
      ∙ ap (λ (x : List (Connection (Tracked S))). world_of live.clock (table_after rules live side live.clock d Stream) x pending) two
      ∙ ap (world_of live.clock (table_after rules live side live.clock d Stream)
      (changed live.connections (place_of (key_in live.table side d) live.connections)
      (connection_after rules (image_of rules live side d) live side live.clock d taker))) three
      ∙ ap (λ (x : Option (Tracked S)). with_connection rules live side d (table_after rules live side live.clock d Stream)
      (connection_after rules (image_of rules live side d) live side live.clock d x)) (sym t);
  gone =
      four
      ∙ ap (λ (a : Addr). tells.segment (image_of rules live side d) side d a.0 (image_by way.of_destination way.destination).0 taker) u.source
      ∙ ap (λ (a : Addr). tells.segment (image_of rules live side d) side d
      (called (table_after rules live side live.clock d Stream) side (source_of d)).0 a.0 taker) u.destination
      ∙ ap (tells.segment (image_of rules live side d) side d (called (table_after rules live side live.clock d Stream) side (source_of d)).0
      (called (table_after rules live side live.clock d Stream) side (destination_of d)).0) (sym t);
}

-- where no session is, the header's uses are all
pub used_alone : {S : Type 0} (rules : SessionRules S) (live : World S) (side : Side) (d : Datagram) (way : Way) (timeout : ℕ) (table : Bindings)
    → IsWayOf live side d way → is_empty way.of_source ≡ false → session_in (found_in live side d) ≡ None → stream_timeout rules live side d ≡ timeout
    →
    table ≡ after_uses live.table (header_uses way timeout) → AreUsed rules live side d way table
used_alone rules live side d way timeout table w room alone h one =
    let until = live.clock + stream_timeout rules live side d in
    record {
      bound = one ∙ uses_are live side d way timeout w
          ∙ ap (λ (n : ℕ). after_uses live.table (uses_until side (live.clock + n) (source_of d ∷ destination_of d ∷ []))) (sym h)
          ∙ sym (table_is rules live side d alone);
      source = source_is live side d way until w room ∙ ap (λ (x : Bindings). called x side (source_of d)) (sym (table_is rules live side d alone));
      destination = destination_is live side d way until w
          ∙ ap (λ (x : Bindings). called x side (destination_of d)) (sym (table_is rules live side d alone));
    }

-- ## A segment that no session takes

nothing_waits : {S : Type 0} (rules : SessionRules S) (pending : ℕ) (session : Option (Tracked S)) → session ≡ None
    → pending ≡ max pending (pending_by rules session)
nothing_waits {S = S} rules pending session e = let none : pending ≡ max pending 0 = omega arith in none
    ∙ ap (λ (o : Option (Tracked S)). max pending (pending_by rules o)) (sym e)

-- the moment of the way is that of the world
abbrev pub now_of : {S : Type 0} → World S → Moment
now_of live = record { 0 = live.clock }

now_is : {S : Type 0} (live : World S) (side : Side) (d : Datagram) (way : Way) → IsWayOf live side d way → way.moment ≡ now_of live
now_is live side d way w = ap (λ (n : ℕ). let m : Moment = record { 0 = n } in m) w.moment_is

pub untracked_taken : {S A : Type 0} (rules : SessionRules S) (tells : Tells S A) (live : World S) (way : Way) (d : Datagram) (full : Bool)
    (refusal : Option Refusal) (table_new : Bindings) (connections_new : List (Connection (Tracked S))) (sent : A) →
    let key = key_in live.table way.side d in let flags = (tcp_of d).flags in
    IsWayOf live way.side d way → IsJoined rules live way.side d None full → session_in (found_in live way.side d) ≡ None →
    refusal ≡ first_that_holds (room_tests full (is_empty way.of_source)) →
    table_new ≡ unless_refused refusal (after_uses live.table (header_uses way (timeout_of live.connections key way.side flags))) live.table →
    connections_new ≡ unless_refused refusal (noted live.connections key way.side flags None way.moment) live.connections →
    sent ≡ tells.whole
    (unless_refused refusal (renamed d (image_by way.of_source way.source).0 (image_by way.of_destination way.destination).0 ∷ []) []) →
    IsSegmentTaken rules tells live way.side d refusal (world_of live.clock table_new connections_new live.pending) sent
untracked_taken {S = S} rules tells live way d full (Some r) table_new connections_new sent w j lone a b c g = record {
  answer = a ∙ joined_refusal rules live way.side d way None full w j;
  left = ap (λ (x : Bindings). world_of live.clock x connections_new live.pending) b
      ∙ ap (λ (x : List (Connection (Tracked S))). world_of live.clock live.table x live.pending) c;
  gone = g;
}
untracked_taken {S = S} rules tells live way d full None table_new connections_new sent w j lone a b c g =
    let key = key_in live.table way.side d in
    let flags = (tcp_of d).flags in
    let timeout = timeout_of live.connections key way.side flags in
    passed_is rules tells live way.side d way None table_new connections_new live.pending sent
    (used_alone rules live way.side d way timeout table_new w (room_none full (is_empty way.of_source) a).1 lone
    (ap (λ (s : Option (Tracked S)). if ends_by rules way.side d s then SHORT_TIMEOUT else timeout) lone) b)
    j.taker_is (a ∙ joined_refusal rules live way.side d way None full w j)
    (c ∙ ap (noted live.connections key way.side flags None) (now_is live way.side d way w)
    ∙ noted_untracked key live.connections way.side flags (now_of live) lone)
    (nothing_waits rules live.pending (session_in (connection_after rules (image_of rules live way.side d) live way.side live.clock d None))
    (none_left (after key way.side flags None (now_of live) (found_in live way.side d))))
    (g ∙ sym
    (tells.plain (image_of rules live way.side d) way.side d (image_by way.of_source way.source).0
    (image_by way.of_destination way.destination).0))

-- the same, by what was called
pub untracked_by : {S A : Type 0} (rules : SessionRules S) (tells : Tells S A) (live : World S) (way : Way) (d : Datagram) (key : ConnKey) (tcp : Tcp)
    (octets : List ℕ) (full : Bool) (refusal : Option Refusal) (table_new : Bindings) (connections_new : List (Connection (Tracked S))) (sent : A) →
    IsWayOf live way.side d way → key ≡ key_in live.table way.side d → tcp ≡ tcp_of d → datagram_of octets ≡ d
    → lacks_place live.connections (connection_of key live.connections) tcp.flags ≡ full → IsJoined rules live way.side d None full
    → session_in (found_in live way.side d) ≡ None →
    refusal ≡ first_that_holds (room_tests (lacks_place live.connections (connection_of key live.connections) tcp.flags) (is_empty way.of_source)) →
    table_new ≡ unless_refused refusal (after_uses live.table (header_uses way (timeout_of live.connections key way.side tcp.flags))) live.table →
    connections_new ≡ unless_refused refusal (noted live.connections key way.side tcp.flags None way.moment) live.connections →
    sent ≡ tells.whole
    (unless_refused refusal
    (renamed (datagram_of octets) (image_by way.of_source way.source).0 (image_by way.of_destination way.destination).0 ∷ []) []) →
    IsSegmentTaken rules tells live way.side d refusal (world_of live.clock table_new connections_new live.pending) sent
untracked_by {S = S} rules tells live way d key tcp octets full refusal table_new connections_new sent w k t o f j lone a b c g =
    untracked_taken rules tells live way d full refusal table_new connections_new sent w j lone
    (a ∙ ap (λ (x : Bool). first_that_holds (room_tests x (is_empty way.of_source))) f)
    (b ∙ ap (λ (x : ConnKey). T x tcp) k ∙ ap (T (key_in live.table way.side d)) t)
    (c ∙ ap (λ (x : ConnKey). C x tcp) k ∙ ap (C (key_in live.table way.side d)) t)
    (g ∙ ap (λ (x : Datagram). tells.whole
    (unless_refused refusal (renamed x (image_by way.of_source way.source).0 (image_by way.of_destination way.destination).0 ∷ []) [])) o)
  where
    T : ConnKey → Tcp → Bindings
    T x y = unless_refused refusal (after_uses live.table (header_uses way (timeout_of live.connections x way.side y.flags))) live.table

    C : ConnKey → Tcp → List (Connection (Tracked S))
    C x y = unless_refused refusal (noted live.connections x way.side y.flags None way.moment) live.connections

-- ## A segment that a session takes

goes_on : (ends : Bool) (waiting n : ℕ) → Some waiting ≡ (if ends then None else Some n) → (ends ≡ false) × (waiting ≡ n)
goes_on true waiting n e = absurd (cc)
goes_on false waiting n e = (refl, cc)

is_over : (ends : Bool) (n : ℕ) → None ≡ (if ends then None else Some n) → ends ≡ true
is_over true n e = refl
is_over false n e = absurd (cc)

-- the session passes it, and the source has an alias
pub passes : {S : Type 0} (rules : SessionRules S) (live : World S) (side : Side) (d : Datagram) (way : Way) (taker : Option (Tracked S))
    (full : Bool) → IsWayOf live side d way → IsJoined rules live side d taker full → session_refusal rules side d taker ≡ None → full ≡ false
    → is_empty way.of_source ≡ false → None ≡ stream_refusal rules live side d
passes rules live side d way taker full w j verdict few room =
    sym (
    ap (λ (r : Option Refusal). option_or r (first_that_holds (room_tests full (is_empty way.of_source)))) verdict
    ∙ ap (λ (b : Bool). first_that_holds (room_tests b (is_empty way.of_source))) few
    ∙ ap (λ (b : Bool). first_that_holds (room_tests false b)) room
    )
    ∙ joined_refusal rules live side d way taker full w j

pub session_goes_on : {S A : Type 0} (rules : SessionRules S) (tells : Tells S A) (live : World S) (way : Way) (d : Datagram) (t : Tracked S)
    (waiting : ℕ) (table_new : Bindings) (connections_new : List (Connection (Tracked S))) (sent : A) →
    let key = key_in live.table way.side d in let flags = (tcp_of d).flags in
    IsWayOf live way.side d way → session_in (found_in live way.side d) ≡ Some t → None ≡ stream_refusal rules live way.side d
    → Some waiting ≡ waiting_after rules (image_of rules live way.side d) way.side d t →
    (stream_timeout rules live way.side d ≡ timeout_of live.connections key way.side flags → AreUsed rules live way.side d way table_new) →
    connections_new ≡ noted
    (replaced live.connections key (stepped rules (image_of rules live way.side d) way.side d t)) key way.side flags None way.moment →
    sent ≡ tells.segment (image_of rules live way.side d) way.side d (image_by way.of_source way.source).0
    (image_by way.of_destination way.destination).0 (Some t) →
    IsSegmentTaken rules tells live way.side d None (world_of live.clock table_new connections_new (max live.pending waiting)) sent
session_goes_on {S = S} rules tells live way d t waiting table_new connections_new sent w e none h b c g =
    let key = key_in live.table way.side d in
    let flags = (tcp_of d).flags in
    let timeout = timeout_of live.connections key way.side flags in
    let s = stepped rules (image_of rules live way.side d) way.side d t in
    let on = goes_on (ends_by rules way.side d (Some t)) waiting (pending_by rules (Some s)) h in
    let left : Bool → Option (Connection (Tracked S)) =
    λ x. if x then None else option_map (with_session (Some s)) (after key way.side flags (Some t) (now_of live) (found_in live way.side d)) in
    passed_is rules tells live way.side d way (Some t) table_new connections_new (max live.pending waiting) sent
    (b (ap (λ (o : Option (Tracked S)). if ends_by rules way.side d o then SHORT_TIMEOUT else timeout) e
    ∙ ap (λ (x : Bool). if x then SHORT_TIMEOUT else timeout) on.0))
    (session_takes rules live way.side d t e) none
    (c ∙ ap (noted (replaced live.connections key s) key way.side flags None) (now_is live way.side d way w)
    ∙ noted_replaced key live.connections t s way.side flags (Some t) (now_of live) e
    ∙ sym (ap (λ (x : Bool). changed live.connections (place_of key live.connections) (left x)) on.0))
    (ap (max live.pending)
    (on.1 ∙ sym
    (ap (λ (x : Bool). pending_by rules (session_in (left x))) on.0
    ∙ ap (pending_by rules) (session_left key t s way.side flags (Some t) (now_of live) (found_in live way.side d) e))))
    g

pub session_is_over : {S A : Type 0} (rules : SessionRules S) (tells : Tells S A) (live : World S) (way : Way) (d : Datagram) (t : Tracked S)
    (table_new : Bindings) (connections_new : List (Connection (Tracked S))) (sent : A) →
    let key = key_in live.table way.side d in
    IsWayOf live way.side d way → session_in (found_in live way.side d) ≡ Some t → None ≡ stream_refusal rules live way.side d
    → None ≡ waiting_after rules (image_of rules live way.side d) way.side d t →
    (stream_timeout rules live way.side d ≡ SHORT_TIMEOUT → AreUsed rules live way.side d way table_new) →
    connections_new ≡ without (replaced live.connections key (stepped rules (image_of rules live way.side d) way.side d t)) key →
    sent ≡ tells.segment (image_of rules live way.side d) way.side d (image_by way.of_source way.source).0
    (image_by way.of_destination way.destination).0 (Some t) →
    IsSegmentTaken rules tells live way.side d None (world_of live.clock table_new connections_new live.pending) sent
session_is_over {S = S} rules tells live way d t table_new connections_new sent w e none h b c g =
    let key = key_in live.table way.side d in
    let flags = (tcp_of d).flags in
    let timeout = timeout_of live.connections key way.side flags in
    let s = stepped rules (image_of rules live way.side d) way.side d t in
    let over = is_over (ends_by rules way.side d (Some t)) (pending_by rules (Some s)) h in
    let left : Bool → Option (Connection (Tracked S)) =
    λ x. if x then None else option_map (with_session (Some s)) (after key way.side flags (Some t) (now_of live) (found_in live way.side d)) in
    passed_is rules tells live way.side d way (Some t) table_new connections_new live.pending sent
    (b (ap (λ (o : Option (Tracked S)). if ends_by rules way.side d o then SHORT_TIMEOUT else timeout) e
    ∙ ap (λ (x : Bool). if x then SHORT_TIMEOUT else timeout) over))
    (session_takes rules live way.side d t e) none
    (c ∙ without_replaced key live.connections t s e
    ∙ sym (ap (λ (x : Bool). changed live.connections (place_of key live.connections) (left x)) over))
    (nothing_waits rules live.pending (session_in (left (ends_by rules way.side d (Some t)))) (ap (λ (x : Bool). session_in (left x)) over))
    g

-- ## The first segment of a session

-- the pair by the bindings afterwards is that of the way
pub pair_is : {S : Type 0} (live : World S) (side : Side) (d : Datagram) (way : Way) (until : ℕ) → IsWayOf live side d way
    → is_empty way.of_source ≡ false
    → pair_in (after_uses live.table (uses_until side until (source_of d ∷ destination_of d ∷ []))) side d ≡ pair_on way
pair_is live side d way until w room =
    let P : Addr → Addr → Addr → Addr → Pair = λ a b x y. record { client = a; client_alias = b; server = x; server_alias = y } in
    let s = source_is live side d way until w room in
    let t = destination_is live side d way until w in
    ap (λ (a : Addr). P a (called (after_uses live.table (uses_until side until (source_of d ∷ destination_of d ∷ []))) side (source_of d))
    (called (after_uses live.table (uses_until side until (source_of d ∷ destination_of d ∷ []))) side (destination_of d)) (destination_of d))
    (sym w.source_is)
    ∙ ap (λ (a : Addr). P way.source a
    (called (after_uses live.table (uses_until side until (source_of d ∷ destination_of d ∷ []))) side (destination_of d)) (destination_of d)) (sym s)
    ∙ ap (λ (a : Addr). P way.source (image_by way.of_source way.source) a (destination_of d)) (sym t)
    ∙ ap (P way.source (image_by way.of_source way.source) (image_by way.of_destination way.destination)) (sym w.destination_is)

made_is : {S : Type 0} (rules : SessionRules S) (live : World S) (d : Datagram) (way : Way) → IsWayOf live way.side d way
    → is_empty way.of_source ≡ false → session_in (found_in live way.side d) ≡ None
    → made_by rules (table_after rules live way.side live.clock d Stream) way.side d ≡ made_on rules way (tcp_of d)
made_is {S = S} rules live d way w room alone =
    ap (λ (x : Bindings). made_by rules x way.side d) (table_is rules live way.side d alone)
    ∙ ap (λ (p : Pair). let t : Tracked S =
    record { client = way.side; pair = p; session = rules.made (tcp_of d).destination_port p (tcp_of d).sequence (tcp_of d).mss } in t)
    (pair_is live way.side d way (live.clock + stream_timeout rules live way.side d) w room)

pub session_begins : {S A : Type 0} (rules : SessionRules S) (tells : Tells S A) (live : World S) (way : Way) (d : Datagram) (waiting : Option ℕ)
    (full : Bool) (table_new : Bindings) (connections_new : List (Connection (Tracked S))) (sent : A) →
    let key = key_in live.table way.side d in let flags = (tcp_of d).flags in let t = made_on rules way (tcp_of d) in
    IsWayOf live way.side d way → found_in live way.side d ≡ None
    → IsJoined rules live way.side d (Some (made_by rules (table_after rules live way.side live.clock d Stream) way.side d)) full → full ≡ false →
    session_refusal rules way.side d (Some (made_by rules (table_after rules live way.side live.clock d Stream) way.side d)) ≡ None
    → (flags_of flags).reset ≡ false → ends_by rules way.side d (Some t) ≡ false → is_empty way.of_source ≡ false
    → waiting ≡ waiting_after rules (image_of rules live way.side d) way.side d t →
    table_new ≡ after_uses live.table (header_uses way (timeout_of live.connections key way.side flags)) →
    connections_new ≡ noted live.connections key way.side flags (Some (stepped rules (image_of rules live way.side d) way.side d t)) way.moment →
    sent ≡ tells.segment (image_of rules live way.side d) way.side d (image_by way.of_source way.source).0
    (image_by way.of_destination way.destination).0 (Some t) →
    IsSegmentTaken rules tells live way.side d None (world_of live.clock table_new connections_new (max live.pending (unwrap_or waiting 0))) sent
session_begins {S = S} rules tells live way d waiting full table_new connections_new sent w none j few verdict plain on room h b c g =
    let key = key_in live.table way.side d in
    let flags = (tcp_of d).flags in
    let timeout = timeout_of live.connections key way.side flags in
    let t = made_on rules way (tcp_of d) in
    let s = stepped rules (image_of rules live way.side d) way.side d t in
    let left : Bool → Option (Connection (Tracked S)) =
    λ x. if x then None else option_map (with_session (Some s)) (after key way.side flags (Some t) (now_of live) (found_in live way.side d)) in
    passed_is rules tells live way.side d way (Some t) table_new connections_new (max live.pending (unwrap_or waiting 0)) sent
    (used_alone rules live way.side d way timeout table_new w room j.alone
    (ap (λ (o : Option (Connection (Tracked S))). if ends_by rules way.side d (session_in o) then SHORT_TIMEOUT else timeout) none) b)
    (j.taker_is ∙ ap Some (made_is rules live d way w room j.alone))
    (passes rules live way.side d way
    (Some (made_by rules (table_after rules live way.side live.clock d Stream) way.side d)) full w j verdict few room)
    (c ∙ ap (noted live.connections key way.side flags (Some s)) (now_is live way.side d way w)
    ∙ noted_begun key live.connections t s way.side flags (now_of live) none plain
    ∙ sym (ap (λ (x : Bool). changed live.connections (place_of key live.connections) (left x)) on))
    (ap (λ (o : Option ℕ). max live.pending (unwrap_or o 0)) (h ∙ ap (λ (x : Bool). if x then None else Some (pending_by rules (Some s))) on)
    ∙ ap (max live.pending)
    (sym (ap (λ (x : Bool). pending_by rules (session_in (left x))) on
    ∙ ap (pending_by rules) (session_begun key t s way.side flags (now_of live) (found_in live way.side d) none plain))))
    g

pub begun : {S : Type 0} (live : World S) (side : Side) (d : Datagram) → found_in live side d ≡ None
    → (is_opening (tcp_of d).flags && is_tracked_port (tcp_of d).destination_port) ≡ true → begins (found_in live side d) d ≡ true
begun {S = S} live side d none first = ap (λ (o : Option (Connection (Tracked S))). begins o d) none ∙ first

-- ## The session of a connection
