-- The tests of a segment in their order, and the session that takes it.
use Rattle.std.proofs.Common.{◌≡◌, ℕ, Bool, true, false, not, ◌&&◌, ◌||◌, nat_le, ◌<◌, arith, List, [], ◌∷◌, ◌++◌, length, count_by, Option, Some, None, is_some, refl, sym, ap, ◌∙◌, if◌then◌else◌}
use Rattle.std.specs.Option.{option_or}
use Rattle.std.proofs.lemmas.Bool.{and_parts, and_right}
use Rattle.std.proofs.lemmas.List.Elements.{All-nil}
use Rattle.dialogue.specs.Prelude.{Meaning, AreImages}
use Rattle.dialogue.specs.declared.learns.UnitImage.{UnitImage}
use Rattle.dns_stream.specs.Prelude.{dns_units}
use Rattle.verdicts.specs.declared.refusal.Refusal.{Refusal}
use Rattle.verdicts.specs.declared.refusal.Refusal.TheVariants.{NoSession, BadUnit, UnitUnbound, RenamesFull, SessionsFull, PoolEmpty, UnitGrows}
use Rattle.gate_base.specs.declared.side.Side.{Side}
use Rattle.binding_table.specs.Prelude.{Bindings}
use Rattle.ipv4_frames.specs.Ipv4.{Datagram}
use Rattle.tcp_segments.specs.Prelude.{Tcp, flags_of}
use Rattle.tcp_tracker.specs.Prelude.{connection_of, is_tracked}
use Rattle.tcp_tracker.specs.declared.connection.ConnKey.{ConnKey}
use Rattle.tcp_tracker.specs.declared.connection.Connection.{Connection}
use Rattle.tcp_tracker.specs.declared.tracker.TheConstants.{MOST_CONNECTIONS}
use Rattle.tcp_tracker.specs.declared.table.TheConstants.{MOST_SESSIONS}
use Rattle.verdicts.specs.Prelude.{first_that_holds}
use Rattle.gate_model.specs.Prelude.{HasLists, Stream, is_tracked_port, taker_in, tcp_of, segment_of, key_in, found_in, session_in, is_opening}
use Rattle.gate_model.specs.Prelude.{lacks_session, is_full, made_by, taker_by, session_refusal, unit_tests, growth_tests, refusal_tests}
use Rattle.gate_model.specs.Prelude.{is_pool_empty, late_tests, table_after, image_in, Tracked, World, host_on, addresses_in, SessionRules}
use Rattle.event_payloads.specs.Prelude.{IsWayOf, is_empty}
use Rattle.event_payloads.specs.declared.addresses.Way.{Way}
use Rattle.event_payloads.proofs.HeadersOnly.{empty_is}
use Rattle.gate_base.specs.declared.address.Addr.{Addr}
use Rattle.dns_plans.specs.Prelude.{beside, entered_all}
use Rattle.event_segments.specs.Prelude.{stream_refusal, room_tests, lacks_place, AreCalled, Enters, made_on, pair_on}
use Rattle.event_segments.proofs.NoUnits.{NamesNothing, none_names, made_names, syn_held, tests_none, growth_none, pool_is}

-- the first test that holds, where no unit is completed
order : (r : Option Refusal) (full empty : Bool)
    → first_that_holds
    (((false, NoSession) ∷ refusal_tests r ++ (((false, BadUnit) ∷ (false, UnitUnbound) ∷ (false, RenamesFull) ∷ []) ++ (full, SessionsFull) ∷ []))
    ++ (empty, PoolEmpty) ∷ (false, UnitGrows) ∷ [])
    ≡ option_or r (first_that_holds (room_tests full empty))
order None full empty = refl
order (Some s) full empty = refl

lacks_first : (lacks : Bool) (rest more : List (Bool × Refusal)) → lacks ≡ true
    → first_that_holds (((lacks, NoSession) ∷ rest) ++ more) ≡ Some NoSession
lacks_first lacks rest more e = rw e refl

-- the tests behind that of a session's want, and behind those of the kind
abbrev later_tests : {S : Type 0} (rules : SessionRules S) → World S → Side → Datagram → List (Bool × Refusal)
later_tests rules live side d =
    let taker = taker_in rules live side live.clock d in
    refusal_tests (session_refusal rules side d taker)
    ++ (unit_tests rules (image_in rules live side live.clock d) live.table side d taker
    ++ (is_full live.connections (found_in live side d) d, SessionsFull) ∷ [])

abbrev last_tests : {S : Type 0} (rules : SessionRules S) → World S → Side → Datagram → List (Bool × Refusal)
last_tests rules live side d = (is_pool_empty rules live side d Stream, PoolEmpty) ∷ late_tests rules live side live.clock d Stream

pub refused_beginning : {S : Type 0} (rules : SessionRules S) (live : World S) (side : Side) (d : Datagram)
    → lacks_session (found_in live side d) d ≡ true → Some NoSession ≡ stream_refusal rules live side d
refused_beginning rules live side d e =
    sym (lacks_first (lacks_session (found_in live side d) d) (later_tests rules live side d) (last_tests rules live side d) e)

-- a segment of a connection without a session, that isn't refused before the session sees it that it may make
pub record IsJoined {S : Type 0} (rules : SessionRules S) (live : World S) (side : Side) (d : Datagram) (taker : Option (Tracked S))
    (full : Bool) : Type 0 where
  pub begins : lacks_session (found_in live side d) d ≡ false
  pub taker_is : taker_in rules live side live.clock d ≡ taker
  pub full_is : is_full live.connections (found_in live side d) d ≡ full
  pub alone : session_in (found_in live side d) ≡ None
  pub names : NamesNothing rules side d taker

-- its tests, one by one
abbrev pub tests_by : {S : Type 0} (rules : SessionRules S) (side : Side) (d : Datagram) (taker : Option (Tracked S)) (lacks : Bool)
    (units : List (Bool × Refusal)) (full empty : Bool) (late : List (Bool × Refusal)) → Option Refusal
tests_by rules side d taker lacks units full empty late =
    first_that_holds
    (((lacks, NoSession) ∷ refusal_tests (session_refusal rules side d taker) ++ (units ++ (full, SessionsFull) ∷ []))
    ++ (empty, PoolEmpty) ∷ late)

tests_are : {S : Type 0} (rules : SessionRules S) (side : Side) (d : Datagram) (taker : Option (Tracked S)) (lacks : Bool)
    (units : List (Bool × Refusal)) (full full_is empty empty_is : Bool) (late : List (Bool × Refusal)) → lacks ≡ false
    → units ≡ (false, BadUnit) ∷ (false, UnitUnbound) ∷ (false, RenamesFull) ∷ [] → full ≡ full_is → empty ≡ empty_is → late ≡ (false, UnitGrows) ∷ []
    → tests_by rules side d taker lacks units full empty late ≡ option_or (session_refusal rules side d taker)
    (first_that_holds (room_tests full_is empty_is))
tests_are rules side d taker lacks units full full_is empty empty_is late b c e f g =
    rw (b, c, e, f, g) (order (session_refusal rules side d taker) full_is empty_is)

pub joined_refusal : {S : Type 0} (rules : SessionRules S) (live : World S) (side : Side) (d : Datagram) (way : Way) (taker : Option (Tracked S))
    (full : Bool) → IsWayOf live side d way → IsJoined rules live side d taker full →
    option_or (session_refusal rules side d taker) (first_that_holds (room_tests full (is_empty way.of_source))) ≡ stream_refusal rules live side d
joined_refusal {S = S} rules live side d way taker full w j =
    let image = image_in rules live side live.clock d in
    let found = found_in live side d in
    sym (
    ap (λ (t : Option (Tracked S)). tests_by rules side d t (lacks_session found d) (unit_tests rules image live.table side d t)
    (is_full live.connections found d) (is_pool_empty rules live side d Stream) (growth_tests rules image side d t)) j.taker_is
    ∙ tests_are rules side d taker (lacks_session found d) (unit_tests rules image live.table side d taker) (is_full live.connections found d) full
    (is_pool_empty rules live side d Stream) (is_empty way.of_source) (growth_tests rules image side d taker)
    j.begins (tests_none rules image live.table side d taker j.names) j.full_is
    (pool_is rules live side d j.alone ∙ sym (empty_is rules live side d way w)) (growth_none rules image side d taker j.names)
    )

-- ## A connection that lives

-- it isn't refused for want of a session, nor for want of room
pub lacks_none : {S : Type 0} (found : Option (Connection (Tracked S))) (d : Datagram) → is_some found ≡ true → lacks_session found d ≡ false
lacks_none None d e = absurd (cc)
lacks_none (Some c) d e = refl

pub full_none : {S : Type 0} (all : List (Connection (Tracked S))) (found : Option (Connection (Tracked S))) (d : Datagram) → is_some found ≡ true
    → is_full all found d ≡ false
full_none all None d e = absurd (cc)
full_none all (Some c) d e = refl

pub taker_found : {S : Type 0} (rules : SessionRules S) (table : Bindings) (side : Side) (d : Datagram) (found : Option (Connection (Tracked S)))
    → is_some found ≡ true → taker_by rules table side d found ≡ session_in found
taker_found rules table side d None e = absurd (cc)
taker_found rules table side d (Some c) e = refl

pub some_session : {S : Type 0} (found : Option (Connection (Tracked S))) (t : Tracked S) → session_in found ≡ Some t → is_some found ≡ true
some_session None t e = absurd (cc)
some_session (Some c) t e = refl

-- where its connection lives, the session in it takes a segment
pub session_takes : {S : Type 0} (rules : SessionRules S) (live : World S) (side : Side) (d : Datagram) (t : Tracked S)
    → session_in (found_in live side d) ≡ Some t → taker_in rules live side live.clock d ≡ Some t
session_takes rules live side d t e =
    taker_found rules (table_after rules live side live.clock d Stream) side d (found_in live side d) (some_session (found_in live side d) t e) ∙ e

-- no session takes the segment, where it has none
pub found_joined : {S : Type 0} (rules : SessionRules S) (live : World S) (side : Side) (d : Datagram) → is_some (found_in live side d) ≡ true
    → session_in (found_in live side d) ≡ None → IsJoined rules live side d None false
found_joined rules live side d e f = record {
  begins = lacks_none (found_in live side d) d e;
  taker_is = taker_found rules (table_after rules live side live.clock d Stream) side d (found_in live side d) e ∙ f;
  full_is = full_none live.connections (found_in live side d) d e;
  alone = f;
  names = none_names rules side d;
}

-- ## A connection that doesn't live

none_alone : {S : Type 0} (found : Option (Connection (Tracked S))) → found ≡ None → session_in found ≡ None
none_alone found e = ap session_in e

-- no session takes the segment
pub new_joined : {S : Type 0} (rules : SessionRules S) (live : World S) (side : Side) (d : Datagram) → found_in live side d ≡ None →
    (is_tracked_port (tcp_of d).source_port || is_tracked_port (tcp_of d).destination_port) && not (is_opening (tcp_of d).flags) ≡ false
    → is_opening (tcp_of d).flags && is_tracked_port (tcp_of d).destination_port ≡ false →
    IsJoined rules live side d None (lacks_place live.connections None (tcp_of d).flags)
new_joined {S = S} rules live side d none lacks other = record {
  begins = ap (λ (o : Option (Connection (Tracked S))). lacks_session o d) none ∙ lacks;
  taker_is = ap (λ (o : Option (Connection (Tracked S))). taker_by rules (table_after rules live side live.clock d Stream) side d o) none
      ∙ ap (λ (b : Bool). if b then Some (made_by rules (table_after rules live side live.clock d Stream) side d) else None) other;
  full_is = ap (λ (o : Option (Connection (Tracked S))). is_full live.connections o d) none ∙ by_test _ _ other;
  alone = none_alone (found_in live side d) none;
  names = none_names rules side d;
}
  where
    by_test : (a b : Bool) → b ≡ false → (a || (b && nat_le MOST_SESSIONS (count_by is_tracked live.connections))) ≡ a
    by_test true true e = refl
    by_test true false e = refl
    by_test false true e = absurd (cc)
    by_test false false e = refl

-- the session that it makes takes the segment
pub begun_joined : {S : Type 0} (rules : SessionRules S) (lists : HasLists rules) (live : World S) (side : Side) (d : Datagram)
    → found_in live side d ≡ None → (is_opening (tcp_of d).flags && is_tracked_port (tcp_of d).destination_port) ≡ true →
    IsJoined rules live side d (Some (made_by rules (table_after rules live side live.clock d Stream) side d))
    (not (flags_of (tcp_of d).flags).reset && nat_le MOST_CONNECTIONS (length live.connections) || nat_le MOST_SESSIONS
    (count_by is_tracked live.connections))
begun_joined {S = S} rules lists live side d none begun = record {
  begins = ap (λ (o : Option (Connection (Tracked S))). lacks_session o d) none
      ∙ ap (λ (b : Bool). (is_tracked_port (tcp_of d).source_port || is_tracked_port (tcp_of d).destination_port) && not b)
      (and_parts (is_opening (tcp_of d).flags) (is_tracked_port (tcp_of d).destination_port) begun).0 ∙ and_right _ false refl;
  taker_is = ap (λ (o : Option (Connection (Tracked S))). taker_by rules (table_after rules live side live.clock d Stream) side d o) none
      ∙ ap (λ (b : Bool). if b then Some (made_by rules (table_after rules live side live.clock d Stream) side d) else None) begun;
  full_is = ap (λ (o : Option (Connection (Tracked S))). is_full live.connections o d) none
      ∙ ap (λ (b : Bool). not (flags_of (tcp_of d).flags).reset && nat_le MOST_CONNECTIONS (length live.connections) ||
      (b && nat_le MOST_SESSIONS (count_by is_tracked live.connections))) begun;
  alone = none_alone (found_in live side d) none;
  names = made_names rules lists (table_after rules live side live.clock d Stream) side d begun;
}

-- nothing is entered into it
made_held : (tcp : Tcp) (d : Datagram) → tcp ≡ tcp_of d → is_opening tcp.flags ≡ true → (flags_of (tcp_of d).flags).syn ≡ true
made_held tcp d is opens =
    syn_held (flags_of (tcp_of d).flags).syn (flags_of (tcp_of d).flags).ack (ap (λ (x : Tcp). is_opening x.flags) (sym is) ∙ opens)

pub made_called : {S : Type 0} (rules : SessionRules S) (lists : HasLists rules) (way : Way) (tcp : Tcp) (d : Datagram) (image : Addr → Option Addr)
    → tcp ≡ tcp_of d → is_opening tcp.flags ≡ true → AreCalled rules image way.side d (made_on rules way tcp) []
made_called rules lists way tcp d image is opens =
    let t = made_on rules way tcp in
    sym (ap (λ (us : List (List ℕ)). beside image (addresses_in us))
    (lists.syn (host_on way.side t) t.session (segment_of d) (made_held tcp d is opens)))

-- no image is wrong of none
pub no_images : (m : Meaning) → AreImages m []
no_images m = All-nil (λ (one : UnitImage). one.image.items ≡ m.image one.unit.items)

pub made_enters : {S : Type 0} (rules : SessionRules S) (lists : HasLists rules) (way : Way) (tcp : Tcp) (d : Datagram) (image : Addr → Option Addr)
    → tcp ≡ tcp_of d → is_opening tcp.flags ≡ true → session_refusal rules way.side d (Some (made_on rules way tcp)) ≡ None
    → Enters rules way.side d (made_on rules way tcp) [] []
made_enters rules lists way tcp d image is opens verdict =
    let t = made_on rules way tcp in
    let none : rules.listed (host_on way.side t) t.session ≡ [] =
    lists.made tcp.destination_port (pair_on way) tcp.sequence tcp.mss (host_on way.side t) in
    record {
      passes = verdict;
      few = omega (arith, ap length none);
      image = image;
      called = made_called rules lists way tcp d image is opens;
      right = no_images (dns_units (entered_all (rules.listed (host_on way.side t) t.session) []));
    }

-- a first segment of a connection that doesn't live: the session that it makes takes it, with this verdict
pub record IsFirst {S : Type 0} (rules : SessionRules S) (live : World S) (side : Side) (d : Datagram) (verdict : Option Refusal) : Type 0 where
  pub none : found_in live side d ≡ None
  pub joined : IsJoined rules live side d (Some (made_by rules (table_after rules live side live.clock d Stream) side d))
      (not (flags_of (tcp_of d).flags).reset && nat_le MOST_CONNECTIONS (length live.connections) || nat_le MOST_SESSIONS
      (count_by is_tracked live.connections))
  pub told : session_refusal rules side d (Some (made_by rules (table_after rules live side live.clock d Stream) side d)) ≡ verdict
  pub plain : verdict ≡ None → (flags_of (tcp_of d).flags).reset ≡ false
  pub full : verdict ≡ None
      → (not (flags_of (tcp_of d).flags).reset && nat_le MOST_CONNECTIONS (length live.connections) || nat_le MOST_SESSIONS
      (count_by is_tracked live.connections))
      ≡ (nat_le MOST_CONNECTIONS (length live.connections) || nat_le MOST_SESSIONS (count_by is_tracked live.connections))

pub first_is : {S : Type 0} (rules : SessionRules S) (lists : HasLists rules) (live : World S) (side : Side) (d : Datagram) (key : ConnKey)
    (tcp : Tcp) (verdict : Option Refusal) → key ≡ key_in live.table side d → connection_of key live.connections ≡ None → tcp ≡ tcp_of d →
    (is_opening tcp.flags && is_tracked_port tcp.destination_port) ≡ true
    → session_refusal rules side d (Some (made_by rules (table_after rules live side live.clock d Stream) side d)) ≡ verdict
    → (verdict ≡ None → (flags_of (tcp_of d).flags).reset ≡ false) → IsFirst rules live side d verdict
first_is rules lists live side d key tcp verdict named absent is first told plain =
    let none = ap (λ (k : ConnKey). connection_of k live.connections) (sym named) ∙ absent in
    record {
      none = none;
      joined =
          begun_joined rules lists live side d none (ap (λ (t : Tcp). is_opening t.flags && is_tracked_port t.destination_port) (sym is) ∙ first);
      told = told;
      plain = plain;
      full = λ n.
          ap (λ (b : Bool). not b && nat_le MOST_CONNECTIONS (length live.connections) || nat_le MOST_SESSIONS (count_by is_tracked live.connections))
          (plain n);
    }

-- ## What is refused

pub joined_refused : {S : Type 0} (rules : SessionRules S) (live : World S) (side : Side) (d : Datagram) (way : Way) (taker : Option (Tracked S))
    (full : Bool) (r : Refusal) → IsWayOf live side d way → IsJoined rules live side d taker full → session_refusal rules side d taker ≡ Some r
    → Some r ≡ stream_refusal rules live side d
joined_refused rules live side d way taker full r w j e =
    sym (ap (λ (o : Option Refusal). option_or o (first_that_holds (room_tests full (is_empty way.of_source)))) e)
    ∙ joined_refusal rules live side d way taker full w j

pub full_refused : {S : Type 0} (rules : SessionRules S) (live : World S) (side : Side) (d : Datagram) (way : Way) (taker : Option (Tracked S))
    (full : Bool) → IsWayOf live side d way → IsJoined rules live side d taker full → session_refusal rules side d taker ≡ None → full ≡ true
    → Some SessionsFull ≡ stream_refusal rules live side d
full_refused rules live side d way taker full w j e f =
    sym (ap (λ (o : Option Refusal). option_or o (first_that_holds (room_tests full (is_empty way.of_source)))) e
    ∙ ap (λ (b : Bool). first_that_holds (room_tests b (is_empty way.of_source))) f) ∙ joined_refusal rules live side d way taker full w j

pub empty_refused : {S : Type 0} (rules : SessionRules S) (live : World S) (side : Side) (d : Datagram) (way : Way) (taker : Option (Tracked S))
    (full : Bool) → IsWayOf live side d way → IsJoined rules live side d taker full → session_refusal rules side d taker ≡ None → full ≡ false
    → is_empty way.of_source ≡ true → Some PoolEmpty ≡ stream_refusal rules live side d
empty_refused rules live side d way taker full w j e f g =
    sym (
    ap (λ (o : Option Refusal). option_or o (first_that_holds (room_tests full (is_empty way.of_source)))) e
    ∙ ap (λ (b : Bool). first_that_holds (room_tests b (is_empty way.of_source))) f
    ∙ ap (λ (b : Bool). first_that_holds (room_tests false b)) g
    )
    ∙ joined_refusal rules live side d way taker full w j

-- a connection that lives has its place
pub place_found : {S : Type 0} (all : List (Connection (Tracked S))) (found : Option (Connection (Tracked S))) (flags : ℕ) → is_some found ≡ true
    → lacks_place all found flags ≡ false
place_found all None flags e = absurd (cc)
place_found all (Some c) flags e = refl

-- ## Where none of the last tests holds

pub room_none : (full empty : Bool) → None ≡ first_that_holds (room_tests full empty) → (full ≡ false) × (empty ≡ false)
room_none true empty e = absurd (cc)
room_none false true e = absurd (cc)
room_none false false e = (refl, refl)

pub few_sessions : (full : Bool) (count : ℕ) → (full || nat_le 4096 count) ≡ false → count < 4096
few_sessions true count e = absurd (cc)
few_sessions false count e = grind arith
