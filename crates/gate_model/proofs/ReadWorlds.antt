-- Worlds whose sessions are read as others answer alike.
use Rattle.std.proofs.Common.{◌≡◌, ℕ, Bool, true, false, ◌==◌, if◌then◌else◌, List, [], ◌∷◌, ◌++◌, map, Option, Some, None, option_map, refl, sym, ◌∙◌, ap, nat_lt, ◌+◌}
use Rattle.std.proofs.lemmas.List.{length-map}
use Rattle.gate_base.specs.Prelude.{Event, other}
use Rattle.verdicts.specs.Prelude.{first_that_holds, unless_refused}
use Rattle.gate_base.specs.declared.address.Addr.{Addr}
use Rattle.verdicts.specs.declared.refusal.Refusal.{Refusal}
use Rattle.verdicts.specs.declared.refusal.Refusal.TheVariants.{NoSession, SessionsFull, PoolEmpty}
use Rattle.gate_base.specs.declared.side.Side.{Side}
use Rattle.binding_table.specs.Prelude.{Bindings, free, Use, needed, after_uses, image_after}
use Rattle.dialogue.specs.Prelude.{Entry}
use Rattle.icmp_errors.specs.Inner.{inner_fields}
use Rattle.icmp_errors.specs.declared.Inner.{Inner}
use Rattle.ipv4_frames.specs.Ipv4.{Datagram}
use Rattle.gate_base.specs.declared.host.Host.TheVariants.{Client, Server}
use Rattle.tcp_tracker.specs.Prelude.{connection_of, timeout_of}
use Rattle.tcp_tracker.specs.declared.connection.TheConstants.{SHORT_TIMEOUT}
use Rattle.tcp_tracker.specs.declared.connection.Connection.{Connection}
use Rattle.gate_model.specs.Prelude.{Whole, Kind, Error, Stream, datagram_in, header_tests, datagram_tests, transport_tests, kind_of, addresses_in}
use Rattle.gate_model.specs.Prelude.{renamed_in, SessionRules, uses_until, units_in, names_in, entries_in, uses_of_lists, unit_tests, growth_tests}
use Rattle.gate_model.specs.Prelude.{Tracked, World, at_moment, called, addresses_of, host_on, tracked_as, connection_as, world_as, Reads, tcp_of}
use Rattle.gate_model.specs.Prelude.{segment_of, key_in, key_of, found_in, session_in, begins, made_by, taker_by, session_refusal, ends_by}
use Rattle.gate_model.specs.Prelude.{lacks_session, is_full, stream_timeout, inside, inner_number, is_inner_unbound, payload_addresses, payload_uses}
use Rattle.gate_model.specs.Prelude.{uses_of, table_after, image_in, is_pool_empty, refusal_tests, address_tests, kind_tests, late_tests, tests}
use Rattle.gate_model.specs.Prelude.{verdict_of, taker_in}
use Rattle.gate_model.specs.Inner.{inner_session}
use Rattle.gate_model.specs.Verdict.{verdict}
use Rattle.gate_model.proofs.ReadLists.{live_as, connection_of_as, tracked_as_many, timeout_as}

-- ## One segment

pub found_as : {S T : Type 0} (h : S → T) (live : World S) (side : Side) (d : Datagram)
    → found_in (world_as h live) side d ≡ option_map (connection_as h) (found_in live side d)
found_as h live side d = connection_of_as h (key_in live.table side d) live.connections

pub session_as : {S T : Type 0} (h : S → T) (found : Option (Connection (Tracked S)))
    → session_in (option_map (connection_as h) found) ≡ option_map (tracked_as h) (session_in found)
session_as h None = refl
session_as h (Some c) = refl

pub ends_as : {S T : Type 0} (h : S → T) (a : SessionRules S) (b : SessionRules T) → Reads h a b
    → (side : Side) (d : Datagram) (t : Option (Tracked S)) → ends_by b side d (option_map (tracked_as h) t) ≡ ends_by a side d t
ends_as h a b r side d None = refl
ends_as h a b r side d (Some t) = r.ends (host_on side t) t.session (segment_of d)

stream_timeout_as : {S T : Type 0} (h : S → T) (a : SessionRules S) (b : SessionRules T) → Reads h a b → (live : World S) (side : Side) (d : Datagram)
    → stream_timeout b (world_as h live) side d ≡ stream_timeout a live side d
stream_timeout_as h a b r live side d =
    let one : ends_by b side d (session_in (found_in (world_as h live) side d)) ≡ ends_by a side d (session_in (found_in live side d)) =
    ap (λ f. ends_by b side d (session_in f)) (found_as h live side d) ∙ ap (ends_by b side d) (session_as h (found_in live side d))
    ∙ ends_as h a b r side d (session_in (found_in live side d)) in
    ap (λ (x : Bool). if x then SHORT_TIMEOUT else timeout_of (world_as h live).connections (key_in live.table side d) side (tcp_of d).flags) one
    ∙ ap (λ (n : ℕ). if ends_by a side d (session_in (found_in live side d)) then SHORT_TIMEOUT else n)
    (timeout_as h live.connections (key_in live.table side d) side (tcp_of d).flags)

pub holder_as : {S T : Type 0} (h : S → T) (live : World S) (side : Side) (d : Datagram)
    → session_in (found_in (world_as h live) side d) ≡ option_map (tracked_as h) (session_in (found_in live side d))
holder_as h live side d = ap (λ f. session_in f) (found_as h live side d) ∙ session_as h (found_in live side d)

-- ## Its units

pub units_as : {S T : Type 0} (h : S → T) (a : SessionRules S) (b : SessionRules T) → Reads h a b
    → (side : Side) (d : Datagram) (t : Option (Tracked S)) → units_in b side d (option_map (tracked_as h) t) ≡ units_in a side d t
units_as h a b r side d None = refl
units_as {S = S} h a b r side d (Some t) =
    ap (λ (v : Option Refusal). unless_refused v (b.units (host_on side t) (h t.session) (segment_of d)) [])
    (r.refusal (host_on side t) t.session (segment_of d))
    ∙ by_verdict (a.refusal (host_on side t) t.session (segment_of d)) refl
  where
    by_verdict : (v : Option Refusal) → a.refusal (host_on side t) t.session (segment_of d) ≡ v
        → unless_refused v (b.units (host_on side t) (h t.session) (segment_of d)) [] ≡ unless_refused v
        (a.units (host_on side t) t.session (segment_of d)) []
    by_verdict None e = r.units (host_on side t) t.session (segment_of d) e
    by_verdict (Some refusal) e = refl

names_as : {S T : Type 0} (h : S → T) (a : SessionRules S) (b : SessionRules T) → Reads h a b → (side : Side) (d : Datagram) (t : Option (Tracked S))
    → names_in b side d (option_map (tracked_as h) t) ≡ names_in a side d t
names_as h a b r side d t = ap addresses_in (units_as h a b r side d t)

entries_as : {S T : Type 0} (h : S → T) (a : SessionRules S) (b : SessionRules T) → Reads h a b → (side : Side) (t : Option (Tracked S))
    → entries_in b side (option_map (tracked_as h) t) ≡ entries_in a side t
entries_as h a b r side None = refl
entries_as h a b r side (Some t) = r.listed (host_on side t) t.session

lists_as : {S T : Type 0} (h : S → T) (a : SessionRules S) (b : SessionRules T) → Reads h a b → (until : ℕ) (t : Option (Tracked S))
    → uses_of_lists b until (option_map (tracked_as h) t) ≡ uses_of_lists a until t
lists_as h a b r until None = refl
lists_as h a b r until (Some t) =
    ap (λ (es : List Entry). uses_until t.client until (renamed_in es) ++ uses_until (other t.client) until
    (renamed_in (b.listed Server (h t.session)))) (r.listed Client t.session)
    ∙ ap (λ (es : List Entry). uses_until t.client until (renamed_in (a.listed Client t.session)) ++ uses_until (other t.client) until
    (renamed_in es)) (r.listed Server t.session)

payload_as : {S T : Type 0} (h : S → T) (a : SessionRules S) (b : SessionRules T) → Reads h a b
    → (live : World S) (side : Side) (d : Datagram) (kind : Kind)
    → payload_addresses b (world_as h live) side d kind ≡ payload_addresses a live side d kind
payload_as h a b r live side d (Whole payload) = refl
payload_as h a b r live side d Stream = ap (names_in b side d) (holder_as h live side d) ∙ names_as h a b r side d (session_in (found_in live side d))

stream_uses_as : {S T : Type 0} (h : S → T) (a : SessionRules S) (b : SessionRules T) → Reads h a b
    → (live : World S) (side : Side) (moment until : ℕ) (d : Datagram)
    → payload_uses b (world_as h live) side moment until d Stream ≡ payload_uses a live side moment until d Stream
stream_uses_as h a b r live side moment until d =
    let holder = session_in (found_in live side d) in
    ap (λ (ns : List Addr). uses_until side until ns ++ uses_of_lists b until (session_in (found_in (world_as h live) side d)))
    (payload_as h a b r live side d Stream)
    ∙ ap (λ (us : List Use). uses_until side until (names_in a side d holder) ++ us)
    (ap (uses_of_lists b until) (holder_as h live side d) ∙ lists_as h a b r until holder)

uses_as : {S T : Type 0} (h : S → T) (a : SessionRules S) (b : SessionRules T) → Reads h a b
    → (live : World S) (side : Side) (moment : ℕ) (d : Datagram)
    → uses_of b (world_as h live) side moment d Stream ≡ uses_of a live side moment d Stream
uses_as h a b r live side moment d =
    let until = moment + stream_timeout a live side d in
    ap (λ (n : ℕ). uses_until side (moment + n) (addresses_of d) ++ payload_uses b (world_as h live) side moment (moment + n) d Stream)
    (stream_timeout_as h a b r live side d)
    ∙ ap (λ (us : List Use). uses_until side until (addresses_of d) ++ us) (stream_uses_as h a b r live side moment until d)

pub table_as : {S T : Type 0} (h : S → T) (a : SessionRules S) (b : SessionRules T) → Reads h a b
    → (live : World S) (side : Side) (moment : ℕ) (d : Datagram) (kind : Kind)
    → table_after b (world_as h live) side moment d kind ≡ table_after a live side moment d kind
table_as h a b r live side moment d (Whole payload) = refl
table_as h a b r live side moment d Stream = ap (after_uses live.table) (uses_as h a b r live side moment d)

pub image_as : {S T : Type 0} (h : S → T) (a : SessionRules S) (b : SessionRules T) → Reads h a b
    → (live : World S) (side : Side) (moment : ℕ) (d : Datagram) → image_in b (world_as h live) side moment d ≡ image_in a live side moment d
image_as h a b r live side moment d =
    let called_by : Bindings → Addr → Option Addr = λ table address. image_after live.table table side address in
    ap called_by (table_as h a b r live side moment d Stream)

pool_as : {S T : Type 0} (h : S → T) (a : SessionRules S) (b : SessionRules T) → Reads h a b
    → (live : World S) (side : Side) (d : Datagram) (kind : Kind) → is_pool_empty b (world_as h live) side d kind ≡ is_pool_empty a live side d kind
pool_as h a b r live side d kind =
    ap (λ (ns : List Addr). nat_lt (free live.table (other side)) (needed live.table side (addresses_of d ++ ns)))
    (payload_as h a b r live side d kind)

made_as : {S T : Type 0} (h : S → T) (a : SessionRules S) (b : SessionRules T) → Reads h a b → (table : Bindings) (side : Side) (d : Datagram)
    → made_by b table side d ≡ tracked_as h (made_by a table side d)
made_as {T = T} h a b r table side d =
    ap (λ (s : T). record { client = side; pair = (made_by a table side d).pair; session = s })
    (sym (r.made (tcp_of d).destination_port (made_by a table side d).pair (tcp_of d).sequence (tcp_of d).mss))

taker_by_as : {S T : Type 0} (h : S → T) (a : SessionRules S) (b : SessionRules T) → Reads h a b
    → (table : Bindings) (side : Side) (d : Datagram) (found : Option (Connection (Tracked S)))
    → taker_by b table side d (option_map (connection_as h) found) ≡ option_map (tracked_as h) (taker_by a table side d found)
taker_by_as {S = S} {T = T} h a b r table side d None = by_test (begins {S = S} None d)
  where
    by_test : (x : Bool)
        → (if x then Some (made_by b table side d) else None) ≡ option_map (tracked_as h) (if x then Some (made_by a table side d) else None)
    by_test true = ap (λ (t : Tracked T). Some t) (made_as h a b r table side d)
    by_test false = refl
taker_by_as h a b r table side d (Some c) = refl

pub taker_as : {S T : Type 0} (h : S → T) (a : SessionRules S) (b : SessionRules T) → Reads h a b
    → (live : World S) (side : Side) (moment : ℕ) (d : Datagram)
    → taker_in b (world_as h live) side moment d ≡ option_map (tracked_as h) (taker_in a live side moment d)
taker_as h a b r live side moment d =
    ap (λ table. taker_by b table side d (found_in (world_as h live) side d)) (table_as h a b r live side moment d Stream)
    ∙ ap (taker_by b (table_after a live side moment d Stream) side d) (found_as h live side d)
    ∙ taker_by_as h a b r (table_after a live side moment d Stream) side d (found_in live side d)

refusal_as : {S T : Type 0} (h : S → T) (a : SessionRules S) (b : SessionRules T) → Reads h a b
    → (side : Side) (d : Datagram) (t : Option (Tracked S)) → session_refusal b side d (option_map (tracked_as h) t) ≡ session_refusal a side d t
refusal_as h a b r side d None = refl
refusal_as h a b r side d (Some t) = r.refusal (host_on side t) t.session (segment_of d)

lacks_as : {S T : Type 0} (h : S → T) (d : Datagram) (found : Option (Connection (Tracked S)))
    → lacks_session (option_map (connection_as h) found) d ≡ lacks_session found d
lacks_as h d None = refl
lacks_as h d (Some c) = refl

full_as : {S T : Type 0} (h : S → T) (all : List (Connection (Tracked S))) (d : Datagram) (found : Option (Connection (Tracked S)))
    → is_full (map (connection_as h) all) (option_map (connection_as h) found) d ≡ is_full all found d
full_as h all d None = rw (length-map, tracked_as_many h all) refl
full_as h all d (Some c) = refl

unit_tests_as : {S T : Type 0} (h : S → T) (a : SessionRules S) (b : SessionRules T) → Reads h a b
    → (image : Addr → Option Addr) (table : Bindings) (side : Side) (d : Datagram) (t : Option (Tracked S))
    → unit_tests b image table side d (option_map (tracked_as h) t) ≡ unit_tests a image table side d t
unit_tests_as h a b r image table side d t = rw (units_as h a b r side d t, entries_as h a b r side t) refl

growth_as : {S T : Type 0} (h : S → T) (a : SessionRules S) (b : SessionRules T) → Reads h a b
    → (image : Addr → Option Addr) (side : Side) (d : Datagram) (t : Option (Tracked S))
    → growth_tests b image side d (option_map (tracked_as h) t) ≡ growth_tests a image side d t
growth_as h a b r image side d t = rw (units_as h a b r side d t, entries_as h a b r side t) refl

-- ## An ICMP error

inner_session_as : {S T : Type 0} (h : S → T) (live : World S) (side : Side) (inner : Inner)
    → inner_session (world_as h live) side inner ≡ option_map (tracked_as h) (inner_session live side inner)
inner_session_as {S = S} {T = T} h live side inner =
    let key = key_of side inner.destination inner.ports.1 (called live.table side inner.source) inner.ports.0 in
    ap (λ (t : Option (Tracked T)). if inner.protocol == 6 then t else None)
    (ap (λ f. session_in f) (connection_of_as h key live.connections) ∙ session_as h (connection_of key live.connections))
    ∙ by_test (inner.protocol == 6) (session_in (connection_of key live.connections))
  where
    by_test : (x : Bool) (t : Option (Tracked S))
        → (if x then option_map (tracked_as h) t else None) ≡ option_map (tracked_as h) (if x then t else None)
    by_test true t = refl
    by_test false t = refl

pub inner_number_as : {S T : Type 0} (h : S → T) (a : SessionRules S) (b : SessionRules T) → Reads h a b
    → (live : World S) (side : Side) (inner : Inner) → inner_number b (world_as h live) side inner ≡ inner_number a live side inner
inner_number_as {S = S} h a b r live side inner =
    ap (option_map (λ t. b.inner (host_on (other side) t) t.session inner.sequence)) (inner_session_as h live side inner)
    ∙ by_session (inner_session live side inner)
  where
    by_session : (t : Option (Tracked S))
        → option_map (λ t. b.inner (host_on (other side) t) t.session inner.sequence) (option_map (tracked_as h) t) ≡ option_map
        (λ t. a.inner (host_on (other side) t) t.session inner.sequence) t
    by_session None = refl
    by_session (Some t) = ap (λ (x : Option ℕ). Some x) (r.inner (host_on (other side) t) t.session inner.sequence)

unbound_as : {S T : Type 0} (h : S → T) (a : SessionRules S) (b : SessionRules T) → Reads h a b → (live : World S) (side : Side) (inner : Inner)
    → is_inner_unbound b (world_as h live) side inner ≡ is_inner_unbound a live side inner
unbound_as h a b r live side inner = rw (inner_number_as h a b r live side inner) refl

-- ## The verdict

kind_tests_as : {S T : Type 0} (h : S → T) (a : SessionRules S) (b : SessionRules T) → Reads h a b
    → (live : World S) (side : Side) (moment : ℕ) (d : Datagram) (kind : Kind)
    → kind_tests b (world_as h live) side moment d kind ≡ kind_tests a live side moment d kind
kind_tests_as h a b r live side moment d (Whole Error) = rw (unbound_as h a b r live side (inner_fields (inside d))) refl
kind_tests_as h a b r live side moment d (Whole _) = refl
kind_tests_as h a b r live side moment d Stream =
    let refusal : session_refusal b side d (taker_in b (world_as h live) side moment d) ≡ session_refusal a side d (taker_in a live side moment d) =
    ap (session_refusal b side d) (taker_as h a b r live side moment d) ∙ refusal_as h a b r side d (taker_in a live side moment d) in
    let lacks : lacks_session (found_in (world_as h live) side d) d ≡ lacks_session (found_in live side d) d =
    ap (λ f. lacks_session f d) (found_as h live side d) ∙ lacks_as h d (found_in live side d) in
    let full : is_full (world_as h live).connections (found_in (world_as h live) side d) d ≡ is_full live.connections (found_in live side d) d =
    ap (λ f. is_full (world_as h live).connections f d) (found_as h live side d) ∙ full_as h live.connections d (found_in live side d) in
    let units : unit_tests b (image_in b (world_as h live) side moment d) live.table side d (taker_in b (world_as h live) side moment d)
    ≡ unit_tests a (image_in a live side moment d) live.table side d (taker_in a live side moment d) =
    ap (λ (image : Addr → Option Addr). unit_tests b image live.table side d (taker_in b (world_as h live) side moment d))
    (image_as h a b r live side moment d)
    ∙ ap (unit_tests b (image_in a live side moment d) live.table side d) (taker_as h a b r live side moment d)
    ∙ unit_tests_as h a b r (image_in a live side moment d) live.table side d (taker_in a live side moment d) in
    same_tests _ _ _ _ _ _ _ _ lacks refusal units full
  where
    same_tests : (l m : Bool) (x y : Option Refusal) (us vs : List (Bool × Refusal)) (f g : Bool) → l ≡ m → x ≡ y → us ≡ vs → f ≡ g
        → ((l, NoSession) ∷ refusal_tests x ++ (us ++ (f, SessionsFull) ∷ [])) ≡ ((m, NoSession) ∷ refusal_tests y ++ (vs ++ (g, SessionsFull) ∷ []))
    same_tests l m x y us vs f g p q r s = rw (p, q, r, s) refl

late_as : {S T : Type 0} (h : S → T) (a : SessionRules S) (b : SessionRules T) → Reads h a b
    → (live : World S) (side : Side) (moment : ℕ) (d : Datagram) (kind : Kind)
    → late_tests b (world_as h live) side moment d kind ≡ late_tests a live side moment d kind
late_as h a b r live side moment d (Whole payload) = refl
late_as h a b r live side moment d Stream =
    ap (λ (image : Addr → Option Addr). growth_tests b image side d (taker_in b (world_as h live) side moment d))
    (image_as h a b r live side moment d)
    ∙ ap (growth_tests b (image_in a live side moment d) side d) (taker_as h a b r live side moment d)
    ∙ growth_as h a b r (image_in a live side moment d) side d (taker_in a live side moment d)

pub moment_as : {S T : Type 0} (h : S → T) (w : World S) (moment : ℕ) → at_moment (world_as h w) moment ≡ world_as h (at_moment w moment)
moment_as {T = T} h w moment =
    ap (λ (all : List (Connection (Tracked T))). record
    { clock = moment; table = (at_moment w moment).table; connections = all; pending = w.pending })
    (live_as h (record { 0 = moment }) w.connections)

-- the tests behind those of the addresses
pub later_as : {S T : Type 0} (h : S → T) (a : SessionRules S) (b : SessionRules T) → Reads h a b
    → (live : World S) (side : Side) (moment : ℕ) (d : Datagram) (kind : Kind)
    → (kind_tests b (world_as h live) side moment d kind
    ++ (is_pool_empty b (world_as h live) side d kind, PoolEmpty) ∷ late_tests b (world_as h live) side moment d kind)
    ≡ (kind_tests a live side moment d kind ++ (is_pool_empty a live side d kind, PoolEmpty) ∷ late_tests a live side moment d kind)
later_as h a b r live side moment d kind =
    let later : List (Bool × Refusal) → Bool → List (Bool × Refusal) → List (Bool × Refusal) = λ xs empty ys. xs ++ (empty, PoolEmpty) ∷ ys in
    let late = late_tests b (world_as h live) side moment d kind in
    ap (λ (xs : List (Bool × Refusal)). later xs (is_pool_empty b (world_as h live) side d kind) late) (kind_tests_as h a b r live side moment d kind)
    ∙ ap (λ (x : Bool). later (kind_tests a live side moment d kind) x late) (pool_as h a b r live side d kind)
    ∙ ap (later (kind_tests a live side moment d kind) (is_pool_empty a live side d kind)) (late_as h a b r live side moment d kind)

tests_as : {S T : Type 0} (h : S → T) (a : SessionRules S) (b : SessionRules T) → Reads h a b → (live : World S) (e : Event)
    → tests b (world_as h live) e ≡ tests a live e
tests_as h a b r live e =
    let d = datagram_in e in
    let front : List (Bool × Refusal) → List (Bool × Refusal) =
    λ xs. header_tests e ++ (datagram_tests d ++ (transport_tests d ++ (address_tests live.table e.side d ++ xs))) in
    ap front (later_as h a b r live e.side e.moment d (kind_of d))

pub verdict_as : {S T : Type 0} (h : S → T) (a : SessionRules S) (b : SessionRules T) → Reads h a b → (w : World S) (e : Event)
    → verdict b (world_as h w) e ≡ verdict a w e
unfolding verdict
verdict_as h a b r w e =
    ap (λ live. verdict_of (first_that_holds (tests b live e))) (moment_as h w e.moment)
    ∙ ap (λ (xs : List (Bool × Refusal)). verdict_of (first_that_holds xs)) (tests_as h a b r (at_moment w e.moment) e)
