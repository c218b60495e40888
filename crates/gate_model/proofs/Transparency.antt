-- Replies come back, and aliases mean one host.
use Rattle.std.proofs.Common.{◌≡◌, ◌<◌, ◌⊎◌, ℕ, Bool, true, false, not, ◌&&◌, ◌||◌, nat_lt, if◌then◌else◌, List, [], ◌∷◌, ◌++◌, Option}
use Rattle.std.proofs.Common.{Some, None, is_some, is_none, option_map, option_and_then, refl, sym, ◌∙◌, ap, subst, inl, inr, fold, append_assoc, arith}
use Rattle.std.proofs.lemmas.Bool.{cases_Bool, and_from, and_right, or_left, or_right, or_parts, not-false, ltb-true, true≢false}
use Rattle.gate_base.specs.Prelude.{Event, other, is_unicast_number}
use Rattle.verdicts.specs.Prelude.{first_that_holds}
use Rattle.gate_base.specs.declared.address.Addr.{Addr}
use Rattle.verdicts.specs.declared.verdict.Verdict.TheVariants.{Pass}
use Rattle.verdicts.specs.declared.refusal.Refusal.{Refusal}
use Rattle.verdicts.specs.declared.refusal.Refusal.TheVariants.{TtlSpent, NotUnicast, Protocol, SourceInPool}
use Rattle.verdicts.specs.declared.refusal.Refusal.TheVariants.{NoBinding, NoSession, SessionsFull, PoolEmpty}
use Rattle.gate_base.specs.declared.side.Side.{Side}
use Rattle.gate_base.proofs.Sides.{other_other}
use Rattle.gate_settings.specs.Prelude.{is_in_same}
use Rattle.icmp_errors.specs.Inner.{inner_fields, inner_with}
use Rattle.icmp_errors.specs.declared.Inner.{Inner}
use Rattle.ipv4_frames.specs.Ipv4.{Datagram}
use Rattle.tcp_tracker.specs.declared.connection.Connection.{Connection}
use Rattle.twice_translate.specs.Renamed.{renamed}
use Rattle.binding_table.specs.declared.binding.Crossing.{Crossing}
use Rattle.binding_table.specs.declared.binding.Crossing.TheVariants.{Same, Bound, New, Unbound, Empty}
use Rattle.binding_table.specs.Prelude.{Bindings, is_same, in_pool, seen, seen_by, free, needed, needs_binding, IsLawful, IsKnownAs}
use Rattle.binding_table.specs.Bindings.{cross}
use Rattle.binding_table.proofs.Kept.{lawful_expired}
use Rattle.binding_table.proofs.Used.{known_after}
use Rattle.gate_model.specs.Called.{table_by, called_by, sent_from, sent_to, header_until, CrossBack, AllBefore}
use Rattle.gate_model.specs.Frame.{has_other_address, is_other_protocol}
use Rattle.gate_model.specs.Frame.{Error, Dns, Snmp}
use Rattle.gate_model.specs.Inner.{inner_session, inner_number, inner_after, with_inside}
use Rattle.gate_model.specs.Prelude.{SessionRules, Kind, Whole, Udp, Echo, Stream, Tracked, World, host_on, at_moment, called, source_of}
use Rattle.gate_model.specs.Prelude.{destination_of, addresses_of, datagram_in, kind_of, header_tests, datagram_tests, transport_tests, address_tests}
use Rattle.gate_model.specs.Prelude.{world_tests, is_pool_empty, is_reachable, is_unknown, inside, uses_of, table_after, tests, verdict_of, next, out}
use Rattle.gate_model.specs.Prelude.{out_by, out_kind, tcp_of, is_tracked_port, found_in, session_in, begins, is_opening, made_by, taker_by, taker_in}
use Rattle.gate_model.specs.Prelude.{session_refusal, refusal_tests, unit_tests, growth_tests, lacks_session, is_full, names_in, image_in, stream_out}
use Rattle.gate_model.specs.Verdict.{kind_tests, late_tests, payload_addresses, verdict}
use Rattle.gate_model.specs.Stream.{has_tracked_port}
use Rattle.gate_model.specs.Transparent.{IsTranslated, KeepsAlias, MeansOne, IsReply, own_tests}
use Rattle.gate_model.specs.Transparent.{IsUntracked, IsPlainKind, ComesBack, IsAbout, ComesHome}
use Rattle.gate_model.proofs.AliasesLast.{StandFor, cross_back, called_is, stand_after, stand_expired, stand_through}
use Rattle.gate_model.proofs.AliasesLast.{lawful_through, lawful_next, lawful_by, passed_table, HostsAre, hosts_are, hosts_later}
use Rattle.gate_model.proofs.BoundTables.{placed, known_seen}
use Rattle.gate_model.proofs.Passing.{NoneHolds, none_head, none_tail, none_left, none_right, pass_is}

-- ## Addresses of hosts, and aliases

-- a host isn't one of its own realm's pool
pub host_outside : (table : Bindings) (side : Side) (host alias until : ℕ) → IsLawful table → IsKnownAs table side host alias until
    → in_pool table side (record { 0 = host }) ≡ false
host_outside table side host alias until lawful (inl same) = elim (cases_Bool (in_pool table side (record { 0 = host }))) [
  | inl pool ↦ absurd (true≢false (sym same.0 ∙ lawful.pools side (record { 0 = host }) pool))
  | inr out ↦ out
]
host_outside table side host alias until lawful (inr h) = (placed table side host alias until lawful h).1

same_of : (u s : Bool) → u ≡ true → (not u || s) ≡ true → s ≡ true
same_of true s e h = h
same_of false s e h = absurd (true≢false (sym e))

some_is : (o : Option Addr) (a : Addr) → o ≡ Some a → is_some o ≡ true
some_is o a e = ap is_some e

-- the alias of a host of the realm can be reached from the other one
pub known_reached : (table : Bindings) (side : Side) (host alias until : ℕ) → IsLawful table → is_unicast_number host ≡ true
    → IsKnownAs table side host alias until → is_reachable table (other side) (record { 0 = alias }) ≡ true
known_reached table side host alias until lawful unicast (inl same) =
    let inside_same : is_in_same (record { 0 = host }) table.same ≡ true =
    same_of (is_unicast_number host) (is_in_same (record { 0 = host }) table.same) unicast same.0 in
    or_left _ _ (ap (λ (n : ℕ). is_in_same (record { 0 = n }) table.same) same.1 ∙ inside_same)
known_reached table side host alias until lawful unicast (inr h) =
    let back = (cross_back table side host alias until lawful (inl (inr h))).back in
    or_right _ _ (and_from (in_pool table (other side) (record { 0 = alias })) (is_some (seen table (other side) (record { 0 = alias })))
    (placed table side host alias until lawful h).2 (some_is (seen table (other side) (record { 0 = alias })) (record { 0 = host }) back))

reached : (table : Bindings) (side : Side) (address image until : ℕ) → IsLawful table → in_pool table side (record { 0 = address }) ≡ false
    → is_unicast_number address ≡ true → StandFor table side address image until → is_reachable table (other side) (record { 0 = image }) ≡ true
reached table side address image until lawful outside unicast (inl h) = known_reached table side address image until lawful unicast h
reached table side address image until lawful outside unicast (inr (inl same)) =
    known_reached table side address image until lawful unicast (inl (ap (λ (n : ℕ). is_same table (record { 0 = n })) same.1 ∙ same.0, sym same.1))
reached table side address image until lawful outside unicast (inr (inr h)) =
    let pool = ap (λ (s : Side). in_pool table s (record { 0 = address })) (sym (other_other side))
    ∙ (placed table (other side) image address until lawful h).2 in
    absurd (true≢false (sym pool ∙ outside))

-- the sender of a frame that passes is a host
pub source_unicast : {S : Type 0} (rules : SessionRules S) (w : World S) (e : Event) → verdict rules w e ≡ Pass
    → is_unicast_number (datagram_in e).source ≡ true
unfolding verdict
source_unicast rules w e v =
    let live = at_moment w e.moment in
    let d = datagram_in e in
    let world = world_tests rules live e.side e.moment d (kind_of d) in
    let all : NoneHolds (tests rules live e) = record { none = pass_is (first_that_holds (tests rules live e)) v } in
    let rest : NoneHolds (datagram_tests d ++ (transport_tests d ++ world)) =
    none_right (header_tests e) (datagram_tests d ++ (transport_tests d ++ world)) all in
    let mine : NoneHolds (datagram_tests d) = none_left (datagram_tests d) (transport_tests d ++ world) rest in
    let second = none_tail {test = (nat_lt d.lifetime 2, TtlSpent)}
    {more = (has_other_address d, NotUnicast) ∷ (is_other_protocol d, Protocol) ∷ []} mine in
    let hosts : has_other_address d ≡ false = none_head {test = (has_other_address d, NotUnicast)}
    {more = (is_other_protocol d, Protocol) ∷ []} second in
    not-false _ (or_parts (not (is_unicast_number d.source)) (not (is_unicast_number d.destination)) hosts).0

-- ## Nothing goes out untranslated

own_alias : (table : Bindings) (side : Side) (host alias until : ℕ) → IsLawful table → IsKnownAs table side host alias until
    → (is_same table (record { 0 = alias }) ≡ true) ⊎ (in_pool table (other side) (record { 0 = alias }) ≡ true)
own_alias table side host alias until lawful (inl same) = inl (ap (λ (n : ℕ). is_same table (record { 0 = n })) same.1 ∙ same.0)
own_alias table side host alias until lawful (inr h) = inr (placed table side host alias until lawful h).2

pub translated_are : {S : Type 0} (rules : SessionRules S) (w : World S) (e : Event) → IsLawful w.table → verdict rules w e ≡ Pass
    → IsTranslated rules w e
translated_are rules w e lawful v =
    let d = datagram_in e in
    let until = header_until rules w e in
    let table = table_by rules w e in
    let h = hosts_are rules w e lawful v in
    let later = lawful_by rules w e lawful in
    record {
      source = cross_back table e.side d.source (sent_from rules w e).0 until later (inl h.own);
      destination = cross_back table e.side d.destination (sent_to rules w e).0 until later (inr h.far);
      alias = own_alias table e.side d.source (sent_from rules w e).0 until later h.own;
      host = host_outside table (other e.side) (sent_to rules w e).0 d.destination until later h.far;
    }

-- ## While a frame keeps an address

-- both addresses of its header, by the bindings that it leaves
header_stands : {S : Type 0} (rules : SessionRules S) (w : World S) (e : Event) → IsLawful w.table → verdict rules w e ≡ Pass
    → StandFor (table_by rules w e) e.side (datagram_in e).source (sent_from rules w e).0 (header_until rules w e)
    × StandFor (table_by rules w e) e.side (datagram_in e).destination (sent_to rules w e).0 (header_until rules w e)
header_stands rules w e lawful v = let h = hosts_are rules w e lawful v in (inl h.own, inr h.far)

other_way : (table : Bindings) (side : Side) (address image until : ℕ) → StandFor table side address image until
    → StandFor table (other side) image address until
other_way table side address image until (inl h) = inr (subst (λ (s : Side). IsKnownAs table s address image until) (sym (other_other side)) h)
other_way table side address image until (inr h) = inl h

means_one : {S : Type 0} (rules : SessionRules S) (last : World S) (x : Event) (side : Side) (address image : Addr) (until : ℕ) → IsLawful last.table
    → StandFor (at_moment last x.moment).table side address.0 image.0 until → MeansOne rules side address image last x
means_one {S = S} rules last x side address image until lawful now = record {
  maps = λ own source. called_is (table_by rules last x) x.side (source_of dx) image
      (ap (λ (s : Side). seen (table_by rules last x) s (source_of dx)) own ∙ ap (λ (a : Addr). seen (table_by rules last x) side a) source
      ∙ later.there);
  reaches = λ outside unicast far destination. (
    ap (λ (s : Side). is_reachable (at_moment last x.moment).table s (destination_of dx)) far
        ∙ ap (λ (a : Addr). is_reachable (at_moment last x.moment).table (other side) a) destination
        ∙ reached (at_moment last x.moment).table side address.0 image.0 until (lawful_expired last.table (record { 0 = x.moment }) lawful) outside
        unicast now,
    called_is (table_by rules last x) x.side (destination_of dx) address
        (ap (λ (s : Side). seen (table_by rules last x) s (destination_of dx)) far
        ∙ ap (λ (a : Addr). seen (table_by rules last x) (other side) a) destination ∙ later.back),
  );
  alone = λ own passes from.
      let mine = (cross_back (table_by rules last x) x.side dx.source (sent_from rules last x).0 (header_until rules last x) lawful_x
      (header_stands rules last x lawful passes).0).back in
      let same : Some (source_of dx) ≡ Some address = sym mine
      ∙ ap (λ (s : Side). seen (table_by rules last x) (other s) (sent_from rules last x)) own
      ∙ ap (λ (a : Addr). seen (table_by rules last x) (other side) a) from ∙ later.back in
      cc;
}
  where
    dx : Datagram
    dx = datagram_in x

    lawful_x : IsLawful (table_by rules last x)
    lawful_x = lawful_by rules last x lawful

    later : CrossBack (table_by rules last x) side address image
    later =
        cross_back (table_by rules last x) side address.0 image.0 until lawful_x
        (stand_after (uses_of rules (at_moment last x.moment) x.side x.moment (datagram_in x) (kind_of (datagram_in x)))
        (at_moment last x.moment).table side address.0 image.0 until now)

pub keeps_alias : {S : Type 0} (rules : SessionRules S) (w : World S) (e : Event) (address : Addr) (until : ℕ) (between : List Event)
    (x : Event) → IsLawful w.table → verdict rules w e ≡ Pass
    → StandFor (table_by rules w e) e.side address.0 (called_by rules w e address).0 until → AllBefore until between → x.moment < until
    → KeepsAlias rules w e address (fold (next rules) (next rules w e) between) x
keeps_alias {S = S} rules w e address until between x lawful v stands before less =
    let last : World S = fold (next rules) (next rules w e) between in
    let image : Addr = called_by rules w e address in
    let lawful_last : IsLawful last.table = lawful_through rules between (next rules w e) (lawful_next rules w e lawful) in
    let now : StandFor (at_moment last x.moment).table e.side address.0 image.0 until =
    stand_expired last.table e.side address.0 image.0 until x.moment less
    (stand_through rules between (next rules w e) e.side address.0 image.0 until before
    (subst (λ (t : Bindings). StandFor t e.side address.0 image.0 until) (sym (passed_table rules w e v)) stands)) in
    record {
      crosses = cross_back (at_moment last x.moment).table e.side address.0 image.0 until
          (lawful_expired last.table (record { 0 = x.moment }) lawful_last) now;
      own = means_one rules last x e.side address image until lawful_last now;
      far = means_one rules last x (other e.side) image address until lawful_last
          (other_way (at_moment last x.moment).table e.side address.0 image.0 until now);
    }

-- ## Replies

settled_needs : (c : Crossing) (address image : Addr) → seen_by address c ≡ Some image → needs_binding c ≡ false
settled_needs Same address image h = refl
settled_needs (Bound one) address image h = refl
settled_needs (New alias) address image h = cc
settled_needs Unbound address image h = refl
settled_needs Empty address image h = cc

-- two addresses that are called something need no alias
pub none_needed : (table : Bindings) (side : Side) (a b x y : Addr) → seen table side a ≡ Some x → seen table side b ≡ Some y
    → needed table side (a ∷ b ∷ []) ≡ 0
none_needed table side a b x y e f = rw (settled_needs (cross table side a) a x e, settled_needs (cross table side b) b y f) refl

pub two_fail : (a b : Bool) (r s : Refusal) → a ≡ false → b ≡ false → first_that_holds ((a, r) ∷ (b, s) ∷ []) ≡ None
two_fail a b r s e f = rw (e, f) refl

pub ahead : (xs ys : List (Bool × Refusal)) → first_that_holds xs ≡ None → first_that_holds (xs ++ ys) ≡ first_that_holds ys
ahead [] ys e = refl
ahead ((true, r) ∷ xs) ys e = cc
ahead ((false, r) ∷ xs) ys e = ahead xs ys e

behind : (xs ys : List (Bool × Refusal)) → first_that_holds ys ≡ None → first_that_holds (xs ++ ys) ≡ first_that_holds xs
behind [] ys e = e
behind ((true, r) ∷ xs) ys e = refl
behind ((false, r) ∷ xs) ys e = behind xs ys e

pub same_behind : (xs ys zs : List (Bool × Refusal)) → first_that_holds ys ≡ first_that_holds zs
    → first_that_holds (xs ++ ys) ≡ first_that_holds (xs ++ zs)
same_behind [] ys zs e = e
same_behind ((true, r) ∷ xs) ys zs e = refl
same_behind ((false, r) ∷ xs) ys zs e = same_behind xs ys zs e

pub not_below : (n : ℕ) → nat_lt n 0 ≡ false
not_below n = elim (cases_Bool (nat_lt n 0)) [ inl e ↦ absurd (let less = ltb-true n 0 e in omega (arith, less)) | inr e ↦ e ]

-- no test of the world holds of a plain kind whose addresses are known
pool_enough : (table : Bindings) (side : Side) (d : Datagram) → first_that_holds (address_tests table side d) ≡ None
    → needed table side (addresses_of d) ≡ 0 → first_that_holds
    (address_tests table side d ++ (nat_lt (free table (other side)) (needed table side (addresses_of d)), PoolEmpty) ∷ []) ≡ None
pool_enough table side d addresses room =
    let enough : nat_lt (free table (other side)) (needed table side (addresses_of d)) ≡ false =
    ap (λ (n : ℕ). nat_lt (free table (other side)) n) room ∙ not_below (free table (other side)) in
    ahead (address_tests table side d) ((nat_lt (free table (other side)) (needed table side (addresses_of d)), PoolEmpty) ∷ []) addresses
    ∙ rw enough refl

world_none : {S : Type 0} (rules : SessionRules S) (live : World S) (side : Side) (moment : ℕ) (d : Datagram) (kind : Kind)
    → IsPlainKind kind → first_that_holds (address_tests live.table side d) ≡ None → needed live.table side (addresses_of d) ≡ 0
    → first_that_holds (world_tests rules live side moment d kind) ≡ None
world_none rules live side moment d (Whole Udp) plain addresses room = pool_enough live.table side d addresses room
world_none rules live side moment d (Whole Echo) plain addresses room = pool_enough live.table side d addresses room
world_none rules live side moment d _ plain addresses room = absurd plain

pub in_order : (a b c d : List (Bool × Refusal)) → (a ++ (b ++ c)) ++ d ≡ a ++ (b ++ (c ++ d))
in_order a b c d = append_assoc a (b ++ c) d ∙ ap (λ (xs : List (Bool × Refusal)). a ++ xs) (append_assoc b c d)

pub plain_verdict : {S : Type 0} (rules : SessionRules S) (v : World S) (r : Event) → IsPlainKind (kind_of (datagram_in r))
    → first_that_holds (address_tests (at_moment v r.moment).table r.side (datagram_in r)) ≡ None
    → needed (at_moment v r.moment).table r.side (addresses_of (datagram_in r)) ≡ 0 → verdict rules v r ≡ verdict_of (first_that_holds (own_tests r))
unfolding verdict
plain_verdict rules v r plain addresses room =
    let live = at_moment v r.moment in
    let d = datagram_in r in
    let world = world_tests rules live r.side r.moment d (kind_of d) in
    let own = header_tests r ++ (datagram_tests d ++ transport_tests d) in
    ap verdict_of (ap first_that_holds (sym (in_order (header_tests r) (datagram_tests d) (transport_tests d) world))
    ∙ behind own world (world_none rules live r.side r.moment d (kind_of d) plain addresses room))

-- ## Segments that no session tracks

taker_none : {S : Type 0} (rules : SessionRules S) (table : Bindings) (side : Side) (d : Datagram) (found : Option (Connection (Tracked S)))
    → session_in found ≡ None → is_tracked_port (tcp_of d).destination_port ≡ false → taker_by rules table side d found ≡ None
taker_none {S = S} rules table side d None none port = by_begins (begins {S = S} None d)
    (and_right (is_opening (tcp_of d).flags) (is_tracked_port (tcp_of d).destination_port) port)
  where
    by_begins : (b : Bool) → b ≡ false → (if b then Some (made_by rules table side d) else None) ≡ None
    by_begins true e = absurd (true≢false e)
    by_begins false e = refl
taker_none rules table side d (Some c) none port = none

-- the tests of a segment that this session takes, with what is found of its addresses, of its connection and of the pool
abbrev stream_tests : {S : Type 0} → SessionRules S → (Addr → Option Addr) → Bindings → Side → Datagram → List (Bool × Refusal) → Bool
    → Bool → Bool → Option (Tracked S) → List (Bool × Refusal)
stream_tests rules image table side d addresses lacks full pool taker =
    addresses ++ (((lacks, NoSession) ∷ refusal_tests (session_refusal rules side d taker) ++
    (unit_tests rules image table side d taker ++ (full, SessionsFull) ∷ [])) ++ (pool, PoolEmpty) ∷ growth_tests rules image side d taker)

-- of one that none takes only the room for its connection is left to test
none_taken : {S : Type 0} (rules : SessionRules S) (image : Addr → Option Addr) (table : Bindings) (side : Side) (d : Datagram)
    (addresses : List (Bool × Refusal)) (lacks full pool : Bool) (taker : Option (Tracked S)) → first_that_holds addresses ≡ None
    → lacks ≡ false → pool ≡ false → taker ≡ None
    → first_that_holds (stream_tests rules image table side d addresses lacks full pool taker) ≡ first_that_holds ((full, SessionsFull) ∷ [])
none_taken {S = S} rules image table side d addresses lacks full pool taker none l p t =
    ap (λ (x : Option (Tracked S)). first_that_holds (stream_tests rules image table side d addresses lacks full pool x)) t
    ∙ ahead addresses (((lacks, NoSession) ∷ refusal_tests (session_refusal rules side d none_of) ++
    (unit_tests rules image table side d none_of ++ (full, SessionsFull) ∷ [])) ++ (pool, PoolEmpty)
    ∷ growth_tests rules image side d none_of) none
    ∙ by_tests lacks full pool l p
  where
    none_of : Option (Tracked S)
    none_of = None

    by_tests : (a b c : Bool) → a ≡ false → c ≡ false → first_that_holds ((a, NoSession) ∷ (b, SessionsFull) ∷ (c, PoolEmpty) ∷ [])
        ≡ first_that_holds ((b, SessionsFull) ∷ [])
    by_tests true b c e f = absurd (true≢false e)
    by_tests false true c e f = refl
    by_tests false false true e f = absurd (true≢false f)
    by_tests false false false e f = refl

stream_none : {S : Type 0} (rules : SessionRules S) (live : World S) (side : Side) (moment : ℕ) (d : Datagram)
    → first_that_holds (address_tests live.table side d) ≡ None → needed live.table side (addresses_of d) ≡ 0 → has_tracked_port d ≡ false
    → session_in (found_in live side d) ≡ None
    → first_that_holds (world_tests rules live side moment d Stream)
    ≡ first_that_holds ((is_full live.connections (found_in live side d) d, SessionsFull) ∷ [])
stream_none {S = S} rules live side moment d addresses room ports session =
    let tcp = tcp_of d in
    let found = found_in live side d in
    let port = (or_parts (is_tracked_port tcp.source_port) (is_tracked_port tcp.destination_port) ports).1 in
    let lacks : lacks_session found d ≡ false = and_right (is_none found) (has_tracked_port d && not (is_opening tcp.flags))
    (ap (λ (b : Bool). b && not (is_opening tcp.flags)) ports) in
    let pool : is_pool_empty rules live side d Stream ≡ false =
    ap (λ (o : Option (Tracked S)). nat_lt (free live.table (other side))
    (needed live.table side (addresses_of d ++ names_in rules side d o))) session
    ∙ ap (λ (n : ℕ). nat_lt (free live.table (other side)) n) room ∙ not_below (free live.table (other side)) in
    none_taken rules (image_in rules live side moment d) live.table side d (address_tests live.table side d) (lacks_session found d)
    (is_full live.connections found d) (is_pool_empty rules live side d Stream) (taker_in rules live side moment d) addresses lacks pool
    (taker_none rules (table_after rules live side moment d Stream) side d found session port)

pub segment_verdict : {S : Type 0} (rules : SessionRules S) (v : World S) (r : Event) → IsUntracked v r
    → first_that_holds (address_tests (at_moment v r.moment).table r.side (datagram_in r)) ≡ None
    → needed (at_moment v r.moment).table r.side (addresses_of (datagram_in r)) ≡ 0
    → verdict rules v r ≡ verdict_of (first_that_holds (own_tests r ++
    (is_full (at_moment v r.moment).connections (found_in (at_moment v r.moment) r.side (datagram_in r)) (datagram_in r), SessionsFull) ∷ []))
unfolding verdict
segment_verdict {S = S} rules v r is addresses room =
    let live = at_moment v r.moment in
    let d = datagram_in r in
    let last : List (Bool × Refusal) = (is_full live.connections (found_in live r.side d) d, SessionsFull) ∷ [] in
    ap verdict_of
    (ap first_that_holds (sym (in_order (header_tests r) (datagram_tests d) (transport_tests d)
    (world_tests rules live r.side r.moment d (kind_of d))))
    ∙ ap (λ (kind : Kind). first_that_holds (own_tests r ++ world_tests rules live r.side r.moment d kind)) is.kind
    ∙ same_behind (own_tests r) (world_tests rules live r.side r.moment d Stream) last
    (stream_none rules live r.side r.moment d addresses room is.ports is.session))

-- a frame whose addresses are no reason to refuse it is refused for what it is by itself, or for what it carries
pub past_addresses : {S : Type 0} (rules : SessionRules S) (w : World S) (e : Event)
    → first_that_holds (address_tests (at_moment w e.moment).table e.side (datagram_in e)) ≡ None
    → verdict rules w e ≡ verdict_of (first_that_holds (own_tests e ++
    (kind_tests rules (at_moment w e.moment) e.side e.moment (datagram_in e) (kind_of (datagram_in e))
    ++ (is_pool_empty rules (at_moment w e.moment) e.side (datagram_in e) (kind_of (datagram_in e)), PoolEmpty)
    ∷ late_tests rules (at_moment w e.moment) e.side e.moment (datagram_in e) (kind_of (datagram_in e)))))
unfolding verdict
past_addresses rules w e none =
    let live = at_moment w e.moment in
    let d = datagram_in e in
    let rest : List (Bool × Refusal) = kind_tests rules live e.side e.moment d (kind_of d)
    ++ (is_pool_empty rules live e.side d (kind_of d), PoolEmpty) ∷ late_tests rules live e.side e.moment d (kind_of d) in
    let first = address_tests live.table e.side d in
    ap verdict_of
    (ap first_that_holds (sym (in_order (header_tests e) (datagram_tests d) (transport_tests d) (first ++ rest)))
    ∙ same_behind (own_tests e) (first ++ rest) rest (ahead first rest none))

-- where nothing more is named, the pool is asked for nothing
pub none_named : {S : Type 0} (rules : SessionRules S) (w : World S) (e : Event)
    → needed (at_moment w e.moment).table e.side (addresses_of (datagram_in e)) ≡ 0
    → payload_addresses rules (at_moment w e.moment) e.side (datagram_in e) (kind_of (datagram_in e)) ≡ []
    → is_pool_empty rules (at_moment w e.moment) e.side (datagram_in e) (kind_of (datagram_in e)) ≡ false
none_named rules w e room none =
    let live = at_moment w e.moment in
    let d = datagram_in e in
    ap (λ (names : List Addr). nat_lt (free live.table (other e.side)) (needed live.table e.side (addresses_of d ++ names))) none
    ∙ ap (λ (n : ℕ). nat_lt (free live.table (other e.side)) n) room ∙ not_below (free live.table (other e.side))

pub segment_out : {S : Type 0} (rules : SessionRules S) (v : World S) (r : Event) → IsUntracked v r
    → out_kind rules (at_moment v r.moment) r.side r.moment (datagram_in r) (kind_of (datagram_in r))
    ≡ renamed (datagram_in r) (sent_from rules v r).0 (sent_to rules v r).0 ∷ []
segment_out {S = S} rules v r is =
    let live = at_moment v r.moment in
    let d = datagram_in r in
    let port = (or_parts (is_tracked_port (tcp_of d).source_port) (is_tracked_port (tcp_of d).destination_port) is.ports).1 in
    let taker = taker_none rules (table_after rules live r.side r.moment d Stream) r.side d (found_in live r.side d) is.session port in
    by_kind live r.side r.moment d (kind_of d) is.kind taker
  where
    by_kind : (live : World S) (side : Side) (moment : ℕ) (d : Datagram) (kind : Kind) → kind ≡ Stream
        → taker_in rules live side moment d ≡ None → out_kind rules live side moment d kind
        ≡ renamed d (called (table_after rules live side moment d kind) side (source_of d)).0
        (called (table_after rules live side moment d kind) side (destination_of d)).0 ∷ []
    by_kind live side moment d (Whole payload) e t = absurd (cc)
    by_kind live side moment d Stream e t =
        let table = table_after rules live side moment d Stream in
        ap (stream_out rules (image_in rules live side moment d) side d (called table side (source_of d)).0
        (called table side (destination_of d)).0) t

pub plain_out : {S : Type 0} (rules : SessionRules S) (live : World S) (side : Side) (moment : ℕ) (d : Datagram) (kind : Kind)
    → IsPlainKind kind → out_kind rules live side moment d kind
    ≡ renamed d (called (table_after rules live side moment d kind) side (source_of d)).0
    (called (table_after rules live side moment d kind) side (destination_of d)).0 ∷ []
plain_out rules live side moment d (Whole Udp) plain = refl
plain_out rules live side moment d (Whole Echo) plain = refl
plain_out rules live side moment d _ plain = absurd plain

pub comes_back : {S : Type 0} (rules : SessionRules S) (w : World S) (e : Event) (between : List Event) (r : Event) → IsLawful w.table
    → verdict rules w e ≡ Pass → IsReply rules w e r → AllBefore (header_until rules w e) between → r.moment < header_until rules w e
    → ComesBack rules e (fold (next rules) (next rules w e) between) r
comes_back {S = S} rules w e between r lawful v reply before less = record {
  addresses = addresses;
  room = room;
  from = from;
  to = to;
  plain = plain;
  segment = λ is. segment_verdict rules (fold (next rules) (next rules w e) between) r is addresses room;
  carries = past_addresses rules (fold (next rules) (next rules w e) between) r addresses;
  pool = λ none. none_named rules (fold (next rules) (next rules w e) between) r room none;
  segment_sent = λ is passes.
      ap (out_by rules live r) passes ∙ segment_out rules (fold (next rules) (next rules w e) between) r is
      ∙ ap (λ (a : Addr). renamed dr a.0 (sent_to rules (fold (next rules) (next rules w e) between) r).0 ∷ []) from
      ∙ ap (λ (a : Addr). renamed dr (datagram_in e).destination a.0 ∷ []) to;
  sent = λ kind own.
      let passes : verdict rules (fold (next rules) (next rules w e) between) r ≡ Pass = plain kind ∙ ap verdict_of own in
      ap (out_by rules live r) passes ∙ plain_out rules live r.side r.moment dr (kind_of dr) kind
      ∙ ap (λ (a : Addr). renamed dr a.0 (sent_to rules (fold (next rules) (next rules w e) between) r).0 ∷ []) from
      ∙ ap (λ (a : Addr). renamed dr (datagram_in e).destination a.0 ∷ []) to;
}
  where
    until : ℕ
    until = header_until rules w e

    dr : Datagram
    dr = datagram_in r

    live : World S
    live = at_moment (fold (next rules) (next rules w e) between) r.moment

    lawful_last : IsLawful (fold (next rules) (next rules w e) between).table
    lawful_last = lawful_through rules between (next rules w e) (lawful_next rules w e lawful)

    lawful_live : IsLawful (at_moment (fold (next rules) (next rules w e) between) r.moment).table
    lawful_live = lawful_expired (fold (next rules) (next rules w e) between).table (record { 0 = r.moment }) lawful_last

    hosts : HostsAre rules w e (at_moment (fold (next rules) (next rules w e) between) r.moment).table
    hosts = hosts_later rules w e between r.moment lawful v before less

    outside : in_pool (at_moment (fold (next rules) (next rules w e) between) r.moment).table r.side (source_of (datagram_in r)) ≡ false
    outside =
        ap (λ (s : Side). in_pool (at_moment (fold (next rules) (next rules w e) between) r.moment).table s (source_of (datagram_in r))) reply.side
        ∙ ap (λ (a : Addr). in_pool (at_moment (fold (next rules) (next rules w e) between) r.moment).table (other e.side) a) reply.source
        ∙ host_outside (at_moment (fold (next rules) (next rules w e) between) r.moment).table (other e.side) (sent_to rules w e).0
        (datagram_in e).destination (header_until rules w e) lawful_live hosts.far

    reach : is_reachable (at_moment (fold (next rules) (next rules w e) between) r.moment).table r.side (destination_of (datagram_in r)) ≡ true
    reach =
        ap (λ (s : Side). is_reachable (at_moment (fold (next rules) (next rules w e) between) r.moment).table s
        (destination_of (datagram_in r))) reply.side
        ∙ ap (λ (a : Addr). is_reachable (at_moment (fold (next rules) (next rules w e) between) r.moment).table (other e.side) a) reply.destination
        ∙ known_reached (at_moment (fold (next rules) (next rules w e) between) r.moment).table e.side (datagram_in e).source
        (sent_from rules w e).0 (header_until rules w e) lawful_live (source_unicast rules w e v) hosts.own

    addresses : first_that_holds (address_tests (at_moment (fold (next rules) (next rules w e) between) r.moment).table r.side (datagram_in r)) ≡ None
    addresses =
        two_fail (in_pool (at_moment (fold (next rules) (next rules w e) between) r.moment).table r.side (source_of (datagram_in r)))
        (not (is_reachable (at_moment (fold (next rules) (next rules w e) between) r.moment).table r.side
        (destination_of (datagram_in r)))) SourceInPool NoBinding outside (ap not reach)

    -- what both addresses are called by a table that has both hosts
    source_seen : (table : Bindings) → IsLawful table → HostsAre rules w e table
        → seen table r.side (source_of (datagram_in r)) ≡ Some (destination_of (datagram_in e))
    source_seen table lawful_table h =
        ap (λ (s : Side). seen table s (source_of (datagram_in r))) reply.side ∙ ap (λ (a : Addr). seen table (other e.side) a) reply.source
        ∙ known_seen table (other e.side) (sent_to rules w e).0 (datagram_in e).destination (header_until rules w e) lawful_table h.far

    destination_seen : (table : Bindings) → IsLawful table → HostsAre rules w e table
        → seen table r.side (destination_of (datagram_in r)) ≡ Some (source_of (datagram_in e))
    destination_seen table lawful_table h =
        ap (λ (s : Side). seen table s (destination_of (datagram_in r))) reply.side ∙ ap (λ (a : Addr). seen table (other e.side) a) reply.destination
        ∙ (cross_back table e.side (datagram_in e).source (sent_from rules w e).0 (header_until rules w e) lawful_table (inl h.own)).back

    room : needed (at_moment (fold (next rules) (next rules w e) between) r.moment).table r.side (addresses_of (datagram_in r)) ≡ 0
    room =
        none_needed (at_moment (fold (next rules) (next rules w e) between) r.moment).table r.side (source_of (datagram_in r))
        (destination_of (datagram_in r)) (destination_of (datagram_in e)) (source_of (datagram_in e))
        (source_seen (at_moment (fold (next rules) (next rules w e) between) r.moment).table lawful_live hosts)
        (destination_seen (at_moment (fold (next rules) (next rules w e) between) r.moment).table lawful_live hosts)

    -- the bindings that the reply leaves have them too
    kept : HostsAre rules w e (table_by rules (fold (next rules) (next rules w e) between) r)
    kept =
        let uses = uses_of rules (at_moment (fold (next rules) (next rules w e) between) r.moment) r.side r.moment (datagram_in r)
        (kind_of (datagram_in r)) in
        let table = (at_moment (fold (next rules) (next rules w e) between) r.moment).table in
        record {
          own = known_after uses table e.side (datagram_in e).source (sent_from rules w e).0 (header_until rules w e) hosts.own;
          far = known_after uses table (other e.side) (sent_to rules w e).0 (datagram_in e).destination (header_until rules w e) hosts.far;
        }

    lawful_r : IsLawful (table_by rules (fold (next rules) (next rules w e) between) r)
    lawful_r = lawful_by rules (fold (next rules) (next rules w e) between) r lawful_last

    from : sent_from rules (fold (next rules) (next rules w e) between) r ≡ destination_of (datagram_in e)
    from = called_is (table_by rules (fold (next rules) (next rules w e) between) r) r.side (source_of (datagram_in r))
        (destination_of (datagram_in e)) (source_seen (table_by rules (fold (next rules) (next rules w e) between) r) lawful_r kept)

    to : sent_to rules (fold (next rules) (next rules w e) between) r ≡ source_of (datagram_in e)
    to = called_is (table_by rules (fold (next rules) (next rules w e) between) r) r.side (destination_of (datagram_in r))
        (source_of (datagram_in e)) (destination_seen (table_by rules (fold (next rules) (next rules w e) between) r) lawful_r kept)

    plain : IsPlainKind (kind_of (datagram_in r))
        → verdict rules (fold (next rules) (next rules w e) between) r ≡ verdict_of (first_that_holds (own_tests r))
    plain kind = plain_verdict rules (fold (next rules) (next rules w e) between) r kind addresses room

-- ## ICMP errors

-- two addresses that are called something, where no session is asked
bound_of : {T : Type 0} (a b : Option Addr) (x y : Addr) (o : Option T) (f : T → Option ℕ) → a ≡ Some x → b ≡ Some y → o ≡ None
    → ((is_none a || is_none b) || is_unknown (option_map f o)) ≡ false
bound_of a b x y o f e g h = rw (e, g, h) refl

error_out : {S : Type 0} (rules : SessionRules S) (live : World S) (side : Side) (moment : ℕ) (d : Datagram) (kind : Kind) → kind ≡ Whole Error
    → out_kind rules live side moment d kind ≡ renamed (with_inside d (inner_after rules live side (inside d)))
    (called (table_after rules live side moment d kind) side (source_of d)).0
    (called (table_after rules live side moment d kind) side (destination_of d)).0 ∷ []
error_out rules live side moment d (Whole Error) e = refl
error_out rules live side moment d (Whole Udp) e = cc
error_out rules live side moment d (Whole Echo) e = cc
error_out rules live side moment d (Whole Dns) e = cc
error_out rules live side moment d (Whole Snmp) e = cc
error_out rules live side moment d Stream e = cc

inside_is : {S : Type 0} (rules : SessionRules S) (live : World S) (side : Side) (octets : List ℕ) (a b : Addr)
    → seen live.table side (inner_fields octets).source ≡ Some a → seen live.table side (inner_fields octets).destination ≡ Some b
    → inner_after rules live side octets
    ≡ inner_with octets a.0 b.0 (option_and_then (λ number. number) (inner_number rules live side (inner_fields octets)))
inside_is rules live side octets a b e f =
    let inner = inner_fields octets in
    let number = option_and_then (λ number. number) (inner_number rules live side inner) in
    ap (λ (x : Addr). inner_with octets x.0 (called live.table side inner.destination).0 number) (called_is live.table side inner.source a e)
    ∙ ap (λ (x : Addr). inner_with octets a.0 x.0 number) (called_is live.table side inner.destination b f)

pub comes_home : {S : Type 0} (rules : SessionRules S) (w : World S) (e : Event) (between : List Event) (r : Event) → IsLawful w.table
    → verdict rules w e ≡ Pass → IsAbout rules w e r → AllBefore (header_until rules w e) between → r.moment < header_until rules w e
    → ComesHome rules e (fold (next rules) (next rules w e) between) r
comes_home {S = S} rules w e between r lawful v about before less = record {
  source = source;
  destination = destination;
  bound = λ none.
      bound_of (seen table r.side inner.source) (seen table r.side inner.destination) (source_of (datagram_in e))
      (destination_of (datagram_in e)) (inner_session live r.side inner)
      (λ (t : Tracked S). rules.inner (host_on (other r.side) t) t.session inner.sequence) source destination none;
  sent = λ kind passes.
      ap (out_by rules live r) passes ∙ error_out rules live r.side r.moment (datagram_in r) (kind_of (datagram_in r)) kind
      ∙ ap (λ (octets : List ℕ). renamed (with_inside (datagram_in r) octets) (sent_from rules (fold (next rules) (next rules w e) between) r).0
      (sent_to rules (fold (next rules) (next rules w e) between) r).0 ∷ [])
      (inside_is rules live r.side (inside (datagram_in r)) (source_of (datagram_in e)) (destination_of (datagram_in e)) source destination);
}
  where
    inner : Inner
    inner = inner_fields (inside (datagram_in r))

    live : World S
    live = at_moment (fold (next rules) (next rules w e) between) r.moment

    table : Bindings
    table = (at_moment (fold (next rules) (next rules w e) between) r.moment).table

    lawful_live : IsLawful (at_moment (fold (next rules) (next rules w e) between) r.moment).table
    lawful_live = lawful_expired (fold (next rules) (next rules w e) between).table (record { 0 = r.moment })
        (lawful_through rules between (next rules w e) (lawful_next rules w e lawful))

    hosts : HostsAre rules w e (at_moment (fold (next rules) (next rules w e) between) r.moment).table
    hosts = hosts_later rules w e between r.moment lawful v before less

    source : seen (at_moment (fold (next rules) (next rules w e) between) r.moment).table r.side
        (inner_fields (inside (datagram_in r))).source ≡ Some (source_of (datagram_in e))
    source =
        ap (λ (s : Side). seen (at_moment (fold (next rules) (next rules w e) between) r.moment).table s
        (inner_fields (inside (datagram_in r))).source) about.side
        ∙ ap (λ (a : Addr). seen (at_moment (fold (next rules) (next rules w e) between) r.moment).table (other e.side) a) about.source
        ∙ (cross_back (at_moment (fold (next rules) (next rules w e) between) r.moment).table e.side (datagram_in e).source
        (sent_from rules w e).0 (header_until rules w e) lawful_live (inl hosts.own)).back

    destination : seen (at_moment (fold (next rules) (next rules w e) between) r.moment).table r.side
        (inner_fields (inside (datagram_in r))).destination ≡ Some (destination_of (datagram_in e))
    destination =
        ap (λ (s : Side). seen (at_moment (fold (next rules) (next rules w e) between) r.moment).table s
        (inner_fields (inside (datagram_in r))).destination) about.side
        ∙ ap (λ (a : Addr). seen (at_moment (fold (next rules) (next rules w e) between) r.moment).table (other e.side) a) about.destination
        ∙ known_seen (at_moment (fold (next rules) (next rules w e) between) r.moment).table (other e.side) (sent_to rules w e).0
        (datagram_in e).destination (header_until rules w e) lawful_live hosts.far
