-- While a connection lives its hosts keep their aliases.
use Rattle.std.proofs.Common.{◌≡◌, ◌<◌, ℕ, ◌+◌, Bool, true, false, not, ◌&&◌, ◌==◌, nat_lt, if◌then◌else◌}
use Rattle.std.proofs.Common.{List, [], ◌∷◌, get_or, All, Option, Some, None, option_map, refl, sym, ◌∙◌, ap}
use Rattle.std.proofs.Common.{subst, inl, inr, option_and_then, slice_get, IfSome, cond, unwrap_or, fold}
use Rattle.std.proofs.lemmas.Bool.{and_parts, eq-eqb, eqb-true, ltb-true, not-false}
use Rattle.std.proofs.lemmas.List.Elements.{All-weaker, All-nil, All-head, All-tail, All-cons, All-get_or}
use Rattle.std.proofs.lemmas.List.Quantifiers.{position-Some}
use Rattle.std.proofs.lemmas.Option.{slice_get_within, get_or_from_slice_get}
use Rattle.gate_base.specs.Prelude.{Event, other}
use Rattle.gate_base.specs.declared.address.Addr.{Addr}
use Rattle.gate_base.specs.declared.event.Pair.{Pair}
use Rattle.verdicts.specs.declared.verdict.Verdict.{Verdict}
use Rattle.verdicts.specs.declared.verdict.Verdict.TheVariants.{Pass, Refused, Held}
use Rattle.verdicts.specs.declared.refusal.Refusal.TheVariants.{SourceInPool, NoBinding}
use Rattle.gate_base.specs.declared.side.Side.{Side}
use Rattle.gate_base.specs.declared.side.Side.TheVariants.{Left, Right}
use Rattle.gate_base.proofs.Sides.{other_other}
use Rattle.binding_table.specs.Prelude.{Bindings, in_pool, seen, seen_by, expired, IsLawful, IsKnownAs, Use, after_uses}
use Rattle.binding_table.specs.Bindings.{cross}
use Rattle.binding_table.proofs.Used.{known_after}
use Rattle.binding_table.proofs.Kept.{lawful_expired}
use Rattle.binding_table.proofs.Back.{crosses_back}
use Rattle.ipv4_frames.specs.Ipv4.{Datagram}
use Rattle.tcp_segments.specs.Prelude.{flags_of}
use Rattle.tcp_tracker.specs.Prelude.{is_of, place_of, connection_of, is_reset, starts_anew, unused, kept, kept_or_begun}
use Rattle.tcp_tracker.specs.Prelude.{with_flags, held, timeout, timeout_or_short, after, live, with_session}
use Rattle.tcp_tracker.specs.declared.connection.TheConstants.{SHORT_TIMEOUT}
use Rattle.tcp_tracker.specs.declared.connection.ConnKey.{ConnKey}
use Rattle.tcp_tracker.specs.declared.connection.Connection.{Connection}
use Rattle.gate_model.specs.Prelude.{Whole, Kind, Stream, datagram_in, kind_of, SessionRules, Tracked, World, at_moment, called, source_of}
use Rattle.gate_model.specs.Prelude.{destination_of, tcp_of, key_of, key_in, found_in, session_in, begins, pair_in, made_by, taker_by, stepped}
use Rattle.gate_model.specs.Prelude.{ends_by, stream_timeout, connection_after, payload_addresses, payload_uses, image_in, uses_of, table_after}
use Rattle.gate_model.specs.Prelude.{is_reachable, verdict, taker_in, after_kind, next_by, next, host_in, IsPairOf, KeepsHosts}
use Rattle.gate_model.proofs.Passing.{Passes, passes, none_head, none_tail}
use Rattle.gate_model.proofs.Tracking.{all_changed}
use Rattle.gate_model.proofs.BoundTables.{known_expired, known_seen, known_once, lawful_after, bound_crosses}
use Rattle.gate_model.proofs.BoundUses.{BothKnown, both_known}

-- ## Any connection, as the table goes on

hosts_move : {S : Type 0} (one two : Bindings) (c : Connection (Tracked S))
    → ((side : Side) (host alias : ℕ) → IsKnownAs one side host alias c.until.0 → IsKnownAs two side host alias c.until.0) → KeepsHosts one c
    → KeepsHosts two c
hosts_move one two c move k =
    record { aliases = k.aliases; known = λ side. move side (host_in side c.key) (k.aliases side) (k.known side); pair = k.pair }

hosts_live : {S : Type 0} (table : Bindings) (now : ℕ) (all : List (Connection (Tracked S))) → All (KeepsHosts table) all
    → All (KeepsHosts (expired table (record { 0 = now }))) (live (record { 0 = now }) all)
hosts_live {S = S} table now [] h = All-nil (λ (c : Connection (Tracked S)). KeepsHosts (expired table (record { 0 = now })) c)
hosts_live {S = S} table now (c ∷ all) h = by_test (nat_lt now c.until.0) refl (hosts_live table now all (All-tail (KeepsHosts table) c all h))
  where
    later : Connection (Tracked S) → Type 0
    later d = KeepsHosts (expired table (record { 0 = now })) d

    by_test : (b : Bool) → nat_lt now c.until.0 ≡ b → All (KeepsHosts (expired table (record { 0 = now }))) (live (record { 0 = now }) all)
        → All (KeepsHosts (expired table (record { 0 = now }))) (cond b (c ∷ live (record { 0 = now }) all) (live (record { 0 = now }) all))
    by_test true e more = All-cons (KeepsHosts (expired table (record { 0 = now }))) c (live (record { 0 = now }) all)
        (hosts_move table (expired table (record { 0 = now })) c
        (λ side host alias. known_expired table side host alias c.until.0 now (ltb-true now c.until.0 e)) (All-head (KeepsHosts table) c all h)) more
    by_test false e more = more

hosts_used : {S : Type 0} (table : Bindings) (uses : List Use) (all : List (Connection (Tracked S))) → All (KeepsHosts table) all
    → All (KeepsHosts (after_uses table uses)) all
hosts_used table uses all h =
    All-weaker (KeepsHosts table) (KeepsHosts (after_uses table uses))
    (λ c k. hosts_move table (after_uses table uses) c (λ side host alias. known_after uses table side host alias c.until.0) k) all h

-- ## The connection of a segment

key_own : (side : Side) (own far : Addr) (own_port far_port : ℕ) → host_in side (key_of side own own_port far far_port) ≡ own.0
key_own Left own far own_port far_port = refl
key_own Right own far own_port far_port = refl

key_far : (side : Side) (own far : Addr) (own_port far_port : ℕ) → host_in (other side) (key_of side own own_port far far_port) ≡ far.0
key_far Left own far own_port far_port = refl
key_far Right own far own_port far_port = refl

same_hosts : {S : Type 0} (key : ConnKey) (c : Connection (Tracked S)) (side : Side) → is_of key c ≡ true → host_in side c.key ≡ host_in side key
same_hosts key c side h =
    let ports =
    and_parts ((c.key.left.0 == key.left.0 && c.key.left_port == key.left_port) && c.key.right.0 == key.right.0)
    (c.key.right_port == key.right_port) h in
    let rights = and_parts (c.key.left.0 == key.left.0 && c.key.left_port == key.left_port) (c.key.right.0 == key.right.0) ports.0 in
    let lefts = and_parts (c.key.left.0 == key.left.0) (c.key.left_port == key.left_port) rights.0 in
    by_side side (eqb-true c.key.left.0 key.left.0 lefts.0) (eqb-true c.key.right.0 key.right.0 rights.1)
  where
    by_side : (s : Side) → c.key.left.0 ≡ key.left.0 → c.key.right.0 ≡ key.right.0 → host_in s c.key ≡ host_in s key
    by_side Left l r = l
    by_side Right l r = r

pub found_is : {S : Type 0} (P : Connection (Tracked S) → Type 0) (key : ConnKey) (all : List (Connection (Tracked S))) → All P all
    → IfSome (connection_of key all) (λ c. P c × (is_of key c ≡ true))
found_is {S = S} P key all h = by_place (place_of key all) refl
  where
    by_element : (i : ℕ) → place_of key all ≡ Some i → (o : Option (Connection (Tracked S))) → slice_get all i ≡ o
        → IfSome o (λ c. P c × (is_of key c ≡ true))
    by_element i p None e = tt
    by_element i p (Some c) e =
        let is : get_or all i c ≡ c = get_or_from_slice_get all i c c e in
        (subst P is (All-get_or P all i c (slice_get_within all i c e) h), ap (is_of key) (sym is) ∙ (position-Some (is_of key) all i c p).1)

    by_place : (o : Option ℕ) → place_of key all ≡ o → IfSome (option_and_then (slice_get all) o) (λ c. P c × (is_of key c ≡ true))
    by_place None p = tt
    by_place (Some i) p = by_element i p (slice_get all i) refl

-- what is left of a connection has its name, and lives on for its timeout
flags_key : {S : Type 0} (from : Side) (flags : ℕ) (c : Connection (Tracked S)) → (with_flags from flags c).key ≡ c.key
flags_key Left flags c = refl
flags_key Right flags c = refl

flags_hold : {S : Type 0} (from : Side) (flags : ℕ) (key : ConnKey) (s t : Option (Tracked S))
    → timeout (with_flags from flags (unused key s)) ≡ timeout (with_flags from flags (unused key t))
flags_hold Left flags key s t = refl
flags_hold Right flags key s t = refl

kept_key : {S : Type 0} (flags : ℕ) (c k : Connection (Tracked S)) → kept flags c ≡ Some k → k.key ≡ c.key
kept_key {S = S} flags c k e = by_tests (is_reset flags c) (starts_anew flags c) e
  where
    by_tests : (r s : Bool) → (if r then None else if s then Some (unused c.key None) else Some c) ≡ Some k → k.key ≡ c.key
    by_tests true s e = absurd (cc)
    by_tests false true e = let same : unused {S = Tracked S} c.key None ≡ k = cc in ap (λ (d : Connection (Tracked S)). d.key) (sym same)
    by_tests false false e = let same : c ≡ k = cc in ap (λ (d : Connection (Tracked S)). d.key) (sym same)

pub begun_is : {S : Type 0} (key : ConnKey) (flags : ℕ) (s : Option (Tracked S)) (k : Connection (Tracked S))
    → kept_or_begun key flags s None ≡ Some k → (unused key s ≡ k) × ((flags_of flags).reset ≡ false)
begun_is key flags s k e = by_test (flags_of flags).reset refl e
  where
    by_test : (b : Bool) → (flags_of flags).reset ≡ b → (if b then None else Some (unused key s)) ≡ Some k → (unused key s ≡ k)
        × ((flags_of flags).reset ≡ false)
    by_test true r e = absurd (cc)
    by_test false r e = (cc, r)

-- two names are one
abbrev pub is_key : ConnKey → ConnKey → Bool
is_key key one = ((one.left.0 == key.left.0 && one.left_port == key.left_port) && one.right.0 == key.right.0) && one.right_port == key.right_port

key_itself : (key : ConnKey) → is_key key key ≡ true
key_itself key =
    rw (
      eq-eqb key.left.0 key.left.0 refl,
      eq-eqb key.left_port key.left_port refl,
      eq-eqb key.right.0 key.right.0 refl,
      eq-eqb key.right_port key.right_port refl,
    ) refl

pub record IsLeft {S : Type 0} (rules : SessionRules S) (image : Addr → Option Addr) (live : World S) (side : Side) (moment : ℕ) (d : Datagram)
    (taker : Option (Tracked S)) (c : Connection (Tracked S)) : Type 0 where
  pub hosts : (s : Side) → host_in s c.key ≡ host_in s (key_in live.table side d)
  pub until : c.until.0 ≡ moment + stream_timeout rules live side d
  pub session : c.session ≡ option_map (stepped rules image side d) taker
  pub named : is_of (key_in live.table side d) c ≡ true

-- the timeout, by the connection that was found
abbrev timeout_with : {S : Type 0} → SessionRules S → World S → Side → Datagram → Option (Connection (Tracked S)) → ℕ
timeout_with rules live side d found =
    if ends_by rules side d (session_in found) then SHORT_TIMEOUT else timeout_or_short
    (option_map (with_flags side (tcp_of d).flags) (kept_or_begun (key_in live.table side d) (tcp_of d).flags None found))

pub left_of : {S : Type 0} (rules : SessionRules S) (image : Addr → Option Addr) (live : World S) (side : Side) (moment : ℕ) (d : Datagram)
    (table : Bindings) (found : Option (Connection (Tracked S))) → found_in live side d ≡ found
    → IfSome found (λ c. is_of (key_in live.table side d) c ≡ true)
    → let taker = taker_by rules table side d found in
    IfSome (if ends_by rules side d taker then None else option_map (with_session (option_map (stepped rules image side d) taker))
    (after (key_in live.table side d) side (tcp_of d).flags taker (record { 0 = moment }) found)) (IsLeft rules image live side moment d taker)
left_of {S = S} rules image live side moment d table found f named = by_ends (ends_by rules side d (taker_by rules table side d found)) refl
  where
    key : ConnKey
    key = key_in live.table side d

    by_found : (o : Option (Connection (Tracked S))) → IfSome o (λ c. is_of (key_in live.table side d) c ≡ true)
        → ends_by rules side d (taker_by rules table side d o) ≡ false → (k : Connection (Tracked S))
        → kept_or_begun (key_in live.table side d) (tcp_of d).flags (taker_by rules table side d o) o ≡ Some k
        → ((s : Side) → host_in s k.key ≡ host_in s (key_in live.table side d))
        × (timeout_with rules live side d o ≡ timeout (with_flags side (tcp_of d).flags k)) × (is_key (key_in live.table side d) k.key ≡ true)
    by_found None n e k h =
        let is = begun_is (key_in live.table side d) (tcp_of d).flags (taker_by rules table side d None) k h in (
          λ s. ap (λ (c : Connection (Tracked S)). host_in s c.key) (sym is.0),
          rw is.1 (flags_hold side (tcp_of d).flags (key_in live.table side d) None (taker_by rules table side d None)
              ∙ ap (λ (c : Connection (Tracked S)). timeout (with_flags side (tcp_of d).flags c)) is.0),
          ap (λ (c : Connection (Tracked S)). is_key (key_in live.table side d) c.key) (sym is.0) ∙ key_itself (key_in live.table side d),
        )
    by_found (Some c) n e k h = (
      λ s. ap (host_in s) (kept_key (tcp_of d).flags c k h) ∙ same_hosts (key_in live.table side d) c s n,
      rw (e, h) refl,
      ap (is_key (key_in live.table side d)) (kept_key (tcp_of d).flags c k h) ∙ n,
    )

    by_kept : ends_by rules side d (taker_by rules table side d found) ≡ false → (o : Option (Connection (Tracked S)))
        → kept_or_begun (key_in live.table side d) (tcp_of d).flags (taker_by rules table side d found) found ≡ o
        → IfSome
        (option_map (with_session (option_map (stepped rules image side d) (taker_by rules table side d found)))
        (option_map (λ c. held (record { 0 = moment }) (with_flags side (tcp_of d).flags c)) o))
        (IsLeft rules image live side moment d (taker_by rules table side d found))
    by_kept e None h = tt
    by_kept e (Some k) h =
        let is = by_found found named e k h in
        record {
          hosts = λ s. ap (host_in s) (flags_key side (tcp_of d).flags k) ∙ is.0 s;
          until = ap (λ (n : ℕ). moment + n) (sym is.1 ∙ ap (timeout_with rules live side d) (sym f));
          session = refl;
          named = ap (is_key (key_in live.table side d)) (flags_key side (tcp_of d).flags k) ∙ is.2;
        }

    by_ends : (b : Bool) → ends_by rules side d (taker_by rules table side d found) ≡ b
        → IfSome (if b then None else option_map (with_session (option_map (stepped rules image side d) (taker_by rules table side d found)))
        (after (key_in live.table side d) side (tcp_of d).flags (taker_by rules table side d found) (record { 0 = moment }) found))
        (IsLeft rules image live side moment d (taker_by rules table side d found))
    by_ends true e = tt
    by_ends false e = by_kept e (kept_or_begun (key_in live.table side d) (tcp_of d).flags (taker_by rules table side d found) found) refl

-- ## Its hosts

-- of one realm this, and of the other that
abbrev pick : Side → ℕ → ℕ → Side → ℕ
pick Left own far Left = own
pick Left own far Right = far
pick Right own far Right = own
pick Right own far Left = far

pick_own : (side : Side) (own far : ℕ) → pick side own far side ≡ own
pick_own Left own far = refl
pick_own Right own far = refl

pick_far : (side : Side) (own far : ℕ) → pick side own far (other side) ≡ far
pick_far Left own far = refl
pick_far Right own far = refl

known_at : (table : Bindings) (side : Side) (host same alias until later : ℕ) → host ≡ same → until ≡ later → IsKnownAs table side same alias later
    → IsKnownAs table side host alias until
known_at table side host same alias until later e f h =
    subst (λ (n : ℕ). IsKnownAs table side n alias until) (sym e) (subst (λ (n : ℕ). IsKnownAs table side same alias n) (sym f) h)

-- what is known of both hosts, realm by realm
known_both : (table : Bindings) (side : Side) (hosts : Side → ℕ) (own far until : ℕ) → IsKnownAs table side (hosts side) own until
    → IsKnownAs table (other side) (hosts (other side)) far until → (s : Side) → IsKnownAs table s (hosts s) (pick side own far s) until
known_both table Left hosts own far until a b Left = a
known_both table Left hosts own far until a b Right = b
known_both table Right hosts own far until a b Right = a
known_both table Right hosts own far until a b Left = b

pub known_back : (table : Bindings) (side : Side) (far address until : ℕ) → IsLawful table → IsKnownAs table (other side) far address until
    → seen table side (record { 0 = address }) ≡ Some (record { 0 = far })
unfolding cross
known_back table side far address until lawful (inl same) = rw (same.1, same.0) refl
known_back table side far address until lawful (inr h) =
    ap (seen_by (record { 0 = address }))
    (ap (λ s. cross table s (record { 0 = address })) (sym (other_other side))
    ∙ crosses_back table (other side) (record { 0 = far }) (record { 0 = address }) lawful
    (bound_crosses table (other side) far address until lawful h))

called_is : (table : Bindings) (side : Side) (address image : Addr) → seen table side address ≡ Some image → (called table side address).0 ≡ image.0
called_is table side address image e = ap (λ (o : Option Addr). (unwrap_or o address).0) e

pair_moves : (client : Side) (pair : Pair) (hosts hosts' aliases aliases' : Side → ℕ) → ((s : Side) → hosts' s ≡ hosts s)
    → ((s : Side) → aliases' s ≡ aliases s) → IsPairOf client pair hosts aliases → IsPairOf client pair hosts' aliases'
pair_moves client pair hosts hosts' aliases aliases' h a p = record {
  client_host = p.client_host ∙ sym (h client);
  client_alias = p.client_alias ∙ sym (a client);
  server_host = p.server_host ∙ sym (h (other client));
  server_alias = p.server_alias ∙ sym (a (other client));
}

-- the pair of a session that begins
made_pair : (live table : Bindings) (side : Side) (d : Datagram) (until : ℕ) (hosts : Side → ℕ) → IsLawful table
    → (k : BothKnown live table side d.source d.destination until) → hosts side ≡ d.source
    → hosts (other side) ≡ (called live side (destination_of d)).0 → IsPairOf side (pair_in table side d) hosts (pick side k.alias d.destination)
made_pair live table side d until hosts lawful k own far = record {
  client_host = sym own;
  client_alias = called_is table side (source_of d) (record { 0 = k.alias }) (known_seen table side d.source k.alias until lawful k.own)
      ∙ sym (pick_own side k.alias d.destination);
  server_host =
      called_is table side (destination_of d) (called live side (destination_of d))
      (known_back table side (called live side (destination_of d)).0 d.destination until lawful k.far) ∙ sym far;
  server_alias = sym (pick_far side k.alias d.destination);
}

-- the connection that is left keeps its hosts
left_keeps : {S : Type 0} (rules : SessionRules S) (image : Addr → Option Addr) (live : World S) (side : Side) (moment until : ℕ) (d : Datagram)
    (table : Bindings) (found : Option (Connection (Tracked S))) → IsLawful table → until ≡ moment + stream_timeout rules live side d
    → BothKnown live.table table side d.source d.destination until
    → IfSome found (λ c. KeepsHosts table c × (is_of (key_in live.table side d) c ≡ true)) → (c : Connection (Tracked S))
    → IsLeft rules image live side moment d (taker_by rules table side d found) c → KeepsHosts table c
left_keeps {S = S} rules image live side moment until d table found lawful timeout k kept c left =
    let hosts : Side → ℕ = λ s. host_in s c.key in
    let own : host_in side c.key ≡ d.source = left.hosts side
    ∙ key_own side (source_of d) (called live.table side (destination_of d)) (tcp_of d).source_port (tcp_of d).destination_port in
    let far : host_in (other side) c.key ≡ (called live.table side (destination_of d)).0 = left.hosts (other side)
    ∙ key_far side (source_of d) (called live.table side (destination_of d)) (tcp_of d).source_port (tcp_of d).destination_port in
    let until_is : c.until.0 ≡ until = left.until ∙ sym timeout in
    let all : (s : Side) → IsKnownAs table s (host_in s c.key) (pick side k.alias d.destination s) c.until.0 =
    known_both table side hosts k.alias d.destination c.until.0
    (known_at table side (host_in side c.key) d.source k.alias c.until.0 until own until_is k.own)
    (known_at table (other side) (host_in (other side) c.key)
    (called live.table side (destination_of d)).0 d.destination c.until.0 until far until_is k.far) in
    record {
      aliases = pick side k.alias d.destination;
      known = all;
      pair = subst (λ (o : Option (Tracked S)). IfSome o (λ t. IsPairOf t.client t.pair (λ s. host_in s c.key) (pick side k.alias d.destination)))
          (sym left.session)
          (by_found found kept own far all left.hosts);
    }
  where
    begins_so : (b : Bool) → host_in side c.key ≡ d.source → host_in (other side) c.key ≡ (called live.table side (destination_of d)).0
        → IfSome (option_map (stepped rules image side d) (if b then Some (made_by rules table side d) else None))
        (λ t. IsPairOf t.client t.pair (λ s. host_in s c.key) (pick side k.alias d.destination))
    begins_so true own far = made_pair live.table table side d until (λ s. host_in s c.key) lawful k own far
    begins_so false own far = tt

    goes_on : (e : Connection (Tracked S)) → (keeps : KeepsHosts table e) → is_of (key_in live.table side d) e ≡ true
        → ((s : Side) → IsKnownAs table s (host_in s c.key) (pick side k.alias d.destination s) c.until.0)
        → ((s : Side) → host_in s c.key ≡ host_in s (key_in live.table side d))
        → (o : Option (Tracked S)) → IfSome o (λ t. IsPairOf t.client t.pair (λ s. host_in s e.key) keeps.aliases)
        → IfSome (option_map (stepped rules image side d) o) (λ t. IsPairOf t.client t.pair (λ s. host_in s c.key) (pick side k.alias d.destination))
    goes_on e keeps named all same None p = tt
    goes_on e keeps named all same (Some t) p =
        let hosts : (s : Side) → host_in s c.key ≡ host_in s e.key = λ s. same s ∙ sym (same_hosts (key_in live.table side d) e s named) in
        pair_moves t.client t.pair (λ s. host_in s e.key) (λ s. host_in s c.key) keeps.aliases (pick side k.alias d.destination) hosts
        (λ s. known_once table s (host_in s c.key) (pick side k.alias d.destination s) (keeps.aliases s) c.until.0 e.until.0 lawful (all s)
        (known_at table s (host_in s c.key) (host_in s e.key) (keeps.aliases s) e.until.0 e.until.0 (hosts s) refl (keeps.known s))) p

    by_found : (o : Option (Connection (Tracked S))) → IfSome o (λ e. KeepsHosts table e × (is_of (key_in live.table side d) e ≡ true))
        → host_in side c.key ≡ d.source → host_in (other side) c.key ≡ (called live.table side (destination_of d)).0
        → ((s : Side) → IsKnownAs table s (host_in s c.key) (pick side k.alias d.destination s) c.until.0)
        → ((s : Side) → host_in s c.key ≡ host_in s (key_in live.table side d))
        → IfSome (option_map (stepped rules image side d) (taker_by rules table side d o))
        (λ t. IsPairOf t.client t.pair (λ s. host_in s c.key) (pick side k.alias d.destination))
    by_found None h own far all same = begins_so (begins {S = S} None d) own far
    by_found (Some e) h own far all same = goes_on e h.0 h.1 all same e.session h.0.pair

kind_hosts : {S : Type 0} (rules : SessionRules S) (live : World S) (side : Side) (moment : ℕ) (d : Datagram) (kind : Kind)
    → Passes rules live side moment d kind → IsLawful live.table → All (KeepsHosts live.table) live.connections
    → All (KeepsHosts (table_after rules live side moment d kind)) (after_kind rules live side moment d kind).connections
kind_hosts rules live side moment d (Whole payload) p lawful h =
    hosts_used live.table (uses_of rules live side moment d (Whole payload)) live.connections h
kind_hosts {S = S} rules live side moment d Stream p lawful h =
    let table = table_after rules live side moment d Stream in
    let key = key_in live.table side d in
    let until = moment + stream_timeout rules live side d in
    let image = image_in rules live side moment d in
    let later : All (KeepsHosts table) live.connections = hosts_used live.table (uses_of rules live side moment d Stream) live.connections h in
    let outside : in_pool live.table side (source_of d) ≡ false =
    none_head {test = (in_pool live.table side (source_of d), SourceInPool)}
    {more = (not (is_reachable live.table side (destination_of d)), NoBinding) ∷ []} p.address in
    let reach : not (is_reachable live.table side (destination_of d)) ≡ false =
    none_head {test = (not (is_reachable live.table side (destination_of d)), NoBinding)} {more = []}
    (none_tail {test = (in_pool live.table side (source_of d), SourceInPool)}
    {more = (not (is_reachable live.table side (destination_of d)), NoBinding) ∷ []} p.address) in
    let both : BothKnown live.table table side d.source d.destination until =
    both_known live.table side d.source d.destination until (destination_of d ∷ payload_addresses rules live side d Stream)
    (payload_uses rules live side moment until d Stream) lawful outside (not-false _ reach) p.pool in
    let lawful_later : IsLawful table = lawful_after (uses_of rules live side moment d Stream) live.table lawful in
    let found = found_is (KeepsHosts table) key live.connections later in
    let named : IfSome (found_in live side d) (λ c. is_of key c ≡ true) = only (found_in live side d) found in
    let left = left_of rules image live side moment d table (found_in live side d) refl named in
    all_changed (KeepsHosts table) live.connections (place_of key live.connections)
    (connection_after rules image live side moment d (taker_in rules live side moment d)) later
    (keeps (connection_after rules image live side moment d (taker_in rules live side moment d)) left
    (left_keeps rules image live side moment until d table (found_in live side d) lawful_later refl both found))
  where
    only : (o : Option (Connection (Tracked S)))
        → IfSome o (λ c. KeepsHosts (table_after rules live side moment d Stream) c × (is_of (key_in live.table side d) c ≡ true))
        → IfSome o (λ c. is_of (key_in live.table side d) c ≡ true)
    only None x = tt
    only (Some c) x = x.1

    keeps : (o : Option (Connection (Tracked S)))
        → IfSome o (IsLeft rules (image_in rules live side moment d) live side moment d (taker_in rules live side moment d))
        → ((c : Connection (Tracked S)) → IsLeft rules (image_in rules live side moment d) live side moment d (taker_in rules live side moment d) c
        → KeepsHosts (table_after rules live side moment d Stream) c) → IfSome o (KeepsHosts (table_after rules live side moment d Stream))
    keeps None x f = tt
    keeps (Some c) x f = f c x

-- ## Worlds

pub record KeepsAll {S : Type 0} (w : World S) : Type 0 where
  pub lawful : IsLawful w.table
  pub hosts : All (KeepsHosts w.table) w.connections

moment_hosts : {S : Type 0} (w : World S) (moment : ℕ) → KeepsAll w → KeepsAll (at_moment w moment)
moment_hosts w moment h =
    record { lawful = lawful_expired w.table (record { 0 = moment }) h.lawful; hosts = hosts_live w.table moment w.connections h.hosts }

pub table_is : {S : Type 0} (rules : SessionRules S) (live : World S) (side : Side) (moment : ℕ) (d : Datagram) (kind : Kind)
    → (after_kind rules live side moment d kind).table ≡ table_after rules live side moment d kind
table_is rules live side moment d (Whole payload) = refl
table_is rules live side moment d Stream = refl

pub next_hosts : {S : Type 0} (rules : SessionRules S) (w : World S) (e : Event) → KeepsAll w → KeepsAll (next rules w e)
next_hosts {S = S} rules w e h = by_verdict (verdict rules w e) refl (moment_hosts w e.moment h)
  where
    by_verdict : (v : Verdict) → verdict rules w e ≡ v → KeepsAll (at_moment w e.moment) → KeepsAll (next_by rules (at_moment w e.moment) e v)
    by_verdict Pass p k =
        let live = at_moment w e.moment in
        let d = datagram_in e in
        let kind = kind_of d in
        let is = table_is rules live e.side e.moment d kind in
        record {
          lawful = subst (λ (t : Bindings). IsLawful t) (sym is) (lawful_after (uses_of rules live e.side e.moment d kind) live.table k.lawful);
          hosts = subst (λ (t : Bindings). All (KeepsHosts t) (after_kind rules live e.side e.moment d kind).connections) (sym is)
              (kind_hosts rules live e.side e.moment d kind (passes rules w e p) k.lawful k.hosts);
        }
    by_verdict (Refused r) p k = k
    by_verdict Held p k = k

pub run_hosts : {S : Type 0} (rules : SessionRules S) (events : List Event) (w : World S) → KeepsAll w → KeepsAll (fold (next rules) w events)
run_hosts rules [] w h = h
run_hosts rules (e ∷ events) w h = run_hosts rules events (next rules w e) (next_hosts rules w e h)

-- an alias stays as long as its binding lasts
pub known_stays : {S : Type 0} (rules : SessionRules S) (w : World S) (e : Event) (side : Side) (host alias until : ℕ) → e.moment < until
    → IsKnownAs w.table side host alias until → IsKnownAs (next rules w e).table side host alias until
known_stays {S = S} rules w e side host alias until later h =
    by_verdict (verdict rules w e) (known_expired w.table side host alias until e.moment later h)
  where
    by_verdict : (v : Verdict) → IsKnownAs (at_moment w e.moment).table side host alias until
        → IsKnownAs (next_by rules (at_moment w e.moment) e v).table side host alias until
    by_verdict Pass k =
        let live = at_moment w e.moment in
        let d = datagram_in e in
        subst (λ (t : Bindings). IsKnownAs t side host alias until) (sym (table_is rules live e.side e.moment d (kind_of d)))
        (known_after (uses_of rules live e.side e.moment d (kind_of d)) live.table side host alias until k)
    by_verdict (Refused r) k = k
    by_verdict Held k = k
