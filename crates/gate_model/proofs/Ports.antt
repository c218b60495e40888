-- A session is of a connection to a port at which connections are tracked.
use Rattle.std.proofs.Common.{◌≡◌, ℕ, Bool, true, false, ◌&&◌, ◌||◌, ◌==◌, if◌then◌else◌, List, [], ◌∷◌, All, Option, Some, None, option_map, IfSome, refl, sym, ◌∙◌, ap, subst, fold}
use Rattle.std.proofs.lemmas.Bool.{and_parts, or_left, or_right, eqb-true, true≢false}
use Rattle.std.proofs.lemmas.List.Elements.{All-nil, All-filter}
use Rattle.gate_base.specs.Prelude.{Event}
use Rattle.gate_base.specs.declared.address.Addr.{Addr}
use Rattle.verdicts.specs.declared.verdict.Verdict.{Verdict}
use Rattle.verdicts.specs.declared.verdict.Verdict.TheVariants.{Pass, Refused, Held}
use Rattle.gate_base.specs.declared.side.Side.{Side}
use Rattle.gate_base.specs.declared.side.Side.TheVariants.{Left, Right}
use Rattle.gate_settings.specs.declared.settings.Settings.{Settings}
use Rattle.binding_table.specs.Prelude.{Bindings}
use Rattle.ipv4_frames.specs.Ipv4.{Datagram}
use Rattle.tcp_tracker.specs.Prelude.{is_of, is_live, place_of}
use Rattle.tcp_tracker.specs.declared.connection.ConnKey.{ConnKey}
use Rattle.tcp_tracker.specs.declared.connection.Connection.{Connection}
use Rattle.gate_model.specs.Prelude.{Whole, SessionRules, Kind, Stream, Tracked, World, at_moment, opening_world, called, destination_of, datagram_in}
use Rattle.gate_model.specs.Prelude.{kind_of, tcp_of, is_tracked_port, is_opening, begins, made_by, taker_by, taker_in, key_of, key_in, found_in}
use Rattle.gate_model.specs.Prelude.{session_in, stepped, connection_after, image_in, table_after, verdict, after_kind, next_by, next}
use Rattle.gate_model.specs.Stream.{has_tracked_port}
use Rattle.gate_model.specs.Transparent.{IsUntracked}
use Rattle.gate_model.proofs.HostsKept.{found_is, left_of, IsLeft}
use Rattle.gate_model.proofs.Tracking.{all_changed}

-- one of both ports of a connection is such a port
abbrev pub is_tracked_key : ConnKey → Bool
is_tracked_key key = is_tracked_port key.left_port || is_tracked_port key.right_port

abbrev pub HasTrackedPort : {S : Type 0} → Connection (Tracked S) → Type 0
HasTrackedPort c = IfSome c.session (λ t. is_tracked_key c.key ≡ true)

same_ports : {S : Type 0} (key : ConnKey) (c : Connection (Tracked S)) → is_of key c ≡ true → is_tracked_key c.key ≡ is_tracked_key key
same_ports key c h =
    let rights = and_parts ((c.key.left.0 == key.left.0 && c.key.left_port == key.left_port) && c.key.right.0 == key.right.0)
    (c.key.right_port == key.right_port) h in
    let lefts = and_parts (c.key.left.0 == key.left.0 && c.key.left_port == key.left_port) (c.key.right.0 == key.right.0) rights.0 in
    let left = and_parts (c.key.left.0 == key.left.0) (c.key.left_port == key.left_port) lefts.0 in
    ap (λ (n : ℕ). is_tracked_port n || is_tracked_port c.key.right_port) (eqb-true c.key.left_port key.left_port left.1)
    ∙ ap (λ (n : ℕ). is_tracked_port key.left_port || is_tracked_port n) (eqb-true c.key.right_port key.right_port rights.1)

key_tracked : (side : Side) (d : Datagram) (table_key : ConnKey) (own far : ℕ) → is_tracked_port (tcp_of d).destination_port ≡ true
    → is_tracked_key (key_of side (record { 0 = own }) (tcp_of d).source_port (record { 0 = far }) (tcp_of d).destination_port) ≡ true
key_tracked Left d table_key own far h = or_right (is_tracked_port (tcp_of d).source_port) (is_tracked_port (tcp_of d).destination_port) h
key_tracked Right d table_key own far h = or_left (is_tracked_port (tcp_of d).destination_port) (is_tracked_port (tcp_of d).source_port) h

-- a session that takes a segment is of such a connection
taker_tracked : {S : Type 0} (rules : SessionRules S) (live : World S) (side : Side) (d : Datagram) (table : Bindings)
    (found : Option (Connection (Tracked S))) → IfSome found (λ c. HasTrackedPort c × (is_of (key_in live.table side d) c ≡ true))
    → IfSome (taker_by rules table side d found) (λ t. is_tracked_key (key_in live.table side d) ≡ true)
taker_tracked {S = S} rules live side d table None h = by_begins (begins {S = S} None d) refl
  where
    by_begins : (b : Bool) → begins {S = S} None d ≡ b → IfSome (if b then Some (made_by rules table side d) else None)
        (λ t. is_tracked_key (key_in live.table side d) ≡ true)
    by_begins true e = key_tracked side d (key_in live.table side d) d.source (called live.table side (destination_of d)).0
        (and_parts (is_opening (tcp_of d).flags) (is_tracked_port (tcp_of d).destination_port) e).1
    by_begins false e = tt
taker_tracked {S = S} rules live side d table (Some c) h = by_session c.session h.0
  where
    by_session : (o : Option (Tracked S)) → IfSome o (λ t. is_tracked_key c.key ≡ true)
        → IfSome o (λ t. is_tracked_key (key_in live.table side d) ≡ true)
    by_session None k = tt
    by_session (Some t) k = sym (same_ports (key_in live.table side d) c h.1) ∙ k

left_tracked : {S : Type 0} (rules : SessionRules S) (image : Addr → Option Addr) (live : World S) (side : Side) (moment : ℕ) (d : Datagram)
    (taker : Option (Tracked S)) (o : Option (Connection (Tracked S)))
    → IfSome taker (λ t. is_tracked_key (key_in live.table side d) ≡ true) → IfSome o (IsLeft rules image live side moment d taker)
    → IfSome o HasTrackedPort
left_tracked rules image live side moment d taker None k left = tt
left_tracked {S = S} rules image live side moment d taker (Some c) k left =
    subst (λ (x : Option (Tracked S)). IfSome x (λ t. is_tracked_key c.key ≡ true)) (sym left.session) (by_taker taker k)
  where
    by_taker : (x : Option (Tracked S)) → IfSome x (λ t. is_tracked_key (key_in live.table side d) ≡ true)
        → IfSome (option_map (stepped rules image side d) x) (λ t. is_tracked_key c.key ≡ true)
    by_taker None h = tt
    by_taker (Some t) h = same_ports (key_in live.table side d) c left.named ∙ h

kind_tracked : {S : Type 0} (rules : SessionRules S) (live : World S) (side : Side) (moment : ℕ) (d : Datagram) (kind : Kind)
    → All HasTrackedPort live.connections → All HasTrackedPort (after_kind rules live side moment d kind).connections
kind_tracked rules live side moment d (Whole payload) h = h
kind_tracked {S = S} rules live side moment d Stream h =
    let key = key_in live.table side d in
    let table = table_after rules live side moment d Stream in
    let found = found_is HasTrackedPort key live.connections h in
    let taker = taker_tracked rules live side d table (found_in live side d) found in
    let left = left_of rules (image_in rules live side moment d) live side moment d table (found_in live side d) refl
    (only (found_in live side d) found) in
    all_changed HasTrackedPort live.connections (place_of key live.connections)
    (connection_after rules (image_in rules live side moment d) live side moment d (taker_in rules live side moment d)) h
    (left_tracked rules (image_in rules live side moment d) live side moment d (taker_in rules live side moment d)
    (connection_after rules (image_in rules live side moment d) live side moment d (taker_in rules live side moment d)) taker left)
  where
    only : (o : Option (Connection (Tracked S))) → IfSome o (λ c. HasTrackedPort c × (is_of (key_in live.table side d) c ≡ true))
        → IfSome o (λ c. is_of (key_in live.table side d) c ≡ true)
    only None x = tt
    only (Some c) x = x.1

next_tracked : {S : Type 0} (rules : SessionRules S) (w : World S) (e : Event) → All HasTrackedPort w.connections
    → All HasTrackedPort (next rules w e).connections
next_tracked {S = S} rules w e h = by_verdict (verdict rules w e) (All-filter (is_live (record { 0 = e.moment })) HasTrackedPort w.connections h)
  where
    by_verdict : (v : Verdict) → All HasTrackedPort (at_moment w e.moment).connections
        → All HasTrackedPort (next_by rules (at_moment w e.moment) e v).connections
    by_verdict Pass k = kind_tracked rules (at_moment w e.moment) e.side e.moment (datagram_in e) (kind_of (datagram_in e)) k
    by_verdict (Refused r) k = k
    by_verdict Held k = k

run_tracked : {S : Type 0} (rules : SessionRules S) (events : List Event) (w : World S) → All HasTrackedPort w.connections
    → All HasTrackedPort (fold (next rules) w events).connections
run_tracked rules [] w h = h
run_tracked rules (e ∷ events) w h = run_tracked rules events (next rules w e) (next_tracked rules w e h)

-- so a segment of other ports is of no session
pub untracked : {S : Type 0} (rules : SessionRules S) (settings : Settings) (events : List Event) (r : Event)
    → kind_of (datagram_in r) ≡ Stream → has_tracked_port (datagram_in r) ≡ false → IsUntracked (fold (next rules) (opening_world settings) events) r
untracked {S = S} rules settings events r kind ports = record { kind = kind; ports = ports; session = by_found (found_in live r.side d) found }
  where
    live : World S
    live = at_moment (fold (next rules) (opening_world settings) events) r.moment

    d : Datagram
    d = datagram_in r

    all : All HasTrackedPort (fold (next rules) (opening_world settings) events).connections
    all = run_tracked rules events (opening_world settings) (All-nil (λ (c : Connection (Tracked S)). HasTrackedPort c))

    found : IfSome (found_in (at_moment (fold (next rules) (opening_world settings) events) r.moment) r.side (datagram_in r))
        (λ c. HasTrackedPort c × (is_of (key_in (at_moment (fold (next rules) (opening_world settings) events) r.moment).table r.side
        (datagram_in r)) c ≡ true))
    found =
        found_is HasTrackedPort (key_in live.table r.side d) live.connections
        (All-filter (is_live (record { 0 = r.moment })) HasTrackedPort (fold (next rules) (opening_world settings) events).connections all)

    key_untracked : (side : Side) (own far : ℕ) → is_tracked_key
        (key_of side (record { 0 = own }) (tcp_of d).source_port (record { 0 = far }) (tcp_of d).destination_port) ≡ false
    key_untracked Left own far = ports
    key_untracked Right own far = by_ports (is_tracked_port (tcp_of d).source_port) (is_tracked_port (tcp_of d).destination_port) ports
      where
        by_ports : (a b : Bool) → (a || b) ≡ false → (b || a) ≡ false
        by_ports true b e = absurd (true≢false e)
        by_ports false true e = absurd (true≢false e)
        by_ports false false e = refl

    by_found : (o : Option (Connection (Tracked S))) → IfSome o
        (λ c. HasTrackedPort c × (is_of (key_in (at_moment (fold (next rules) (opening_world settings) events) r.moment).table r.side
        (datagram_in r)) c ≡ true)) → session_in o ≡ None
    by_found None h = refl
    by_found (Some c) h = by_session c.session refl h.0
      where
        by_session : (o : Option (Tracked S)) → c.session ≡ o → IfSome o (λ t. is_tracked_key c.key ≡ true) → o ≡ None
        by_session None e k = refl
        by_session (Some t) e k = absurd (true≢false (sym k ∙ same_ports (key_in live.table r.side d) c h.1
            ∙ key_untracked r.side d.source (called live.table r.side (destination_of d)).0))
