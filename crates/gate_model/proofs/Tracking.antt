-- What each tracked session keeps.
use Rattle.std.proofs.Common.{◌≡◌, ℕ, suc, Bool, true, false, if◌then◌else◌, List, [], ◌∷◌, take, drop, All, Option, Some, None, option_map, refl, subst, option_and_then, slice_get, IfSome, nat_lt, length}
use Rattle.gate_base.specs.Prelude.{Event}
use Rattle.verdicts.specs.Prelude.{unless_refused}
use Rattle.std.specs.List.{fold, list_any}
use Rattle.std.proofs.lemmas.List.Elements.{All-get_or, All-push, All-set, All-append, All-take, All-drop, All-filter}
use Rattle.std.proofs.lemmas.Option.{slice_get_within, get_or_from_slice_get}
use Rattle.gate_base.specs.declared.address.Addr.{Addr}
use Rattle.gate_base.specs.declared.event.Pair.{Pair}
use Rattle.verdicts.specs.declared.refusal.Refusal.{Refusal}
use Rattle.verdicts.specs.declared.refusal.Refusal.TheVariants.{BadUnit, UnitUnbound, RenamesFull, UnitGrows}
use Rattle.verdicts.specs.declared.verdict.Verdict.{Verdict}
use Rattle.verdicts.specs.declared.verdict.Verdict.TheVariants.{Pass, Refused, Held}
use Rattle.gate_base.specs.declared.side.Side.{Side}
use Rattle.gate_base.specs.declared.host.Host.{Host}
use Rattle.binding_table.specs.Prelude.{Bindings}
use Rattle.dialogue.specs.Prelude.{Entry}
use Rattle.ipv4_frames.specs.Ipv4.{Datagram}
use Rattle.stream_model.specs.Prelude.{Segment}
use Rattle.tcp_tracker.specs.Prelude.{place_of, connection_of, changed, is_live, after, with_session}
use Rattle.tcp_tracker.specs.declared.connection.ConnKey.{ConnKey}
use Rattle.tcp_tracker.specs.declared.connection.Connection.{Connection}
use Rattle.gate_model.specs.Prelude.{Whole, Kind, Stream, datagram_in, kind_of, addresses_in, entered, is_bad, grows_too_much}
use Rattle.dialogue.specs.declared.TheConstants.{MOST_ENTRIES}
use Rattle.gate_model.specs.Prelude.{SessionRules, Tracked, World, at_moment, host_on, tcp_of, segment_of, key_in, found_in, begins, made_by}
use Rattle.gate_model.specs.Prelude.{taker_by, session_refusal, stepped, ends_by, connection_after, units_in, names_in, entries_in, entries_after}
use Rattle.gate_model.specs.Prelude.{is_new_unbound, unit_tests, growth_tests, table_after, image_in, verdict, taker_in, after_kind, next_by, next}
use Rattle.gate_model.specs.Prelude.{TakesSegment, EachTracked}
use Rattle.gate_model.proofs.Passing.{NoneHolds, none_head, none_tail, Passes, passes, stream_passes}

-- ## Connections that come and go

pub all_changed : {S : Type 0} (P : Connection (Tracked S) → Type 0) (all : List (Connection (Tracked S))) (place : Option ℕ)
    (c : Option (Connection (Tracked S))) → All P all → IfSome c P → All P (changed all place c)
all_changed P all None None h x = h
all_changed P all None (Some c) h x = All-push P all c h x
all_changed P all (Some i) None h x = All-append P (take i all) (drop (suc i) all) (All-take P i all h) (All-drop P (suc i) all h)
all_changed P all (Some i) (Some c) h x = All-set P all i c x h

pub all_found : {S : Type 0} (P : Connection (Tracked S) → Type 0) (key : ConnKey) (all : List (Connection (Tracked S))) → All P all
    → IfSome (connection_of key all) P
all_found {S = S} P key all h = by_place (place_of key all)
  where
    by_element : (i : ℕ) (o : Option (Connection (Tracked S))) → slice_get all i ≡ o → IfSome o P
    by_element i None e = tt
    by_element i (Some c) e = subst P (get_or_from_slice_get all i c c e) (All-get_or P all i c (slice_get_within all i c e) h)

    by_place : (o : Option ℕ) → IfSome (option_and_then (slice_get all) o) P
    by_place None = tt
    by_place (Some i) = by_element i (slice_get all i) refl

-- ## Sessions

-- the units that a segment completes hold messages, none grows too much by the list, and the list isn't too long
pub record UnitsFit (entries : List Entry) (units : List (List ℕ)) : Type 0 where
  pub good : list_any is_bad units ≡ false
  pub small : list_any (grows_too_much entries) units ≡ false
  pub few : nat_lt MOST_ENTRIES (length entries) ≡ false

-- a session has this when it is made, and keeps it while segments pass
pub record Keeps {S : Type 0} (rules : SessionRules S) (Q : Tracked S → Type 0) : Type 0 where
  pub made : (port : ℕ) (client : Side) (pair : Pair) (initial mss : ℕ)
      → Q (record { client = client; pair = pair; session = rules.made port pair initial mss })
  pub next : (image : Addr → Option Addr) (from : Host) (t : Tracked S) (g : Segment) → rules.refusal from t.session g ≡ None
      → UnitsFit (entered image (rules.listed from t.session) (addresses_in (rules.units from t.session g))) (rules.units from t.session g) → Q t
      → Q (record { client = t.client; pair = t.pair; session = rules.next image from t.session g })

taker_keeps : {S : Type 0} (rules : SessionRules S) (Q : Tracked S → Type 0) → Keeps rules Q
    → (table : Bindings) (side : Side) (d : Datagram) (found : Option (Connection (Tracked S))) → IfSome found (λ c. IfSome c.session Q)
    → IfSome (taker_by rules table side d found) Q
taker_keeps {S = S} rules Q k table side d None h = by_test (begins {S = S} None d)
  where
    by_test : (b : Bool) → IfSome (if b then Some (made_by rules table side d) else None) Q
    by_test true = k.made (tcp_of d).destination_port side (made_by rules table side d).pair (tcp_of d).sequence (tcp_of d).mss
    by_test false = tt
taker_keeps rules Q k table side d (Some c) h = h

-- no unit of a segment that passes is bad or grows
units_fit : {S : Type 0} (rules : SessionRules S) (image : Addr → Option Addr) (table : Bindings) (side : Side) (d : Datagram)
    (t : Option (Tracked S)) → NoneHolds (unit_tests rules image table side d t) → NoneHolds (growth_tests rules image side d t)
    → UnitsFit (entries_after rules image side d t) (units_in rules side d t)
units_fit rules image table side d t units growth = record {
  good = none_head {test = (list_any is_bad (units_in rules side d t), BadUnit)}
      {more = (list_any (is_new_unbound table side (entries_in rules side t)) (names_in rules side d t), UnitUnbound)
      ∷ (nat_lt MOST_ENTRIES (length (entries_after rules image side d t)), RenamesFull) ∷ []} units;
  few = none_head {test = (nat_lt MOST_ENTRIES (length (entries_after rules image side d t)), RenamesFull)} {more = []}
      (none_tail {test = (list_any (is_new_unbound table side (entries_in rules side t)) (names_in rules side d t), UnitUnbound)}
      {more = (nat_lt MOST_ENTRIES (length (entries_after rules image side d t)), RenamesFull) ∷ []}
      (none_tail {test = (list_any is_bad (units_in rules side d t), BadUnit)}
      {more = (list_any (is_new_unbound table side (entries_in rules side t)) (names_in rules side d t), UnitUnbound)
      ∷ (nat_lt MOST_ENTRIES (length (entries_after rules image side d t)), RenamesFull) ∷ []} units));
  small = none_head {test = (list_any (grows_too_much (entries_after rules image side d t)) (units_in rules side d t), UnitGrows)} {more = []} growth;
}

stepped_keeps : {S : Type 0} (rules : SessionRules S) (Q : Tracked S → Type 0) → Keeps rules Q
    → (image : Addr → Option Addr) (side : Side) (d : Datagram) (t : Option (Tracked S)) → session_refusal rules side d t ≡ None
    → UnitsFit (entries_after rules image side d t) (units_in rules side d t) → IfSome t Q → IfSome (option_map (stepped rules image side d) t) Q
stepped_keeps rules Q k image side d None e f h = tt
stepped_keeps rules Q k image side d (Some t) e f h =
    k.next image (host_on side t) t (segment_of d) e
    (subst (λ (v : Option Refusal). UnitsFit
    (entered image (rules.listed (host_on side t) t.session)
    (addresses_in (unless_refused v (rules.units (host_on side t) t.session (segment_of d)) [])))
    (unless_refused v (rules.units (host_on side t) t.session (segment_of d)) [])) e f) h

pub after_keeps : {S : Type 0} (rules : SessionRules S) (Q : Tracked S → Type 0) (image : Addr → Option Addr) (live : World S) (side : Side)
    (moment : ℕ) (d : Datagram) (t : Option (Tracked S)) → IfSome (option_map (stepped rules image side d) t) Q
    → IfSome (connection_after rules image live side moment d t) (λ c. IfSome c.session Q)
after_keeps {S = S} rules Q image live side moment d t h =
    by_test (ends_by rules side d t) (after (key_in live.table side d) side (tcp_of d).flags t (record { 0 = moment }) (found_in live side d))
  where
    by_test : (b : Bool) (o : Option (Connection (Tracked S)))
        → IfSome (if b then None else option_map (with_session (option_map (stepped rules image side d) t)) o) (λ c. IfSome c.session Q)
    by_test true o = tt
    by_test false None = tt
    by_test false (Some c) = h

kind_keeps : {S : Type 0} (rules : SessionRules S) (Q : Tracked S → Type 0) → Keeps rules Q
    → (live : World S) (side : Side) (moment : ℕ) (d : Datagram) (kind : Kind) → Passes rules live side moment d kind → EachTracked Q live.connections
    → EachTracked Q (after_kind rules live side moment d kind).connections
kind_keeps rules Q k live side moment d (Whole payload) p h = h
kind_keeps {S = S} rules Q k live side moment d Stream p h =
    let P : Connection (Tracked S) → Type 0 = λ c. IfSome c.session Q in
    let key = key_in live.table side d in
    let taker = taker_in rules live side moment d in
    let taken =
    taker_keeps rules Q k (table_after rules live side moment d Stream) side d (found_in live side d) (all_found P key live.connections h) in
    let image = image_in rules live side moment d in
    let s = stream_passes rules live side moment d p.content in
    all_changed P live.connections (place_of key live.connections) (connection_after rules image live side moment d taker) h
    (after_keeps rules Q image live side moment d taker
    (stepped_keeps rules Q k image side d taker s.taken (units_fit rules image live.table side d taker s.units p.late) taken))

pub next_keeps : {S : Type 0} (rules : SessionRules S) (Q : Tracked S → Type 0) → Keeps rules Q → (w : World S) (e : Event)
    → EachTracked Q w.connections → EachTracked Q (next rules w e).connections
next_keeps {S = S} rules Q k w e h = by_verdict (verdict rules w e) refl
  where
    by_verdict : (v : Verdict) → verdict rules w e ≡ v → EachTracked Q (next_by rules (at_moment w e.moment) e v).connections
    by_verdict Pass p =
        kind_keeps rules Q k (at_moment w e.moment) e.side e.moment (datagram_in e) (kind_of (datagram_in e)) (passes rules w e p)
        (All-filter (is_live (record { 0 = e.moment })) (λ c. IfSome c.session Q) w.connections h)
    by_verdict (Refused r) p = All-filter (is_live (record { 0 = e.moment })) (λ c. IfSome c.session Q) w.connections h
    by_verdict Held p = All-filter (is_live (record { 0 = e.moment })) (λ c. IfSome c.session Q) w.connections h

pub run_keeps : {S : Type 0} (rules : SessionRules S) (Q : Tracked S → Type 0) → Keeps rules Q → (events : List Event) (w : World S)
    → EachTracked Q w.connections → EachTracked Q (fold (next rules) w events).connections
run_keeps rules Q k [] w h = h
run_keeps rules Q k (e ∷ events) w h = run_keeps rules Q k events (next rules w e) (next_keeps rules Q k w e h)

-- so has one that has taken a segment, also where it ends with that
pub taken_keeps : {S : Type 0} (rules : SessionRules S) (Q : Tracked S → Type 0) → Keeps rules Q → (w : World S) (e : Event) (t : Tracked S)
    → TakesSegment rules w e t → EachTracked Q w.connections → Q
    (stepped rules (image_in rules (at_moment w e.moment) e.side e.moment (datagram_in e)) e.side (datagram_in e) t)
taken_keeps {S = S} rules Q k w e t takes h =
    let live = at_moment w e.moment in
    let d = datagram_in e in
    let image = image_in rules live e.side e.moment d in
    let P : Connection (Tracked S) → Type 0 = λ c. IfSome c.session Q in
    let found = all_found P (key_in live.table e.side d) live.connections (All-filter (is_live (record { 0 = e.moment })) P w.connections h) in
    let taker = taker_keeps rules Q k (table_after rules live e.side e.moment d Stream) e.side d (found_in live e.side d) found in
    let through : Passes rules live e.side e.moment d Stream =
    subst (Passes rules live e.side e.moment d) takes.stream (passes rules w e takes.passes) in
    let s = stream_passes rules live e.side e.moment d through.content in
    let fit = units_fit rules image live.table e.side d (taker_in rules live e.side e.moment d) s.units through.late in
    let kept = stepped_keeps rules Q k image e.side d (taker_in rules live e.side e.moment d) s.taken fit taker in
    subst (λ (o : Option (Tracked S)). IfSome (option_map (stepped rules image e.side d) o) Q) takes.taker kept

-- a session that takes a segment has it before, and doesn't refuse the segment
pub taken_before : {S : Type 0} (rules : SessionRules S) (Q : Tracked S → Type 0) → Keeps rules Q → (w : World S) (e : Event) (t : Tracked S)
    → TakesSegment rules w e t → EachTracked Q w.connections → Q t × (rules.refusal (host_on e.side t) t.session (segment_of (datagram_in e)) ≡ None)
taken_before {S = S} rules Q k w e t takes h =
    let live = at_moment w e.moment in
    let d = datagram_in e in
    let P : Connection (Tracked S) → Type 0 = λ c. IfSome c.session Q in
    let found = all_found P (key_in live.table e.side d) live.connections (All-filter (is_live (record { 0 = e.moment })) P w.connections h) in
    let taker = taker_keeps rules Q k (table_after rules live e.side e.moment d Stream) e.side d (found_in live e.side d) found in
    let through : Passes rules live e.side e.moment d Stream =
    subst (Passes rules live e.side e.moment d) takes.stream (passes rules w e takes.passes) in
    let s = stream_passes rules live e.side e.moment d through.content in (
      subst (λ (o : Option (Tracked S)). IfSome o Q) takes.taker taker,
      subst (λ (o : Option (Tracked S)). session_refusal rules e.side d o ≡ None) takes.taker s.taken,
    )
