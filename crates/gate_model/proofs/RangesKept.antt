-- The most connections and sessions are never passed.
use Rattle.std.proofs.Common.{◌≡◌, ◌≤◌, ◌<◌, ℕ, zero, suc, Bool, true, false, not, ◌&&◌, ◌||◌, nat_le, if◌then◌else◌, cond, List, [], ◌∷◌, ◌++◌}
use Rattle.std.proofs.Common.{length, set, Option, Some, None, option_map, is_some, count_by, refl, sym, ◌∙◌, ap, subst, arith, option_and_then}
use Rattle.std.proofs.Common.{slice_get, IfSome, filter, fold, remove, leb-false}
use Rattle.std.proofs.lemmas.List.{length-set, length_push, length-append}
use Rattle.std.proofs.lemmas.List.Sums.{length-filter, count_by-le-length}
use Rattle.std.proofs.lemmas.List.Elements.{filter-append}
use Rattle.gate_base.specs.Prelude.{Event}
use Rattle.gate_base.specs.declared.address.Addr.{Addr}
use Rattle.verdicts.specs.declared.verdict.Verdict.{Verdict}
use Rattle.verdicts.specs.declared.verdict.Verdict.TheVariants.{Pass, Refused, Held}
use Rattle.gate_base.specs.declared.side.Side.{Side}
use Rattle.gate_base.proofs.Options.{some_mapped}
use Rattle.ipv4_frames.specs.Ipv4.{Datagram}
use Rattle.tcp_segments.specs.Prelude.{flags_of}
use Rattle.tcp_tracker.specs.Prelude.{is_of, is_tracked, is_live, place_of, changed, kept_or_begun, held, with_flags, after, live, with_session}
use Rattle.tcp_tracker.specs.declared.connection.Connection.{Connection}
use Rattle.tcp_tracker.proofs.Joining.{place_within, none_past}
use Rattle.tcp_tracker.specs.declared.tracker.TheConstants.{MOST_CONNECTIONS}
use Rattle.tcp_tracker.specs.declared.table.TheConstants.{MOST_SESSIONS}
use Rattle.gate_model.specs.Prelude.{Whole, Kind, Stream, datagram_in, kind_of, SessionRules, Tracked, World, at_moment}
use Rattle.gate_model.specs.Prelude.{tcp_of, key_in, found_in, begins, made_by, taker_by, stepped, ends_by, is_full}
use Rattle.gate_model.specs.Prelude.{connection_after, table_after, image_in, verdict, taker_in, after_kind, next_by, next}
use Rattle.gate_model.specs.Ranges.{InRange}
use Rattle.gate_model.proofs.Passing.{Passes, passes, StreamPasses, stream_passes}
use Rattle.gate_model.proofs.HostsKept.{begun_is}

-- how many pass a test, as a length
abbrev many : {A : Type 0} → (A → Bool) → List A → ℕ
many q xs = length (filter q xs)

few_filtered : {A : Type 0} (q p : A → Bool) (xs : List A) → many q (filter p xs) ≤ many q xs
few_filtered q p [] = omega arith
few_filtered {A = A} q p (x ∷ xs) = by_tests (p x) (q x) (few_filtered q p xs) refl
  where
    by_tests : (b c : Bool) → many q (filter p xs) ≤ many q xs → q x ≡ c
        → many q (cond b (x ∷ filter p xs) (filter p xs)) ≤ length (cond c (x ∷ filter q xs) (filter q xs))
    by_tests true true le e = rw e (omega arith)
    by_tests true false le e = rw e le
    by_tests false true le e = omega arith
    by_tests false false le e = le

few_removed : {A : Type 0} (q : A → Bool) (xs : List A) (i : ℕ) → many q (remove xs i) ≤ many q xs
few_removed q [] zero = omega arith
few_removed q [] (suc i) = omega arith
few_removed {A = A} q (x ∷ xs) zero = by_test (q x)
  where
    by_test : (c : Bool) → many q xs ≤ length (cond c (x ∷ filter q xs) (filter q xs))
    by_test true = omega arith
    by_test false = omega arith
few_removed {A = A} q (x ∷ xs) (suc i) = by_test (q x) (few_removed q xs i)
  where
    by_test : (c : Bool) → many q (remove xs i) ≤ many q xs
        → length (cond c (x ∷ filter q (remove xs i)) (filter q (remove xs i))) ≤ length (cond c (x ∷ filter q xs) (filter q xs))
    by_test true le = omega arith
    by_test false le = le

few_set : {A : Type 0} (q : A → Bool) (xs : List A) (i : ℕ) (x y : A) → slice_get xs i ≡ Some x → q y ≡ q x → many q (set xs i y) ≡ many q xs
few_set q [] i x y e s = cc
few_set {A = A} q (z ∷ xs) zero x y e s =
    let same : z ≡ x = cc in
    ap (λ (b : Bool). length (cond b (y ∷ filter q xs) (filter q xs))) (s ∙ ap q (sym same)) ∙ by_head (q z)
  where
    by_head : (b : Bool) → length (cond b (y ∷ filter q xs) (filter q xs)) ≡ length (cond b (z ∷ filter q xs) (filter q xs))
    by_head true = refl
    by_head false = refl
few_set {A = A} q (z ∷ xs) (suc i) x y e s = by_test (q z) (few_set q xs i x y e s)
  where
    by_test : (c : Bool) → many q (set xs i y) ≡ many q xs
        → length (cond c (z ∷ filter q (set xs i y)) (filter q (set xs i y))) ≡ length (cond c (z ∷ filter q xs) (filter q xs))
    by_test true e = ap suc e
    by_test false e = e

few_kept : {A : Type 0} (xs : List A) (i : ℕ) → length (remove xs i) ≤ length xs
few_kept [] zero = omega arith
few_kept [] (suc i) = omega arith
few_kept (x ∷ xs) zero = omega arith
few_kept (x ∷ xs) (suc i) = let le : length (remove xs i) ≤ length xs = few_kept xs i in omega arith

few_long : {A : Type 0} (p : A → Bool) (xs : List A) → length (filter p xs) ≤ length xs
few_long p xs = omega (arith, length-filter p xs, count_by-le-length p xs)

-- ## A segment

-- what is left has a session where one takes the segment
session_left : {S : Type 0} (rules : SessionRules S) (image : Addr → Option Addr) (live : World S) (side : Side) (moment : ℕ) (d : Datagram)
    (taker : Option (Tracked S)) → IfSome (connection_after rules image live side moment d taker) (λ c. is_tracked c ≡ is_some taker)
session_left {S = S} rules image live side moment d taker =
    by_cases (ends_by rules side d taker)
    (after (key_in live.table side d) side (tcp_of d).flags taker (record { 0 = moment }) (found_in live side d))
  where
    by_cases : (b : Bool) (o : Option (Connection (Tracked S)))
        → IfSome (if b then None else option_map (with_session (option_map (stepped rules image side d) taker)) o) (λ c. is_tracked c ≡ is_some taker)
    by_cases true o = tt
    by_cases false None = tt
    by_cases false (Some c) = some_mapped (stepped rules image side d) taker

-- a connection that begins does so without RST
begins_plain : {S : Type 0} (rules : SessionRules S) (image : Addr → Option Addr) (live : World S) (side : Side) (moment : ℕ) (d : Datagram)
    (taker : Option (Tracked S)) → found_in live side d ≡ None → IfSome (connection_after rules image live side moment d taker)
    (λ c. (flags_of (tcp_of d).flags).reset ≡ false)
begins_plain {S = S} rules image live side moment d taker none =
    subst (λ (f : Option (Connection (Tracked S))). IfSome
    (if ends_by rules side d taker then None else option_map (with_session (option_map (stepped rules image side d) taker))
    (after (key_in live.table side d) side (tcp_of d).flags taker (record { 0 = moment }) f)) (λ c. (flags_of (tcp_of d).flags).reset ≡ false))
    (sym none)
    (by_cases (ends_by rules side d taker) (kept_or_begun (key_in live.table side d) (tcp_of d).flags taker None) refl)
  where
    by_cases : (b : Bool) (o : Option (Connection (Tracked S))) → kept_or_begun (key_in live.table side d) (tcp_of d).flags taker None ≡ o
        → IfSome
        (if b then None else option_map (with_session (option_map (stepped rules image side d) taker))
        (option_map (λ c. held (record { 0 = moment }) (with_flags side (tcp_of d).flags c)) o)) (λ c. (flags_of (tcp_of d).flags).reset ≡ false)
    by_cases true o e = tt
    by_cases false None e = tt
    by_cases false (Some k) e = (begun_is (key_in live.table side d) (tcp_of d).flags taker k e).1

-- there is room for a connection, and for a session where one begins
room : {S : Type 0} (all : List (Connection (Tracked S))) (d : Datagram) → is_full {S = S} all None d ≡ false
    → (flags_of (tcp_of d).flags).reset ≡ false → (length all < MOST_CONNECTIONS)
    × (begins {S = S} None d ≡ true → count_by is_tracked all < MOST_SESSIONS)
room {S = S} all d full plain =
    by_tests (flags_of (tcp_of d).flags).reset (nat_le MOST_CONNECTIONS (length all)) (begins {S = S} None d)
    (nat_le MOST_SESSIONS (count_by is_tracked all)) plain refl refl full
  where
    by_tests : (r n b m : Bool) → r ≡ false → nat_le MOST_CONNECTIONS (length all) ≡ n → nat_le MOST_SESSIONS (count_by is_tracked all) ≡ m
        → (not r && n || (b && m)) ≡ false → (length all < MOST_CONNECTIONS) × (b ≡ true → count_by is_tracked all < MOST_SESSIONS)
    by_tests true n b m p e f q = absurd (cc)
    by_tests false true b m p e f q = absurd (cc)
    by_tests false false true true p e f q = absurd (cc)
    by_tests false false true false p e f q =
        (omega (arith, leb-false MOST_CONNECTIONS (length all) e), λ t. omega (arith, leb-false MOST_SESSIONS (count_by is_tracked all) f))
    by_tests false false false m p e f q = (omega (arith, leb-false MOST_CONNECTIONS (length all) e), λ t. absurd (cc))

-- what fits
pub record Fits {S : Type 0} (xs : List (Connection (Tracked S))) : Type 0 where
  pub connections : length xs ≤ MOST_CONNECTIONS
  pub sessions : many is_tracked xs ≤ MOST_SESSIONS

-- a new connection, with or without a session
fits_more : {S : Type 0} (all : List (Connection (Tracked S))) (c : Connection (Tracked S)) → Fits all → length all < MOST_CONNECTIONS
    → (is_tracked c ≡ true → many is_tracked all < MOST_SESSIONS) → Fits (all ++ c ∷ [])
fits_more {S = S} all c f long room = record {
  connections = omega (arith, length_push all c);
  sessions = rw filter-append (by_test (is_tracked c) room);
}
  where
    by_test : (b : Bool) → (b ≡ true → many is_tracked all < MOST_SESSIONS) → length (filter is_tracked all ++ cond b (c ∷ []) []) ≤ MOST_SESSIONS
    by_test true r = let less : many is_tracked all < MOST_SESSIONS = r refl in omega (arith, length_push (filter is_tracked all) c)
    by_test false r = omega (arith, length-append (filter is_tracked all) [], f.sessions)

fits_changed : {S : Type 0} (all : List (Connection (Tracked S))) (place : Option ℕ) (c : Option (Connection (Tracked S))) → Fits all
    → (place ≡ None → IfSome c (λ x. (length all < MOST_CONNECTIONS) × (is_tracked x ≡ true → many is_tracked all < MOST_SESSIONS)))
    → ((i : ℕ) → place ≡ Some i → (old : Connection (Tracked S)) × (slice_get all i ≡ Some old) × IfSome c (λ x. is_tracked x ≡ is_tracked old))
    → Fits (changed all place c)
fits_changed all None None f new old = f
fits_changed all None (Some c) f new old = let r = new refl in fits_more all c f r.0 r.1
fits_changed all (Some i) None f new old =
    record { connections = omega (arith, few_kept all i, f.connections); sessions = omega (arith, few_removed is_tracked all i, f.sessions) }
fits_changed all (Some i) (Some c) f new old =
    let o = old i refl in
    record {
      connections = omega (arith, length-set all i c, f.connections);
      sessions =
          omega (arith, few_set is_tracked all i o.0 c o.1 o.2, f.sessions);
    }

stream_fits : {S : Type 0} (rules : SessionRules S) (live : World S) (side : Side) (moment : ℕ) (d : Datagram) → StreamPasses rules live side moment d
    → Fits live.connections → Fits (after_kind rules live side moment d Stream).connections
stream_fits {S = S} rules live side moment d p f =
    fits_changed live.connections (place_of (key_in live.table side d) live.connections)
    (connection_after rules (image_in rules live side moment d) live side moment d (taker_in rules live side moment d)) f new old
  where
    counted : count_by is_tracked live.connections ≡ many is_tracked live.connections
    counted = sym (length-filter is_tracked live.connections)

    found_none : place_of (key_in live.table side d) live.connections ≡ None → found_in live side d ≡ None
    found_none e = ap (option_and_then (slice_get live.connections)) e

    begun : found_in live side d ≡ None → is_some (taker_in rules live side moment d) ≡ begins {S = S} None d
    begun none = ap (λ (o : Option (Connection (Tracked S))). is_some (taker_by rules (table_after rules live side moment d Stream) side d o)) none
        ∙ by_test (begins {S = S} None d)
      where
        by_test : (b : Bool) → is_some (if b then Some (made_by rules (table_after rules live side moment d Stream) side d) else None) ≡ b
        by_test true = refl
        by_test false = refl

    both : (o : Option (Connection (Tracked S))) → found_in live side d ≡ None → IfSome o (λ c. (flags_of (tcp_of d).flags).reset ≡ false)
        → IfSome o (λ c. is_tracked c ≡ is_some (taker_in rules live side moment d))
        → IfSome o (λ x. (length live.connections < MOST_CONNECTIONS) × (is_tracked x ≡ true → many is_tracked live.connections < MOST_SESSIONS))
    both None none a b = tt
    both (Some c) none a b =
        let full : is_full {S = S} live.connections None d ≡ false =
        ap (λ (o : Option (Connection (Tracked S))). is_full live.connections o d) (sym none) ∙ p.full in
        let r = room live.connections d full a in
        (r.0, λ t. let less : count_by is_tracked live.connections < MOST_SESSIONS = r.1 (sym (begun none) ∙ sym b ∙ t) in omega (arith, counted))

    new : place_of (key_in live.table side d) live.connections ≡ None
        → IfSome (connection_after rules (image_in rules live side moment d) live side moment d (taker_in rules live side moment d))
        (λ x. (length live.connections < MOST_CONNECTIONS) × (is_tracked x ≡ true → many is_tracked live.connections < MOST_SESSIONS))
    new e = both (connection_after rules (image_in rules live side moment d) live side moment d (taker_in rules live side moment d)) (found_none e)
        (begins_plain rules (image_in rules live side moment d) live side moment d (taker_in rules live side moment d) (found_none e))
        (session_left rules (image_in rules live side moment d) live side moment d (taker_in rules live side moment d))

    joined : (c : Connection (Tracked S)) → is_some (taker_in rules live side moment d) ≡ is_tracked c → (o : Option (Connection (Tracked S)))
        → IfSome o (λ x. is_tracked x ≡ is_some (taker_in rules live side moment d)) → IfSome o (λ x. is_tracked x ≡ is_tracked c)
    joined c taker None h = tt
    joined c taker (Some x) h = h ∙ taker

    at : (i : ℕ) (o : Option (Connection (Tracked S))) → slice_get live.connections i ≡ o → place_of (key_in live.table side d) live.connections
        ≡ Some i → (old : Connection (Tracked S)) × (slice_get live.connections i ≡ Some old)
        × IfSome (connection_after rules (image_in rules live side moment d) live side moment d (taker_in rules live side moment d))
        (λ x. is_tracked x ≡ is_tracked old)
    at i None e h = absurd (omega (arith, place_within (is_of (key_in live.table side d)) live.connections i h, none_past live.connections i e))
    at i (Some c) e h =
        let found : found_in live side d ≡ Some c = ap (option_and_then (slice_get live.connections)) h ∙ e in
        let taker : is_some (taker_in rules live side moment d) ≡ is_tracked c =
        ap (λ (o : Option (Connection (Tracked S))). is_some (taker_by rules (table_after rules live side moment d Stream) side d o)) found in (
          c,
          e,
          joined c taker (connection_after rules (image_in rules live side moment d) live side moment d (taker_in rules live side moment d))
              (session_left rules (image_in rules live side moment d) live side moment d (taker_in rules live side moment d)),
        )

    old : (i : ℕ) → place_of (key_in live.table side d) live.connections ≡ Some i → (old : Connection (Tracked S))
        × (slice_get live.connections i ≡ Some old)
        × IfSome (connection_after rules (image_in rules live side moment d) live side moment d (taker_in rules live side moment d))
        (λ x. is_tracked x ≡ is_tracked old)
    old i h = at i (slice_get live.connections i) refl h

-- ## Worlds

fits_live : {S : Type 0} (now : ℕ) (all : List (Connection (Tracked S))) → Fits all → Fits (live (record { 0 = now }) all)
fits_live now all f = record {
  connections = omega (arith, few_long (is_live (record { 0 = now })) all, f.connections);
  sessions = omega (arith, few_filtered is_tracked (is_live (record { 0 = now })) all, f.sessions);
}

kind_fits : {S : Type 0} (rules : SessionRules S) (live : World S) (side : Side) (moment : ℕ) (d : Datagram) (kind : Kind)
    → Passes rules live side moment d kind → Fits live.connections → Fits (after_kind rules live side moment d kind).connections
kind_fits rules live side moment d (Whole payload) p f = f
kind_fits rules live side moment d Stream p f = stream_fits rules live side moment d (stream_passes rules live side moment d p.content) f

next_fits : {S : Type 0} (rules : SessionRules S) (w : World S) (e : Event) → Fits w.connections → Fits (next rules w e).connections
next_fits {S = S} rules w e f = by_verdict (verdict rules w e) refl (fits_live e.moment w.connections f)
  where
    by_verdict : (v : Verdict) → verdict rules w e ≡ v → Fits (at_moment w e.moment).connections
        → Fits (next_by rules (at_moment w e.moment) e v).connections
    by_verdict Pass p f = kind_fits rules (at_moment w e.moment) e.side e.moment (datagram_in e) (kind_of (datagram_in e)) (passes rules w e p) f
    by_verdict (Refused r) p f = f
    by_verdict Held p f = f

fits_is : {S : Type 0} (w : World S) → InRange w → Fits w.connections
fits_is w r = record { connections = r.connections; sessions = omega (arith, length-filter is_tracked w.connections, r.sessions) }

range_is : {S : Type 0} (w : World S) → Fits w.connections → InRange w
range_is w f = record { connections = f.connections; sessions = omega (arith, length-filter is_tracked w.connections, f.sessions) }

pub next_range : {S : Type 0} (rules : SessionRules S) (w : World S) (e : Event) → InRange w → InRange (next rules w e)
next_range rules w e r = range_is (next rules w e) (next_fits rules w e (fits_is w r))

pub run_range : {S : Type 0} (rules : SessionRules S) (events : List Event) (w : World S) → InRange w → InRange (fold (next rules) w events)
run_range rules [] w r = r
run_range rules (e ∷ events) w r = run_range rules events (next rules w e) (next_range rules w e r)
