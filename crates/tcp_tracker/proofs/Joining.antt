-- Connections with their sessions inline.
use Rattle.std.proofs.Common.{◌≡◌, ◌≢◌, ◌≤◌, ◌<◌, ℕ, zero, suc, ◌+◌, Bool, true, false, not, ◌&&◌, ◌||◌, cond, nat_lt, if◌then◌else◌, List, [], ◌∷◌}
use Rattle.std.proofs.Common.{◌++◌, length, take, drop, set, get_or, All, AllPairs, position, Option, Some, None, option_map, is_some, refl, sym, ◌∙◌}
use Rattle.std.proofs.Common.{ap, subst, arith, option_and_then, slice_get, IfSome, IsSome, option_to_list}
use Rattle.std.specs.List.{filter, remove, position_or_len}
use Rattle.std.proofs.lemmas.Bool.{and_parts, ltb-true, true≢false}
use Rattle.std.proofs.lemmas.List.{length-append, append-nil, map-append, map-set, take-map, drop-map}
use Rattle.std.proofs.lemmas.List.Elements.{All-nil, All-cons, All-push, All-set, All-append, All-take, All-drop, All-weaker, All-head, All-tail, All-get_or}
use Rattle.std.proofs.lemmas.Grind.{flat_map-append}
use Rattle.std.proofs.lemmas.List.Quantifiers.{all_pairs_push}
use Rattle.std.proofs.lemmas.Option.{slice_get-map, slice_get_within, get_or_from_slice_get}
use Rattle.gate_base.specs.declared.event.Moment.{Moment}
use Rattle.gate_base.specs.declared.side.Side.{Side}
use Rattle.gate_base.specs.declared.side.Side.TheVariants.{Left, Right}
use Rattle.gate_base.proofs.Options.{none_mapped}
use Rattle.gate_base.proofs.Lists.{position_as}
use Rattle.slab.specs.Slab.{Slab, get, slab_len, Updates}
use Rattle.tcp_segments.specs.Prelude.{flags_of}
use Rattle.tcp_tracker.specs.Prelude.{is_of, is_reset, starts_anew, kept, timeout, timeout_or_short, timeout_of, unused, with_flags, held, after, kept_or_begun, is_tracked, place_of, connection_of, changed, noted, seen_as, inline, joined, IsKept, slots_of, IsJoined}
use Rattle.tcp_tracker.specs.declared.connection.ConnKey.{ConnKey}
use Rattle.tcp_tracker.specs.declared.connection.Conn.{Conn}
use Rattle.tcp_tracker.specs.declared.connection.Connection.{Connection}

pub place_joined : {X : Type 0} (slots : Slab X) (key : ConnKey) (all : List (Connection ℕ)) → place_of key (joined slots all) ≡ place_of key all
place_joined slots key all = position_as (inline slots) (is_of key) (is_of key) (λ c. refl) all

pub connection_joined : {X : Type 0} (slots : Slab X) (key : ConnKey) (all : List (Connection ℕ))
    → connection_of key (joined slots all) ≡ option_map (inline slots) (connection_of key all)
connection_joined slots key all = rw (place_joined slots key all) (at (place_of key all))
  where
    at : (o : Option ℕ) → option_and_then (slice_get (joined slots all)) o ≡ option_map (inline slots) (option_and_then (slice_get all) o)
    at None = refl
    at (Some i) = slice_get-map (inline slots) all i

-- what a caller of the tracker sees of a connection leads to its session
pub found_joined : {X : Type 0} (slots : Slab X) (key : ConnKey) (all : List (Connection ℕ))
    → option_map (λ (seen : Conn). option_and_then (get slots) seen.session) (option_map seen_as (connection_of key all))
    ≡ option_map (λ (c : Connection X). c.session) (connection_of key (joined slots all))
found_joined {X = X} slots key all = by_found (connection_of key all)
    ∙ sym (ap (option_map (λ (c : Connection X). c.session)) (connection_joined slots key all))
  where
    by_found : (o : Option (Connection ℕ)) → option_map (λ (seen : Conn). option_and_then (get slots) seen.session) (option_map seen_as o)
        ≡ option_map (λ (c : Connection X). c.session) (option_map (inline slots) o)
    by_found None = refl
    by_found (Some c) = refl

pub session_joined : {X : Type 0} (slots : Slab X) (key : ConnKey) (all : List (Connection ℕ))
    → option_and_then (λ (c : Connection X). c.session) (connection_of key (joined slots all)) ≡ option_and_then (get slots)
    (option_and_then (λ (c : Connection ℕ). c.session) (connection_of key all))
session_joined {X = X} slots key all = ap (option_and_then (λ (c : Connection X). c.session)) (connection_joined slots key all)
    ∙ by_found (connection_of key all)
  where
    by_found : (o : Option (Connection ℕ)) → option_and_then (λ (c : Connection X). c.session) (option_map (inline slots) o)
        ≡ option_and_then (get slots) (option_and_then (λ (c : Connection ℕ). c.session) o)
    by_found None = refl
    by_found (Some c) = refl

some_kept : {X : Type 0} (slots : Slab X) (o : Option ℕ) → IfSome o (λ slot. IsSome (get slots slot))
    → is_some (option_and_then (get slots) o) ≡ is_some o
some_kept slots None h = refl
some_kept slots (Some slot) h = h

pub tracked_joined : {X : Type 0} (slots : Slab X) (all : List (Connection ℕ)) → All (IsKept slots) all
    → length (filter is_tracked (joined slots all)) ≡ length (filter is_tracked all)
tracked_joined slots [] h = refl
tracked_joined {X = X} slots (c ∷ all) h = rw (some_kept slots c.session (All-head (IsKept slots) c all h))
    (by_test (is_tracked c) (tracked_joined slots all (All-tail (IsKept slots) c all h)))
  where
    by_test : (b : Bool) → length (filter is_tracked (joined slots all)) ≡ length (filter is_tracked all)
        → length (cond b (inline slots c ∷ filter is_tracked (joined slots all)) (filter is_tracked (joined slots all)))
        ≡ length (cond b (c ∷ filter is_tracked all) (filter is_tracked all))
    by_test true e = ap suc e
    by_test false e = e

-- ## A new connection

pub none_past : {A : Type 0} (xs : List A) (i : ℕ) → slice_get xs i ≡ None → length xs ≤ i
none_past [] i e = omega arith
none_past (x ∷ xs) zero e = absurd (cc)
none_past (x ∷ xs) (suc i) e = let le : length xs ≤ i = none_past xs i e in omega arith

pub place_none : {S : Type 0} (key : ConnKey) (all : List (Connection S)) → connection_of key all ≡ None → place_of key all ≡ None
place_none {S = S} key all e = by_place (nat_lt (position_or_len (is_of key) all) (length all)) refl e
  where
    by_place : (b : Bool) → nat_lt (position_or_len (is_of key) all) (length all) ≡ b
        → option_and_then (slice_get all) (cond b (Some (position_or_len (is_of key) all)) None) ≡ None
        → cond b (Some (position_or_len (is_of key) all)) None ≡ None
    by_place true h e = absurd
        (omega (arith, ltb-true (position_or_len (is_of key) all) (length all) h, none_past all (position_or_len (is_of key) all) e))
    by_place false h e = refl

-- the connection that begins
abbrev pub beginning : {S : Type 0} → ConnKey → Side → ℕ → S → Moment → Connection S
beginning key from flags session now = held now (with_flags from flags (unused key (Some session)))

beginning_session : {S : Type 0} (key : ConnKey) (from : Side) (flags : ℕ) (session : S) (now : Moment)
    → (beginning key from flags session now).session ≡ Some session
beginning_session key Left flags session now = refl
beginning_session key Right flags session now = refl

pub noted_new : {S : Type 0} (all : List (Connection S)) (key : ConnKey) (from : Side) (flags : ℕ) (session : S) (now : Moment)
    → connection_of key all ≡ None → (flags_of flags).reset ≡ false → noted all key from flags (Some session) now ≡ all
    ++ beginning key from flags session now ∷ []
noted_new {S = S} all key from flags session now none plain =
    ap (λ place. changed all place (after key from flags (Some session) now (connection_of key all))) (place_none key all none)
    ∙ ap (λ found. changed all None (after key from flags (Some session) now found)) none
    ∙ ap (λ (b : Bool). changed all None
    (option_map (λ c. held now (with_flags from flags c)) (if b then None else Some (unused key (Some session))))) plain

pub absent_below : {X : Type 0} (slots : Slab X) (key : ConnKey) (all : List (Connection ℕ)) → connection_of key (joined slots all) ≡ None
    → connection_of key all ≡ None
absent_below slots key all e = none_mapped (inline slots) (connection_of key all) (sym (connection_joined slots key all) ∙ e)

-- a vacant slot that gets a session is none of the connections'
other_slot : {X : Type 0} (slots : Slab X) (s slot : ℕ) → IsSome (get slots s) → get slots slot ≡ None → s ≢ slot
other_slot slots s slot some none = λ e. true≢false (sym some ∙ ap (λ n. is_some (get slots n)) e ∙ ap is_some none)

inline_same : {X : Type 0} (old new : Slab X) (slot : ℕ) (session : X) → Updates old new slot (Some session) → get old slot ≡ None
    → (c : Connection ℕ) → IsKept old c → inline new c ≡ inline old c
inline_same {X = X} old new slot session u none c kept = ap
    (λ (o : Option X). record {
      key = c.key;
      left_acknowledges = c.left_acknowledges;
      right_acknowledges = c.right_acknowledges;
      closing = c.closing;
      session = o;
      until = c.until;
    }) (by_session c.session kept)
  where
    by_session : (o : Option ℕ) → IfSome o (λ s. IsSome (get old s)) → option_and_then (get new) o ≡ option_and_then (get old) o
    by_session None h = refl
    by_session (Some s) h = u.others s (other_slot old s slot h none)

joined_same : {X : Type 0} (old new : Slab X) (slot : ℕ) (session : X) → Updates old new slot (Some session) → get old slot ≡ None
    → (all : List (Connection ℕ)) → All (IsKept old) all → joined new all ≡ joined old all
joined_same old new slot session u none [] h = refl
joined_same {X = X} old new slot session u none (c ∷ all) h =
    ap (λ (x : Connection X). x ∷ joined new all) (inline_same old new slot session u none c (All-head (IsKept old) c all h))
    ∙ ap (λ (xs : List (Connection X)). inline old c ∷ xs) (joined_same old new slot session u none all (All-tail (IsKept old) c all h))

beginning_inline : {X : Type 0} (slots : Slab X) (key : ConnKey) (from : Side) (flags slot : ℕ) (session : X) (now : Moment)
    → get slots slot ≡ Some session → inline slots (beginning key from flags slot now) ≡ beginning key from flags session now
beginning_inline {X = X} slots key Left flags slot session now e =
    ap (λ (o : Option X). let c : Connection X = beginning key Left flags session now in record c { session = o }) e
beginning_inline {X = X} slots key Right flags slot session now e =
    ap (λ (o : Option X). let c : Connection X = beginning key Right flags session now in record c { session = o }) e

-- the table after a connection with a session began
pub opened : {X : Type 0} (old new : Slab X) (all : List (Connection ℕ)) (key : ConnKey) (from : Side) (flags slot : ℕ) (session : X) (now : Moment)
    → All (IsKept old) all → connection_of key (joined old all) ≡ None → (flags_of flags).reset ≡ false → get old slot ≡ None
    → Updates old new slot (Some session)
    → joined new (noted all key from flags (Some slot) now) ≡ noted (joined old all) key from flags (Some session) now
opened {X = X} old new all key from flags slot session now kept absent plain none u =
    ap (joined new) (noted_new all key from flags slot now (absent_below old key all absent) plain)
    ∙ map-append (inline new) all (beginning key from flags slot now ∷ [])
    ∙ ap (λ (xs : List (Connection X)). xs ++ inline new (beginning key from flags slot now) ∷ []) (joined_same old new slot session u none all kept)
    ∙ ap (λ (c : Connection X). joined old all ++ c ∷ []) (beginning_inline new key from flags slot session now u.changed)
    ∙ sym (noted_new (joined old all) key from flags session now absent plain)

slots_more : (all : List (Connection ℕ)) (c : Connection ℕ) → slots_of (all ++ c ∷ []) ≡ slots_of all ++ option_to_list c.session
slots_more all c = flat_map-append (λ (d : Connection ℕ). option_to_list d.session) all (c ∷ [])
    ∙ ap (λ xs. slots_of all ++ xs) (append-nil (option_to_list c.session))

-- each of the slots has a session
pub all_filled : {X : Type 0} (slots : Slab X) (all : List (Connection ℕ)) → All (IsKept slots) all → All (λ s. IsSome (get slots s)) (slots_of all)
all_filled {X = X} slots [] h = All-nil (λ (s : ℕ). IsSome (get slots s))
all_filled {X = X} slots (c ∷ all) h = by_session c.session (All-head (IsKept slots) c all h) (all_filled slots all (All-tail (IsKept slots) c all h))
  where
    by_session : (o : Option ℕ) → IfSome o (λ s. IsSome (get slots s)) → All (λ s. IsSome (get slots s)) (slots_of all)
        → All (λ s. IsSome (get slots s)) (option_to_list o ++ slots_of all)
    by_session None k more = more
    by_session (Some s) k more = All-cons (λ (n : ℕ). IsSome (get slots n)) s (slots_of all) k more

pub length_slots : (all : List (Connection ℕ)) → length (slots_of all) ≡ length (filter is_tracked all)
length_slots [] = refl
length_slots (c ∷ all) = by_session c.session (length_slots all)
  where
    by_session : (o : Option ℕ) → length (slots_of all) ≡ length (filter is_tracked all) → length (option_to_list o ++ slots_of all)
        ≡ length (cond (is_some o) (c ∷ filter is_tracked all) (filter is_tracked all))
    by_session None e = e
    by_session (Some s) e = ap suc e

pub opened_joined : {X : Type 0} (old new : Slab X) (all : List (Connection ℕ)) (key : ConnKey) (from : Side) (flags slot : ℕ) (session : X)
    (now : Moment) → IsJoined all old → connection_of key (joined old all) ≡ None → (flags_of flags).reset ≡ false → get old slot ≡ None
    → Updates old new slot (Some session)
    → slab_len new ≡ slab_len old + 1 → new.capacity ≡ old.capacity → IsJoined (noted all key from flags (Some slot) now) new
opened_joined {X = X} old new all key from flags slot session now h absent plain none u len capacity =
    subst (λ (xs : List (Connection ℕ)). IsJoined xs new) (sym (noted_new all key from flags slot now (absent_below old key all absent) plain))
    (record {
      kept = All-push (IsKept new) all c (All-weaker (IsKept old) (IsKept new) still all h.kept)
          (subst (λ (o : Option ℕ). IfSome o (λ s. IsSome (get new s))) (sym session_is) (ap is_some u.changed));
      apart = rw (slots_more all c, slot_list) (all_pairs_push (λ one two. one ≢ two) (slots_of all) slot h.apart (λ k d lt. others k d lt));
      counted = omega (
        arith,
        len,
        h.counted,
        ap length (slots_more all c),
        ap length slot_list,
        length-append (slots_of all) (option_to_list c.session),
      );
      room = omega (arith, h.room, capacity);
    })
  where
    c : Connection ℕ
    c = beginning key from flags slot now

    session_is : (beginning key from flags slot now).session ≡ Some slot
    session_is = beginning_session key from flags slot now

    slot_list : option_to_list (beginning key from flags slot now).session ≡ slot ∷ []
    slot_list = ap (λ (o : Option ℕ). option_to_list o) session_is

    still : (d : Connection ℕ) → IsKept old d → IsKept new d
    still d k = by_session d.session k
      where
        by_session : (o : Option ℕ) → IfSome o (λ s. IsSome (get old s)) → IfSome o (λ s. IsSome (get new s))
        by_session None k = tt
        by_session (Some s) k = ap is_some (u.others s (other_slot old s slot k none)) ∙ k

    others : (k d : ℕ) → k < length (slots_of all) → get_or (slots_of all) k d ≢ slot
    others k d lt = other_slot old (get_or (slots_of all) k d) slot (all_filled old all h.kept k d lt) none

-- ## A segment on a connection that stays as it is, or goes without a session

-- whatever a segment leaves of a connection that is there is as much tracked as it was, and a tracked one stays
kept_joined : {X : Type 0} (slots : Slab X) (flags : ℕ) (c : Connection ℕ) → IsKept slots c
    → kept flags (inline slots c) ≡ option_map (inline slots) (kept flags c)
kept_joined slots flags c k = rw (some_kept slots c.session k) (by_tests (is_reset flags c) (starts_anew flags c))
  where
    by_tests : (r s : Bool) → (if r then None else if s then Some (unused c.key None) else Some (inline slots c)) ≡ option_map (inline slots)
        (if r then None else if s then Some (unused c.key None) else Some c)
    by_tests true s = refl
    by_tests false true = refl
    by_tests false false = refl

begun_joined : {X : Type 0} (slots : Slab X) (key : ConnKey) (flags : ℕ) (found : Option (Connection ℕ)) → IfSome found (IsKept slots)
    → kept_or_begun key flags None (option_map (inline slots) found) ≡ option_map (inline slots) (kept_or_begun key flags None found)
begun_joined slots key flags None k = by_test (flags_of flags).reset
  where
    by_test : (b : Bool) → (if b then None else Some (unused key None)) ≡ option_map (inline slots) (if b then None else Some (unused key None))
    by_test true = refl
    by_test false = refl
begun_joined slots key flags (Some c) k = kept_joined slots flags c k

flags_joined : {X : Type 0} (slots : Slab X) (from : Side) (flags : ℕ) (c : Connection ℕ)
    → with_flags from flags (inline slots c) ≡ inline slots (with_flags from flags c)
flags_joined slots Left flags c = refl
flags_joined slots Right flags c = refl

after_joined : {X : Type 0} (slots : Slab X) (key : ConnKey) (from : Side) (flags : ℕ) (now : Moment) (found : Option (Connection ℕ))
    → IfSome found (IsKept slots) → after key from flags None now (option_map (inline slots) found) ≡ option_map (inline slots)
    (after key from flags None now found)
after_joined {X = X} slots key from flags now found k =
    ap (option_map (λ (c : Connection X). held now (with_flags from flags c))) (begun_joined slots key flags found k)
    ∙ by_left (kept_or_begun key flags None found)
  where
    by_left : (o : Option (Connection ℕ)) → option_map (λ (c : Connection X). held now (with_flags from flags c)) (option_map (inline slots) o)
        ≡ option_map (inline slots) (option_map (λ (c : Connection ℕ). held now (with_flags from flags c)) o)
    by_left None = refl
    by_left (Some c) = ap (λ (d : Connection X). Some (held now d)) (flags_joined slots from flags c)

changed_joined : {X : Type 0} (slots : Slab X) (all : List (Connection ℕ)) (place : Option ℕ) (c : Option (Connection ℕ))
    → changed (joined slots all) place (option_map (inline slots) c) ≡ joined slots (changed all place c)
changed_joined slots all None None = refl
changed_joined slots all None (Some c) = sym (map-append (inline slots) all (c ∷ []))
changed_joined slots all (Some i) None = rw (take-map (inline slots) i all, drop-map (inline slots) (suc i) all)
    (sym (map-append (inline slots) (take i all) (drop (suc i) all)))
changed_joined slots all (Some i) (Some c) = sym (map-set (inline slots) all i c)

pub found_kept : {X : Type 0} (slots : Slab X) (key : ConnKey) (all : List (Connection ℕ)) → All (IsKept slots) all
    → IfSome (connection_of key all) (IsKept slots)
found_kept {X = X} slots key all h = by_place (place_of key all)
  where
    by_element : (i : ℕ) (o : Option (Connection ℕ)) → slice_get all i ≡ o → IfSome o (IsKept slots)
    by_element i None e = tt
    by_element i (Some c) e = subst (IsKept slots) (get_or_from_slice_get all i c c e)
        (All-get_or (IsKept slots) all i c (slice_get_within all i c e) h)

    by_place : (o : Option ℕ) → IfSome (option_and_then (slice_get all) o) (IsKept slots)
    by_place None = tt
    by_place (Some i) = by_element i (slice_get all i) refl

pub noted_joined : {X : Type 0} (slots : Slab X) (all : List (Connection ℕ)) (key : ConnKey) (from : Side) (flags : ℕ) (now : Moment)
    → All (IsKept slots) all → noted (joined slots all) key from flags None now ≡ joined slots (noted all key from flags None now)
noted_joined slots all key from flags now h =
    ap (λ place. changed (joined slots all) place (after key from flags None now (connection_of key (joined slots all)))) (place_joined slots key all)
    ∙ ap (λ found. changed (joined slots all) (place_of key all) (after key from flags None now found)) (connection_joined slots key all)
    ∙ ap (changed (joined slots all) (place_of key all)) (after_joined slots key from flags now (connection_of key all) (found_kept slots key all h))
    ∙ changed_joined slots all (place_of key all) (after key from flags None now (connection_of key all))

pub place_joined_too : {X : Type 0} (slots : Slab X) (key : ConnKey) (all : List (Connection ℕ)) → place_of key all ≡ None
    → place_of key (joined slots all) ≡ None
place_joined_too slots key all e = place_joined slots key all ∙ e

pub timeout_joined : {X : Type 0} (slots : Slab X) (all : List (Connection ℕ)) (key : ConnKey) (from : Side) (flags : ℕ) → All (IsKept slots) all
    → timeout_of all key from flags ≡ timeout_of (joined slots all) key from flags
timeout_joined {X = X} slots all key from flags h =
    sym (ap (λ (o : Option (Connection X)). timeout_or_short (option_map (with_flags from flags) (kept_or_begun key flags None o)))
    (connection_joined slots key all)
    ∙ ap (λ (o : Option (Connection X)). timeout_or_short (option_map (with_flags from flags) o))
    (begun_joined slots key flags (connection_of key all) (found_kept slots key all h))
    ∙ by_left (kept_or_begun key flags None (connection_of key all)))
  where
    by_left : (o : Option (Connection ℕ)) → timeout_or_short (option_map (with_flags from flags) (option_map (inline slots) o))
        ≡ timeout_or_short (option_map (with_flags from flags) o)
    by_left None = refl
    by_left (Some c) = ap timeout (flags_joined slots from flags c)

-- ## The slots stay

slots_set : (all : List (Connection ℕ)) (i : ℕ) (x y : Connection ℕ) → slice_get all i ≡ Some x → option_to_list y.session ≡ option_to_list x.session
    → slots_of (set all i y) ≡ slots_of all
slots_set [] i x y e s = cc
slots_set (z ∷ all) zero x y e s = let same : z ≡ x = cc in
    ap (λ (xs : List ℕ). xs ++ slots_of all) (s ∙ ap (λ (d : Connection ℕ). option_to_list d.session) (sym same))
slots_set (z ∷ all) (suc i) x y e s = ap (λ (xs : List ℕ). option_to_list z.session ++ xs) (slots_set all i x y e s)

pub slots_removed : (all : List (Connection ℕ)) (i : ℕ) (x : Connection ℕ) → slice_get all i ≡ Some x → option_to_list x.session ≡ []
    → slots_of (remove all i) ≡ slots_of all
slots_removed [] i x e s = cc
slots_removed (z ∷ all) zero x e s = let same : z ≡ x = cc in
    ap (λ (xs : List ℕ). xs ++ slots_of all) (sym s ∙ ap (λ (d : Connection ℕ). option_to_list d.session) (sym same))
slots_removed (z ∷ all) (suc i) x e s = ap (λ (xs : List ℕ). option_to_list z.session ++ xs) (slots_removed all i x e s)

no_session : (o : Option ℕ) → not (is_some o) ≡ true → o ≡ None
no_session None e = refl
no_session (Some s) e = cc

reset_none : (flags : ℕ) (c : Connection ℕ) → is_reset flags c ≡ true → c.session ≡ None
reset_none flags c e = no_session c.session (and_parts (flags_of flags).reset (not (is_some c.session)) e).1

anew_none : (flags : ℕ) (c : Connection ℕ) → starts_anew flags c ≡ true → c.session ≡ None
anew_none flags c e = no_session c.session
    (and_parts c.closing (not (is_some c.session))
    (and_parts (c.closing && not (is_some c.session)) ((flags_of flags).syn && not ((flags_of flags).ack || (flags_of flags).reset)) e).0).1

-- a connection that goes has no session, and what is left of one has the same
kept_none : (flags : ℕ) (c : Connection ℕ) → kept flags c ≡ None → c.session ≡ None
kept_none flags c e = by_tests (is_reset flags c) (starts_anew flags c) (reset_none flags c) e
  where
    by_tests : (r s : Bool) → (r ≡ true → c.session ≡ None) → (if r then None else if s then Some (unused c.key None) else Some c) ≡ None
        → c.session ≡ None
    by_tests true s f e = f refl
    by_tests false true f e = absurd (cc)
    by_tests false false f e = absurd (cc)

kept_some : (flags : ℕ) (c k : Connection ℕ) → kept flags c ≡ Some k → k.session ≡ c.session
kept_some flags c k e = by_tests (is_reset flags c) (starts_anew flags c) (anew_none flags c) e
  where
    by_tests : (r s : Bool) → (s ≡ true → c.session ≡ None) → (if r then None else if s then Some (unused c.key None) else Some c) ≡ Some k
        → k.session ≡ c.session
    by_tests true s f e = absurd (cc)
    by_tests false true f e = let same : unused {S = ℕ} c.key None ≡ k = cc in ap (λ (d : Connection ℕ). d.session) (sym same) ∙ sym (f refl)
    by_tests false false f e = let same : c ≡ k = cc in ap (λ (d : Connection ℕ). d.session) (sym same)

-- the session of what is left, by that of what was found
left_session : (from : Side) (flags : ℕ) (now : Moment) (k : Connection ℕ) → (held now (with_flags from flags k)).session ≡ k.session
left_session Left flags now k = refl
left_session Right flags now k = refl

-- the slots, and that each has a session, after a segment that begins no session
pub record Stays {X : Type 0} (slots : Slab X) (old new : List (Connection ℕ)) : Type 0 where
  pub same : slots_of new ≡ slots_of old
  pub kept : All (IsKept slots) new

stays_new : {X : Type 0} (slots : Slab X) (all : List (Connection ℕ)) (key : ConnKey) (from : Side) (flags : ℕ) (now : Moment)
    → All (IsKept slots) all → Stays slots all (changed all None (after key from flags None now None))
stays_new {X = X} slots all key from flags now h = by_test (flags_of flags).reset
  where
    new : Connection ℕ
    new = held now (with_flags from flags (unused key None))

    none : (held now (with_flags from flags (unused {S = ℕ} key None))).session ≡ None
    none = left_session from flags now (unused key None)

    by_test : (b : Bool) → Stays slots all
        (changed all None (option_map (λ c. held now (with_flags from flags c)) (if b then None else Some (unused key None))))
    by_test true = record { same = refl; kept = h }
    by_test false = record {
      same = slots_more all (held now (with_flags from flags (unused key None))) ∙ ap (λ (o : Option ℕ). slots_of all ++ option_to_list o) none
          ∙ append-nil (slots_of all);
      kept = All-push (IsKept slots) all (held now (with_flags from flags (unused key None))) h
          (subst (λ (o : Option ℕ). IfSome o (λ s. IsSome (get slots s))) (sym none) tt);
    }

stays_old : {X : Type 0} (slots : Slab X) (all : List (Connection ℕ)) (key : ConnKey) (from : Side) (flags : ℕ) (now : Moment) (i : ℕ)
    (c : Connection ℕ) → All (IsKept slots) all → IsKept slots c → slice_get all i ≡ Some c
    → Stays slots all (changed all (Some i) (after key from flags None now (Some c)))
stays_old {X = X} slots all key from flags now i c h k at = by_left (kept flags c) refl
  where
    by_left : (o : Option (Connection ℕ)) → kept flags c ≡ o → Stays slots all
        (changed all (Some i) (option_map (λ c. held now (with_flags from flags c)) o))
    by_left None e = record {
      same = slots_removed all i c at (ap (λ (o : Option ℕ). option_to_list o) (kept_none flags c e));
      kept = All-append (IsKept slots) (take i all) (drop (suc i) all) (All-take (IsKept slots) i all h) (All-drop (IsKept slots) (suc i) all h);
    }
    by_left (Some d) e =
        let same : (held now (with_flags from flags d)).session ≡ c.session = left_session from flags now d ∙ kept_some flags c d e in
        record {
          same = slots_set all i c (held now (with_flags from flags d)) at (ap (λ (o : Option ℕ). option_to_list o) same);
          kept = All-set (IsKept slots) all i (held now (with_flags from flags d))
              (subst (λ (o : Option ℕ). IfSome o (λ s. IsSome (get slots s))) (sym same) k) h;
        }

pub place_within : {A : Type 0} (p : A → Bool) (xs : List A) (i : ℕ) → position p xs ≡ Some i → i < length xs
place_within {A = A} p xs i e = by_test (nat_lt (position_or_len p xs) (length xs)) refl e
  where
    by_test : (b : Bool) → nat_lt (position_or_len p xs) (length xs) ≡ b → cond b (Some (position_or_len p xs)) None ≡ Some i → i < length xs
    by_test true h e = let same : position_or_len p xs ≡ i = cc in omega (arith, ltb-true (position_or_len p xs) (length xs) h)
    by_test false h e = absurd (cc)

pub noted_stays : {X : Type 0} (slots : Slab X) (all : List (Connection ℕ)) (key : ConnKey) (from : Side) (flags : ℕ) (now : Moment)
    → All (IsKept slots) all → Stays slots all (noted all key from flags None now)
noted_stays {X = X} slots all key from flags now h = by_place (place_of key all) refl (found_kept slots key all h)
  where
    by_element : (i : ℕ) → place_of key all ≡ Some i → (o : Option (Connection ℕ)) → slice_get all i ≡ o → IfSome o (IsKept slots)
        → Stays slots all (changed all (Some i) (after key from flags None now o))
    by_element i p None e k = absurd (omega (arith, place_within (is_of key) all i p, none_past all i e))
    by_element i p (Some c) e k = stays_old slots all key from flags now i c h k e

    by_place : (o : Option ℕ) → place_of key all ≡ o → IfSome (option_and_then (slice_get all) (place_of key all)) (IsKept slots)
        → Stays slots all (changed all o (after key from flags None now (option_and_then (slice_get all) o)))
    by_place None p k = stays_new slots all key from flags now h
    by_place (Some i) p k = by_element i p (slice_get all i) refl
        (subst (λ (o : Option ℕ). IfSome (option_and_then (slice_get all) o) (IsKept slots)) p k)

pub noted_is : {X : Type 0} (slots : Slab X) (all : List (Connection ℕ)) (key : ConnKey) (from : Side) (flags : ℕ) (now : Moment) → IsJoined all slots
    → IsJoined (noted all key from flags None now) slots
noted_is slots all key from flags now h =
    let s = noted_stays slots all key from flags now h.kept in
    record {
      kept = s.kept;
      apart = subst (λ (xs : List ℕ). AllPairs (λ one two. one ≢ two) xs) (sym s.same) h.apart;
      counted = h.counted ∙ ap length (sym s.same);
      room = h.room;
    }
