-- Connections, their sessions and the segments that pass on them.
use Rattle.std.proofs.Common.{◌≡◌, ℕ, zero, suc, ◌+◌, Bool, true, false, not, ◌&&◌, ◌||◌, cond, List, [], ◌∷◌, set, position, Option, Some, None}
use Rattle.std.proofs.Common.{option_map, is_some, is_none, refl, sym, ap, ◌∙◌, option_and_then, slice_get, if◌then◌else◌, length-set, set-set}
use Rattle.std.specs.List.{remove, position_or_len}
use Rattle.gate_base.specs.declared.event.Moment.{Moment}
use Rattle.gate_base.specs.declared.side.Side.{Side}
use Rattle.gate_base.specs.declared.side.Side.TheVariants.{Left, Right}
use Rattle.gate_base.proofs.Lists.{remove_set}
use Rattle.tcp_segments.specs.Prelude.{flags_of}
use Rattle.tcp_tracker.specs.Prelude.{is_of, place_of, connection_of, is_reset, starts_anew, unused, kept, with_flags, held, after}
use Rattle.tcp_tracker.specs.Prelude.{changed, noted, without, timeout_of, timeout_or_short, kept_or_begun, with_session, replaced}
use Rattle.tcp_tracker.specs.declared.connection.TheConstants.{SHORT_TIMEOUT}
use Rattle.tcp_tracker.specs.declared.connection.ConnKey.{ConnKey}
use Rattle.tcp_tracker.specs.declared.connection.Connection.{Connection}
use Rattle.tcp_tracker.proofs.Joining.{place_none}
use Rattle.gate_model.specs.Prelude.{session_in, Tracked}

-- ## An element at a place

set_found : {A : Type 0} (xs : List A) (i : ℕ) (x : A) → slice_get xs i ≡ Some x → set xs i x ≡ xs
set_found [] i x e = absurd (cc)
set_found (y ∷ xs) zero x e = let same : y ≡ x = cc in ap (λ z. z ∷ xs) (sym same)
set_found (y ∷ xs) (suc i) x e = ap (λ ys. y ∷ ys) (set_found xs i x e)

get_put : {A : Type 0} (xs : List A) (i : ℕ) (x y : A) → slice_get xs i ≡ Some x → slice_get (set xs i y) i ≡ Some y
get_put [] i x y e = absurd (cc)
get_put (z ∷ xs) zero x y e = refl
get_put (z ∷ xs) (suc i) x y e = get_put xs i x y e

place_put : {A : Type 0} (p : A → Bool) (xs : List A) (i : ℕ) (x y : A) → slice_get xs i ≡ Some x → p y ≡ p x
    → position_or_len p (set xs i y) ≡ position_or_len p xs
place_put p [] i x y e f = absurd (cc)
place_put p (z ∷ xs) zero x y e f = let same : z ≡ x = cc in ap (λ b. cond (not b) (1 + position_or_len p xs) 0) (f ∙ ap p (sym same))
place_put p (z ∷ xs) (suc i) x y e f = ap (λ n. cond (not (p z)) (1 + n) 0) (place_put p xs i x y e f)

position_put : {A : Type 0} (p : A → Bool) (xs : List A) (i : ℕ) (x y : A) → slice_get xs i ≡ Some x → p y ≡ p x
    → position p (set xs i y) ≡ position p xs
position_put p xs i x y e f = rw (place_put p xs i x y e f, length-set xs i y) refl

-- ## A connection with another session

-- the place of a connection, itself and its session
pub record IsAt {S : Type 0} (key : ConnKey) (all : List (Connection S)) (t : S) : Type 0 where
  pub place : ℕ
  pub connection : Connection S
  pub stands : place_of key all ≡ Some place
  pub found : slice_get all place ≡ Some connection
  pub session : connection.session ≡ Some t

pub at_place : {S : Type 0} (key : ConnKey) (all : List (Connection S)) (t : S)
    → option_and_then (λ (c : Connection S). c.session) (connection_of key all) ≡ Some t → IsAt key all t
at_place {S = S} key all t e = by_place (place_of key all) refl e
  where
    by_connection : (i : ℕ) (o : Option (Connection S)) → place_of key all ≡ Some i → slice_get all i ≡ o
        → option_and_then (λ (c : Connection S). c.session) o ≡ Some t → IsAt key all t
    by_connection i None p g h = absurd (cc)
    by_connection i (Some c) p g h = record { place = i; connection = c; stands = p; found = g; session = h }

    by_place : (o : Option ℕ) → place_of key all ≡ o → option_and_then (λ (c : Connection S). c.session) (option_and_then (slice_get all) o) ≡ Some t
        → IsAt key all t
    by_place None p h = absurd (cc)
    by_place (Some i) p h = by_connection i (slice_get all i) p refl h

found_at : {S : Type 0} (key : ConnKey) (all : List (Connection S)) (t : S) (a : IsAt key all t) → connection_of key all ≡ Some a.connection
found_at key all t a = ap (option_and_then (slice_get all)) a.stands ∙ a.found

replaced_at : {S : Type 0} (key : ConnKey) (all : List (Connection S)) (t s : S) (a : IsAt key all t)
    → replaced all key s ≡ set all a.place (with_session (Some s) a.connection)
replaced_at {S = S} key all t s a =
    ap (λ (o : Option ℕ). changed all o (option_map (with_session (Some s)) (connection_of key all))) a.stands
    ∙ ap (λ (o : Option (Connection S)). changed all (Some a.place) (option_map (with_session (Some s)) o)) (found_at key all t a)

-- its own session in its place changes nothing
pub replaced_same : {S : Type 0} (key : ConnKey) (all : List (Connection S)) (t : S)
    → option_and_then (λ (c : Connection S). c.session) (connection_of key all) ≡ Some t → replaced all key t ≡ all
replaced_same {S = S} key all t e =
    let a = at_place key all t e in
    replaced_at key all t t a
    ∙ ap (λ (o : Option S). let c : Connection S = record a.connection { session = o } in set all a.place c) (sym a.session)
    ∙ set_found all a.place a.connection a.found

pub place_replaced : {S : Type 0} (key : ConnKey) (all : List (Connection S)) (t s : S)
    → option_and_then (λ (c : Connection S). c.session) (connection_of key all) ≡ Some t → place_of key (replaced all key s) ≡ place_of key all
place_replaced key all t s e =
    let a = at_place key all t e in
    ap (place_of key) (replaced_at key all t s a)
    ∙ position_put (is_of key) all a.place a.connection (with_session (Some s) a.connection) a.found refl

connection_replaced : {S : Type 0} (key : ConnKey) (all : List (Connection S)) (t s : S) (a : IsAt key all t)
    → connection_of key (replaced all key s) ≡ Some (with_session (Some s) a.connection)
connection_replaced key all t s a =
    ap (connection_of key) (replaced_at key all t s a)
    ∙ ap (option_and_then (slice_get (set all a.place (with_session (Some s) a.connection))))
    (position_put (is_of key) all a.place a.connection (with_session (Some s) a.connection) a.found refl ∙ a.stands)
    ∙ get_put all a.place a.connection (with_session (Some s) a.connection) a.found

pub session_replaced : {S : Type 0} (key : ConnKey) (all : List (Connection (Tracked S))) (t s : Tracked S)
    → session_in (connection_of key all) ≡ Some t → session_in (connection_of key (replaced all key s)) ≡ Some s
session_replaced key all t s e = ap session_in (connection_replaced key all t s (at_place key all t e))

pub without_replaced : {S : Type 0} (key : ConnKey) (all : List (Connection S)) (t s : S)
    → option_and_then (λ (c : Connection S). c.session) (connection_of key all) ≡ Some t → without (replaced all key s) key ≡ without all key
without_replaced key all t s e =
    let a = at_place key all t e in
    ap (λ (o : Option ℕ). changed (replaced all key s) o None) (place_replaced key all t s e ∙ a.stands)
    ∙ ap (λ xs. remove xs a.place) (replaced_at key all t s a)
    ∙ remove_set all a.place (with_session (Some s) a.connection)
    ∙ ap (λ (o : Option ℕ). changed all o None) (sym a.stands)

-- ## Segments

-- a connection with a session is neither reset nor starts anew
kept_tracked : {S : Type 0} (flags : ℕ) (c : Connection S) → is_some c.session ≡ true → kept flags c ≡ Some c
kept_tracked {S = S} flags c e =
    rw e (by_tests (flags_of flags).reset c.closing ((flags_of flags).syn && not ((flags_of flags).ack || (flags_of flags).reset)))
  where
    by_tests : (a b x : Bool) → (if a && false then None else if (b && false) && x then Some (unused {S = S} c.key None) else Some c) ≡ Some c
    by_tests true true x = refl
    by_tests true false x = refl
    by_tests false true x = refl
    by_tests false false x = refl

-- a segment that passes, by which no other session begins
abbrev passed : {S : Type 0} → Side → ℕ → Moment → Connection S → Connection S
passed side flags now c = held now (with_flags side flags c)

after_tracked : {S : Type 0} (key : ConnKey) (side : Side) (flags : ℕ) (taker : Option S) (now : Moment) (c : Connection S) → is_some c.session ≡ true
    → after key side flags taker now (Some c) ≡ Some (passed side flags now c)
after_tracked key side flags taker now c e = ap (option_map (passed side flags now)) (kept_tracked flags c e)

passed_session : {S : Type 0} (side : Side) (flags : ℕ) (now : Moment) (c : Connection S) → (passed side flags now c).session ≡ c.session
passed_session Left flags now c = refl
passed_session Right flags now c = refl

passed_with : {S : Type 0} (side : Side) (flags : ℕ) (now : Moment) (s : Option S) (c : Connection S)
    → passed side flags now (record c { session = s }) ≡ record (passed side flags now c) { session = s }
passed_with Left flags now s c = refl
passed_with Right flags now s c = refl

-- a session that goes on stands in its connection
pub noted_replaced : {S : Type 0} (key : ConnKey) (all : List (Connection (Tracked S))) (t s : Tracked S) (side : Side) (flags : ℕ)
    (taker : Option (Tracked S)) (now : Moment) → session_in (connection_of key all) ≡ Some t →
    noted (replaced all key s) key side flags None now ≡ changed all (place_of key all)
    (option_map (with_session (Some s)) (after key side flags taker now (connection_of key all)))
noted_replaced {S = S} key all t s side flags taker now e =
    let a = at_place key all t e in
    let c = a.connection in
    ap (λ (o : Option ℕ). changed (replaced all key s) o (after key side flags None now (connection_of key (replaced all key s))))
    (place_replaced key all t s e ∙ a.stands)
    ∙ ap (λ (o : Option (Connection (Tracked S))). changed (replaced all key s) (Some a.place) (after key side flags None now o))
    (connection_replaced key all t s a)
    ∙ ap (changed (replaced all key s) (Some a.place)) (after_tracked key side flags None now (with_session (Some s) c) refl)
    ∙ ap (λ xs. set xs a.place (passed side flags now (with_session (Some s) c))) (replaced_at key all t s a)
    ∙ set-set all a.place (with_session (Some s) c) (passed side flags now (with_session (Some s) c))
    ∙ ap (set all a.place) (passed_with side flags now (Some s) c)
    ∙ ap (λ (o : Option (Connection (Tracked S))). changed all (Some a.place) (option_map (with_session (Some s)) o))
    (sym (after_tracked key side flags taker now c (ap is_some a.session)))
    ∙ ap (λ (o : Option ℕ). changed all o (option_map (with_session (Some s)) (after key side flags taker now (Some c)))) (sym a.stands)
    ∙ ap (λ (o : Option (Connection (Tracked S))). changed all (place_of key all)
    (option_map (with_session (Some s)) (after key side flags taker now o))) (sym (found_at key all t a))

-- where no session is, none is left
untracked_same : {S : Type 0} (c : Connection (Tracked S)) → c.session ≡ None → with_session None c ≡ c
untracked_same {S = S} c e = ap (λ (o : Option (Tracked S)). let x : Connection (Tracked S) = record c { session = o } in x) (sym e)

untracked_after : {S : Type 0} (key : ConnKey) (side : Side) (flags : ℕ) (now : Moment) (found : Option (Connection (Tracked S)))
    → session_in found ≡ None → option_map (with_session None) (after key side flags None now found) ≡ after key side flags None now found
untracked_after {S = S} key side flags now None e = by_test (flags_of flags).reset
  where
    by_test : (b : Bool)
        → option_map (with_session None) (option_map (passed side flags now) (if b then None else Some (unused {S = Tracked S} key None)))
        ≡ option_map (passed side flags now) (if b then None else Some (unused {S = Tracked S} key None))
    by_test true = refl
    by_test false = ap Some (untracked_same (passed side flags now (unused key None)) (passed_session side flags now (unused key None)))
untracked_after {S = S} key side flags now (Some c) e = by_tests (is_reset flags c) (starts_anew flags c)
  where
    by_tests : (a b : Bool)
        → option_map (with_session None) (option_map (passed side flags now) (if a then None else if b then Some (unused c.key None) else Some c))
        ≡ option_map (passed side flags now) (if a then None else if b then Some (unused c.key None) else Some c)
    by_tests true b = refl
    by_tests false true = ap Some (untracked_same (passed side flags now (unused c.key None)) (passed_session side flags now (unused c.key None)))
    by_tests false false = ap Some (untracked_same (passed side flags now c) (passed_session side flags now c ∙ e))

pub noted_untracked : {S : Type 0} (key : ConnKey) (all : List (Connection (Tracked S))) (side : Side) (flags : ℕ) (now : Moment)
    → session_in (connection_of key all) ≡ None →
    noted all key side flags None now ≡ changed all (place_of key all)
    (option_map (with_session None) (after key side flags None now (connection_of key all)))
noted_untracked key all side flags now e = ap (changed all (place_of key all)) (sym (untracked_after key side flags now (connection_of key all) e))

-- a session that begins stands in the connection that its segment makes
pub noted_begun : {S : Type 0} (key : ConnKey) (all : List (Connection (Tracked S))) (t s : Tracked S) (side : Side) (flags : ℕ) (now : Moment)
    → connection_of key all ≡ None → (flags_of flags).reset ≡ false →
    noted all key side flags (Some s) now ≡ changed all (place_of key all)
    (option_map (with_session (Some s)) (after key side flags (Some t) now (connection_of key all)))
noted_begun {S = S} key all t s side flags now none plain =
    ap (λ (o : Option (Connection (Tracked S))). changed all (place_of key all) (after key side flags (Some s) now o)) none
    ∙ ap (changed all (place_of key all)) (by_test (flags_of flags).reset plain)
    ∙ ap (λ (o : Option (Connection (Tracked S))). changed all (place_of key all)
    (option_map (with_session (Some s)) (after key side flags (Some t) now o))) (sym none)
  where
    by_test : (b : Bool) → b ≡ false
        → option_map (passed side flags now) (if b then None else Some (unused key (Some s))) ≡ option_map (with_session (Some s))
        (option_map (passed side flags now) (if b then None else Some (unused key (Some t))))
    by_test true p = absurd (cc)
    by_test false p = ap Some (passed_with side flags now (Some s) (unused key (Some t)))

-- the session that is left
pub session_left : {S : Type 0} (key : ConnKey) (t s : Tracked S) (side : Side) (flags : ℕ) (taker : Option (Tracked S)) (now : Moment)
    (found : Option (Connection (Tracked S))) → session_in found ≡ Some t
    → session_in (option_map (with_session (Some s)) (after key side flags taker now found)) ≡ Some s
session_left key t s side flags taker now None e = absurd (cc)
session_left {S = S} key t s side flags taker now (Some c) e =
    ap (λ (o : Option (Connection (Tracked S))). session_in (option_map (with_session (Some s)) o))
    (after_tracked key side flags taker now c (ap is_some e))

pub session_begun : {S : Type 0} (key : ConnKey) (t s : Tracked S) (side : Side) (flags : ℕ) (now : Moment) (found : Option (Connection (Tracked S)))
    → found ≡ None → (flags_of flags).reset ≡ false
    → session_in (option_map (with_session (Some s)) (after key side flags (Some t) now found)) ≡ Some s
session_begun {S = S} key t s side flags now found none plain =
    ap (λ (o : Option (Connection (Tracked S))). session_in (option_map (with_session (Some s)) (after key side flags (Some t) now o))) none
    ∙ ap (λ (b : Bool). session_in
    (option_map (with_session (Some s)) (option_map (passed side flags now) (if b then None else Some (unused key (Some t)))))) plain

pub none_left : {S : Type 0} (o : Option (Connection (Tracked S))) → session_in (option_map (with_session None) o) ≡ None
none_left None = refl
none_left (Some c) = refl

-- ## A connection that doesn't live

-- an RST of it changes nothing
-- an RST without a connection holds its addresses as long as one that isn't established
pub timeout_reset : {S : Type 0} (key : ConnKey) (all : List (Connection S)) (side : Side) (flags : ℕ)
    → (is_none (connection_of key all) && (flags_of flags).reset) ≡ true → timeout_of all key side flags ≡ SHORT_TIMEOUT
timeout_reset {S = S} key all side flags e = by_connection (connection_of key all) (flags_of flags).reset refl refl e
  where
    by_connection : (o : Option (Connection S)) (b : Bool) → connection_of key all ≡ o → (flags_of flags).reset ≡ b → (is_none o && b) ≡ true
        → timeout_of all key side flags ≡ SHORT_TIMEOUT
    by_connection (Some c) b f r h = absurd (cc)
    by_connection None false f r h = absurd (cc)
    by_connection None true f r h =
        ap (λ (o : Option (Connection S)). timeout_or_short (option_map (with_flags side flags) (kept_or_begun key flags None o))) f
        ∙ ap (λ (b : Bool). timeout_or_short (option_map (with_flags side flags) (if b then None else Some (unused {S = S} key None)))) r

pub noted_reset : {S : Type 0} (key : ConnKey) (all : List (Connection S)) (side : Side) (flags : ℕ) (now : Moment)
    → (is_none (connection_of key all) && (flags_of flags).reset) ≡ true → noted all key side flags None now ≡ all
noted_reset {S = S} key all side flags now e = by_connection (connection_of key all) (flags_of flags).reset refl refl e
  where
    by_connection : (o : Option (Connection S)) (b : Bool) → connection_of key all ≡ o → (flags_of flags).reset ≡ b → (is_none o && b) ≡ true
        → noted all key side flags None now ≡ all
    by_connection (Some c) b f r h = absurd (cc)
    by_connection None false f r h = absurd (cc)
    by_connection None true f r h =
        ap (λ (o : Option ℕ). changed all o (after key side flags None now (connection_of key all))) (place_none key all f)
        ∙ ap (λ (o : Option (Connection S)). changed all None (after key side flags None now o)) f
        ∙ ap (λ (b : Bool). changed all None (option_map (passed side flags now) (if b then None else Some (unused {S = S} key None)))) r
