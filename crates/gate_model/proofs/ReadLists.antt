-- Lists of connections whose sessions are read as others.
use Rattle.std.proofs.Common.{◌≡◌, ℕ, ◌+◌, Bool, true, false, cond, if◌then◌else◌, List, [], ◌∷◌, map, Option, Some, None, option_map, count_by, refl, sym, ◌∙◌, ap, option_and_then, slice_get, fold}
use Rattle.std.proofs.lemmas.List.{map-append, map-set}
use Rattle.std.proofs.lemmas.Option.{slice_get-map}
use Rattle.gate_base.specs.declared.event.Moment.{Moment}
use Rattle.gate_base.specs.declared.side.Side.{Side}
use Rattle.gate_base.specs.declared.side.Side.TheVariants.{Left, Right}
use Rattle.gate_base.proofs.Options.{some_mapped}
use Rattle.gate_base.proofs.Lists.{filter_as, position_as, remove_as}
use Rattle.tcp_segments.specs.Prelude.{flags_of}
use Rattle.tcp_tracker.specs.Prelude.{is_of, timeout, unused, with_flags, starts_anew, is_reset, kept, kept_or_begun, held, after, timeout_or_short, is_live, is_tracked, place_of, connection_of, timeout_of, changed, live}
use Rattle.tcp_tracker.specs.declared.connection.ConnKey.{ConnKey}
use Rattle.tcp_tracker.specs.declared.connection.Connection.{Connection}
use Rattle.gate_model.specs.Prelude.{Tracked, tracked_as, connection_as}

-- ## Any lists

pub count_as : {A B : Type 0} (f : A → B) (p : B → Bool) (q : A → Bool) → ((x : A) → p (f x) ≡ q x) → (xs : List A)
    → count_by p (map f xs) ≡ count_by q xs
count_as {A = A} f p q same xs = go 0 xs
  where
    go : (n : ℕ) (ys : List A) → fold (λ a x. a + cond (p x) 1 0) n (map f ys) ≡ fold (λ a x. a + cond (q x) 1 0) n ys
    go n [] = refl
    go n (y ∷ ys) = ap (λ (b : Bool). fold (λ a x. a + cond (p x) 1 0) (n + cond b 1 0) (map f ys)) (same y) ∙ go (n + cond (q y) 1 0) ys

-- ## Connections

pub live_as : {S T : Type 0} (h : S → T) (now : Moment) (all : List (Connection (Tracked S)))
    → live now (map (connection_as h) all) ≡ map (connection_as h) (live now all)
live_as h now all = filter_as (connection_as h) (is_live now) (is_live now) (λ c. refl) all

pub place_of_as : {S T : Type 0} (h : S → T) (key : ConnKey) (all : List (Connection (Tracked S)))
    → place_of key (map (connection_as h) all) ≡ place_of key all
place_of_as h key all = position_as (connection_as h) (is_of key) (is_of key) (λ c. refl) all

pub connection_of_as : {S T : Type 0} (h : S → T) (key : ConnKey) (all : List (Connection (Tracked S)))
    → connection_of key (map (connection_as h) all) ≡ option_map (connection_as h) (connection_of key all)
connection_of_as h key all = rw (place_of_as h key all) (at (place_of key all))
  where
    at : (o : Option ℕ) → option_and_then (slice_get (map (connection_as h) all)) o ≡ option_map (connection_as h) (option_and_then (slice_get all) o)
    at None = refl
    at (Some i) = slice_get-map (connection_as h) all i

pub tracked_as_many : {S T : Type 0} (h : S → T) (all : List (Connection (Tracked S)))
    → count_by is_tracked (map (connection_as h) all) ≡ count_by is_tracked all
tracked_as_many h all = count_as (connection_as h) is_tracked is_tracked (λ c. some_mapped (tracked_as h) c.session) all

kept_as : {S T : Type 0} (h : S → T) (flags : ℕ) (c : Connection (Tracked S))
    → kept flags (connection_as h c) ≡ option_map (connection_as h) (kept flags c)
kept_as h flags c = rw (some_mapped (tracked_as h) c.session) (by_tests (is_reset flags c) (starts_anew flags c))
  where
    by_tests : (r s : Bool)
        → (if r then None else if s then Some (unused c.key None) else Some (connection_as h c)) ≡ option_map (connection_as h)
        (if r then None else if s then Some (unused c.key None) else Some c)
    by_tests true s = refl
    by_tests false true = refl
    by_tests false false = refl

pub kept_or_begun_as : {S T : Type 0} (h : S → T) (key : ConnKey) (flags : ℕ) (t : Option (Tracked S)) (found : Option (Connection (Tracked S)))
    → kept_or_begun key flags (option_map (tracked_as h) t) (option_map (connection_as h) found) ≡ option_map (connection_as h)
    (kept_or_begun key flags t found)
kept_or_begun_as h key flags t None = by_test (flags_of flags).reset
  where
    by_test : (b : Bool)
        → (if b then None else Some (unused key (option_map (tracked_as h) t))) ≡ option_map (connection_as h)
        (if b then None else Some (unused key t))
    by_test true = refl
    by_test false = refl
kept_or_begun_as h key flags t (Some c) = kept_as h flags c

pub flags_as : {S T : Type 0} (h : S → T) (from : Side) (flags : ℕ) (c : Connection (Tracked S))
    → with_flags from flags (connection_as h c) ≡ connection_as h (with_flags from flags c)
flags_as h Left flags c = refl
flags_as h Right flags c = refl

pub timeout_as : {S T : Type 0} (h : S → T) (all : List (Connection (Tracked S))) (key : ConnKey) (from : Side) (flags : ℕ)
    → timeout_of (map (connection_as h) all) key from flags ≡ timeout_of all key from flags
timeout_as {S = S} h all key from flags =
    rw (connection_of_as h key all, kept_or_begun_as h key flags None (connection_of key all))
    (by_left (kept_or_begun key flags None (connection_of key all)))
  where
    by_left : (o : Option (Connection (Tracked S)))
        → timeout_or_short (option_map (with_flags from flags) (option_map (connection_as h) o)) ≡ timeout_or_short
        (option_map (with_flags from flags) o)
    by_left None = refl
    by_left (Some c) = ap timeout (flags_as h from flags c)

pub after_as : {S T : Type 0} (h : S → T) (key : ConnKey) (from : Side) (flags : ℕ) (t : Option (Tracked S)) (now : Moment)
    (found : Option (Connection (Tracked S))) → after key from flags (option_map (tracked_as h) t) now (option_map (connection_as h) found)
    ≡ option_map (connection_as h) (after key from flags t now found)
after_as {S = S} h key from flags t now found = rw (kept_or_begun_as h key flags t found) (by_left (kept_or_begun key flags t found))
  where
    by_left : (o : Option (Connection (Tracked S)))
        → option_map (λ c. held now (with_flags from flags c)) (option_map (connection_as h) o) ≡ option_map (connection_as h)
        (option_map (λ c. held now (with_flags from flags c)) o)
    by_left None = refl
    by_left (Some c) = ap (λ d. Some (held now d)) (flags_as h from flags c)

pub changed_as : {S T : Type 0} (h : S → T) (all : List (Connection (Tracked S))) (place : Option ℕ) (c : Option (Connection (Tracked S)))
    → changed (map (connection_as h) all) place (option_map (connection_as h) c) ≡ map (connection_as h) (changed all place c)
changed_as h all None None = refl
changed_as h all None (Some c) = sym (map-append (connection_as h) all (c ∷ []))
changed_as h all (Some i) None = remove_as (connection_as h) i all
changed_as h all (Some i) (Some c) = sym (map-set (connection_as h) all i c)
