-- Lists of datagrams in parts.
use Rattle.std.proofs.Common.{◌≡◌, ℕ, zero, suc, ◌+◌, ◌<◌, ◌≤◌, Bool, true, false, ◌||◌, not, ltb, cond, List, [], ◌∷◌, ◌++◌, length, get_or, set, Some, None, refl, sym, ap, ◌∙◌, arith}
use Rattle.std.specs.List.{filter, remove, position, position_or_len, slice_get}
use Rattle.std.proofs.lemmas.Bool.{le-ltb, ltb-false, not-true, not-false}
use Rattle.std.proofs.lemmas.List.Edits.{length-remove}
use Rattle.std.proofs.lemmas.List.Quantifiers.{position-Some}
use Rattle.std.proofs.lemmas.List.Sums.{fails_before_first}
use Rattle.frag_join.specs.Prelude.{Fragment, end_of, octet_in, nothing, is_bad, is_torn, ends_otherwise, are_unlike, octet_of, is_above, is_other}
use Rattle.frag_join.proofs.PlaceLemmas.{none-any}

-- ## Those that live

-- one that is dropped anyway goes
pub filter-remove : {X : Type 0} (test : X → Bool) (xs : List X) (i : ℕ) (d : X) → i < length xs → test (get_or xs i d) ≡ false
    → filter test (remove xs i) ≡ filter test xs
filter-remove test [] i d within fails = absurd (omega arith)
filter-remove test (x ∷ xs) zero d within fails = sym (ap (λ b. cond b (x ∷ filter test xs) (filter test xs)) fails)
filter-remove test (x ∷ xs) (suc i) d within fails = ap (λ rest. cond (test x) (x ∷ rest) rest) (filter-remove test xs i d (omega arith) fails)

pub filter-all : {X : Type 0} (test : X → Bool) (xs : List X) → ((k : ℕ) (d : X) → k < length xs → test (get_or xs k d) ≡ true) → filter test xs ≡ xs
filter-all test [] each = refl
filter-all test (x ∷ xs) each =
    ap (λ b. cond b (x ∷ filter test xs) (filter test xs)) (each 0 x (omega arith))
    ∙ ap (λ rest. x ∷ rest) (filter-all test xs (λ k d below. each (suc k) d (omega arith)))

none_there : (found : Bool) (n : ℕ) → cond found (Some n) None ≡ None → found ≡ false
none_there true n is = absurd cc
none_there false n is = refl

-- the first that doesn't live goes, and where there is none all stay
pub ended-goes : {X : Type 0} (test : X → Bool) (xs : List X) (i : ℕ) (d : X) → position (λ x. not (test x)) xs ≡ Some i
    → filter test (remove xs i) ≡ filter test xs
ended-goes test xs i d found =
    let there = position-Some (λ x. not (test x)) xs i d found in
    filter-remove test xs i d there.0 (not-true (test (get_or xs i d)) there.1)

pub none-ended : {X : Type 0} (test : X → Bool) (xs : List X) → position (λ x. not (test x)) xs ≡ None → xs ≡ filter test xs
none-ended test xs none =
    let past : length xs ≤ position_or_len (λ x. not (test x)) xs = ltb-false (position_or_len (λ x. not (test x)) xs) (length xs)
    (none_there _ _ none) in
    sym (filter-all test xs (λ k d below. not-false (test (get_or xs k d)) (fails_before_first (λ x. not (test x)) xs k d (omega arith))))

-- ## One of them

-- a new one at the end
pub get-last : {X : Type 0} (xs : List X) (x : X) → slice_get (xs ++ x ∷ []) (length xs) ≡ Some x
get-last [] x = refl
get-last (y ∷ xs) x = get-last xs x

pub remove-last : {X : Type 0} (xs : List X) (x : X) → remove (xs ++ x ∷ []) (length xs) ≡ xs
remove-last [] x = refl
remove-last (y ∷ xs) x = ap (λ rest. y ∷ rest) (remove-last xs x)

pub set-last : {X : Type 0} (xs : List X) (x y : X) → set (xs ++ x ∷ []) (length xs) y ≡ xs ++ y ∷ []
set-last [] x y = refl
set-last (z ∷ xs) x y = ap (λ rest. z ∷ rest) (set-last xs x y)

-- ## A new datagram

or-false : (x : Bool) → (x || false) ≡ x
or-false true = refl
or-false false = refl

ends_new : (more : Bool) (end : ℕ) → cond more (is_above end None) (is_other end None || ltb end 0) ≡ false
ends_new true end = refl
ends_new false end = le-ltb end 0 (omega arith)

-- a fragment contradicts nothing where nothing is known
pub bad-new : (f : Fragment) → is_torn f ≡ is_bad nothing f
bad-new f =
    sym
    (ap (λ u. (is_torn f || ends_otherwise nothing f) || u)
    (none-any (λ place. are_unlike (octet_of nothing place) (octet_in f place)) (end_of f) (λ place below. refl))
    ∙ or-false (is_torn f || ends_otherwise nothing f)
    ∙ ap (λ e. is_torn f || e) (ends_new f.more (end_of f))
    ∙ or-false (is_torn f))

pub ended-count : {X : Type 0} (test : X → Bool) (xs : List X) (i : ℕ) (d : X) → position (λ x. not (test x)) xs ≡ Some i
    → length (remove xs i) + 1 ≡ length xs
ended-count test xs i d found = length-remove xs i (position-Some (λ x. not (test x)) xs i d found).0
