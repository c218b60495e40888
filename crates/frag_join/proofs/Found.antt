-- The datagram with a name, among others.
use Rattle.std.proofs.Common.{◌≡◌, ℕ, zero, suc, ◌<◌, Bool, true, false, ltb, cond, List, [], ◌∷◌, ◌++◌, length, get_or, set, Option, Some, None, refl, sym, ap, ◌∙◌, arith, slice_get, option_and_then, ltb-true, ltb-false}
use Rattle.std.specs.List.{find, remove, position, position_or_len}
use Rattle.std.proofs.lemmas.Option.{slice_get_past}
use Rattle.std.proofs.lemmas.List.Folds.{find_at}
use Rattle.frag_join.specs.declared.part.Name.{Name}
use Rattle.frag_join.specs.declared.part.Part.{Part}
use Rattle.frag_join.specs.Prelude.{is_of, part_of, changed}

some_there : {X : Type 0} (xs : List X) (i : ℕ) → i < length xs → slice_get xs i ≡ None → ⊥
some_there [] i within none = omega arith
some_there (x ∷ xs) zero within none = cc
some_there (x ∷ xs) (suc i) within none = some_there xs i (omega arith) none

there_or_past : {X : Type 0} (xs : List X) (i : ℕ) (b : Bool) → ltb i (length xs) ≡ b → option_and_then (slice_get xs) (cond b (Some i) None)
    ≡ slice_get xs i
there_or_past xs i true is = refl
there_or_past xs i false is = sym (slice_get_past xs i (ltb-false i (length xs) is))

-- it is the first with that name
pub part-find : {K : Type 0} (name : Name) (parts : List (Part K)) → part_of name parts ≡ find (is_of name) parts
part-find name parts =
    there_or_past parts (position_or_len (is_of name) parts) (ltb (position_or_len (is_of name) parts) (length parts)) refl
    ∙ sym (find_at (is_of name) parts)

-- and stands at its place
pub place-there : {X : Type 0} (xs : List X) (place : Option ℕ) (x : X) → option_and_then (slice_get xs) place ≡ Some x → (i : ℕ)
    × ((place ≡ Some i) × (slice_get xs i ≡ Some x))
place-there xs None x there = absurd cc
place-there xs (Some i) x there = (i, (refl, there))

place-none_at : {X : Type 0} (xs : List X) (i : ℕ) (b : Bool) → ltb i (length xs) ≡ b → option_and_then (slice_get xs) (cond b (Some i) None) ≡ None
    → cond b (Some i) None ≡ None
place-none_at xs i true is none = absurd (some_there xs i (ltb-true i (length xs) is) none)
place-none_at xs i false is none = refl

pub place-none : {X : Type 0} (test : X → Bool) (xs : List X) → option_and_then (slice_get xs) (position test xs) ≡ None → (position test xs ≡ None)
place-none test xs none = place-none_at xs (position_or_len test xs) (ltb (position_or_len test xs) (length xs)) refl none

find-last_at : {X : Type 0} (b : Bool) (y x : X) (rest more : Option X) → cond b (Some y) rest ≡ None → (rest ≡ None → more ≡ Some x)
    → cond b (Some y) more ≡ Some x
find-last_at true y x rest more none later = absurd cc
find-last_at false y x rest more none later = later none

pub find-last : {X : Type 0} (test : X → Bool) (xs : List X) (x : X) → find test xs ≡ None → test x ≡ true → find test (xs ++ x ∷ []) ≡ Some x
find-last test [] x none is = ap (λ b. cond b (Some x) None) is
find-last test (y ∷ xs) x none is = find-last_at (test y) y x (find test xs) (find test (xs ++ x ∷ [])) none (λ rest. find-last test xs x rest is)

pub find-miss : {X : Type 0} (test : X → Bool) (xs : List X) (x : X) → test x ≡ false → find test (xs ++ x ∷ []) ≡ find test xs
find-miss test [] x is = ap (λ b. cond b (Some x) None) is
find-miss test (y ∷ xs) x is = ap (cond (test y) (Some y)) (find-miss test xs x is)

pub find-set : {X : Type 0} (test : X → Bool) (xs : List X) (i : ℕ) (x d : X) → i < length xs → ((k : ℕ) → k < i → test (get_or xs k d) ≡ false)
    → test x ≡ true → find test (set xs i x) ≡ Some x
find-set test [] i x d within before is = absurd (omega arith)
find-set test (y ∷ xs) zero x d within before is = ap (λ b. cond b (Some x) (find test xs)) is
find-set test (y ∷ xs) (suc i) x d within before is =
    ap (λ b. cond b (Some y) (find test (set xs i x))) (before 0 (omega arith))
    ∙ find-set test xs i x d (omega arith) (λ k below. before (suc k) (omega arith)) is

find-set-miss : {X : Type 0} (test : X → Bool) (xs : List X) (i : ℕ) (x d : X) → test (get_or xs i d) ≡ false → i < length xs → test x ≡ false
    → find test (set xs i x) ≡ find test xs
find-set-miss test [] i x d was within is = absurd (omega arith)
find-set-miss test (y ∷ xs) zero x d was within is = ap (λ b. cond b (Some x) (find test xs)) is ∙ sym (ap (λ b. cond b (Some y) (find test xs)) was)
find-set-miss test (y ∷ xs) (suc i) x d was within is = ap (cond (test y) (Some y)) (find-set-miss test xs i x d was (omega arith) is)

find-remove : {X : Type 0} (test : X → Bool) (xs : List X) (i : ℕ) (d : X) → test (get_or xs i d) ≡ false → i < length xs
    → find test (remove xs i) ≡ find test xs
find-remove test [] i d was within = absurd (omega arith)
find-remove test (y ∷ xs) zero d was within = sym (ap (λ b. cond b (Some y) (find test xs)) was)
find-remove test (y ∷ xs) (suc i) d was within = ap (cond (test y) (Some y)) (find-remove test xs i d was (omega arith))

-- what isn't one of a name may change
pub find-changed : {K : Type 0} (test : Part K → Bool) (parts : List (Part K)) (place : Option ℕ) (new : Option (Part K)) (d : Part K)
    → ((i : ℕ) → place ≡ Some i → (test (get_or parts i d) ≡ false) × (i < length parts)) → ((part : Part K) → new ≡ Some part → test part ≡ false)
    → find test (changed parts place new) ≡ find test parts
find-changed test parts None None d was is = refl
find-changed test parts None (Some part) d was is = find-miss test parts part (is part refl)
find-changed test parts (Some i) None d was is = find-remove test parts i d (was i refl).0 (was i refl).1
find-changed test parts (Some i) (Some part) d was is = find-set-miss test parts i part d (was i refl).0 (was i refl).1 (is part refl)
