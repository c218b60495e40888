-- Lists whose elements are found, removed or read as others.
use Rattle.std.proofs.Common.{◌≡◌, ℕ, zero, suc, Bool, true, false, cond, List, [], ◌∷◌, map, take, drop, set, position, Some, refl, sym, ◌∙◌, ap, subst, true≢false}
use Rattle.std.specs.List.{find, filter, remove, position_or_len}
use Rattle.std.proofs.lemmas.List.{length-map, map-append, take-map, drop-map}

pub find_passes : {A : Type 0} (p : A → Bool) (xs : List A) (x : A) → find p xs ≡ Some x → p x ≡ true
find_passes p [] x e = cc
find_passes {A = A} p (y ∷ ys) x e = by_test (p y) (λ k. find_passes p ys x k) refl e
  where
    by_test : (b : Bool) → (find p ys ≡ Some x → p x ≡ true) → p y ≡ b → cond b (Some y) (find p ys) ≡ Some x → p x ≡ true
    by_test true more h e = let same : y ≡ x = cc in subst (λ (z : A). p z ≡ true) same h
    by_test false more h e = more e

pub find_filter : {A : Type 0} (p q : A → Bool) (xs : List A) (x : A) → find p xs ≡ Some x → q x ≡ true → find p (filter q xs) ≡ Some x
find_filter p q [] x e k = cc
find_filter {A = A} p q (y ∷ ys) x e k = by_tests (p y) (q y) (λ h. find_filter p q ys x h k) refl refl e
  where
    by_tests : (b c : Bool) → (find p ys ≡ Some x → find p (filter q ys) ≡ Some x) → p y ≡ b → q y ≡ c → cond b (Some y) (find p ys) ≡ Some x
        → find p (cond c (y ∷ filter q ys) (filter q ys)) ≡ Some x
    by_tests true true more h i e = rw h e
    by_tests true false more h i e = let same : y ≡ x = cc in absurd (true≢false (sym k ∙ ap q (sym same) ∙ i))
    by_tests false true more h i e = rw h (more e)
    by_tests false false more h i e = more e

pub remove_set : {A : Type 0} (xs : List A) (i : ℕ) (y : A) → remove (set xs i y) i ≡ remove xs i
remove_set [] i y = refl
remove_set (x ∷ xs) zero y = refl
remove_set (x ∷ xs) (suc i) y = ap (λ ys. x ∷ ys) (remove_set xs i y)

-- ## Lists read as others

pub filter_as : {A B : Type 0} (f : A → B) (p : B → Bool) (q : A → Bool) → ((x : A) → p (f x) ≡ q x) → (xs : List A)
    → filter p (map f xs) ≡ map f (filter q xs)
filter_as f p q same [] = refl
filter_as f p q same (x ∷ xs) = rw (same x) (by_test (q x) (filter_as f p q same xs))
  where
    by_test : (b : Bool) → filter p (map f xs) ≡ map f (filter q xs) → cond b (f x ∷ filter p (map f xs)) (filter p (map f xs))
        ≡ map f (cond b (x ∷ filter q xs) (filter q xs))
    by_test true e = ap (λ ys. f x ∷ ys) e
    by_test false e = e

place_as : {A B : Type 0} (f : A → B) (p : B → Bool) (q : A → Bool) → ((x : A) → p (f x) ≡ q x) → (xs : List A)
    → position_or_len p (map f xs) ≡ position_or_len q xs
place_as f p q same [] = refl
place_as f p q same (x ∷ xs) = rw (same x, place_as f p q same xs) refl

pub position_as : {A B : Type 0} (f : A → B) (p : B → Bool) (q : A → Bool) → ((x : A) → p (f x) ≡ q x) → (xs : List A)
    → position p (map f xs) ≡ position q xs
position_as f p q same xs = rw (place_as f p q same xs, length-map) refl

pub remove_as : {A B : Type 0} (f : A → B) (i : ℕ) (xs : List A) → remove (map f xs) i ≡ map f (remove xs i)
remove_as f i xs = rw (take-map f i xs, drop-map f (suc i) xs) (sym (map-append f (take i xs) (drop (suc i) xs)))
