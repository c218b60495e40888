-- Lists whose elements' numbers rise, so that those whose number lies at a place or below it are the first ones.
use Rattle.std.proofs.Common.{◌≡◌, ◌≤◌, ◌<◌, ◌+◌, ◌-◌, ℕ, zero, suc, true, false, List, [], ◌∷◌, length, get_or, refl, sym, ◌∙◌, ap, arith, cond, inl, inr, map, nat_le, nat_lt, count_by}
use Rattle.std.specs.List.{prefix_len}
use Rattle.std.specs.List.Sorted.{IsNonDecreasingBy, IsPartitionPoint}
use Rattle.std.proofs.lemmas.Bool.{cases_lt, lt-ltb, le-ltb}
use Rattle.std.proofs.lemmas.Bool.Decides.{nat_tests}
use Rattle.std.proofs.lemmas.List.Sums.{prefix_len_is, sum_by-cons}

-- these numbers of the elements rise, from so much on
abbrev pub RisesBy : {X : Type 0} → (X → ℕ) → ℕ → List X → Type 0
RisesBy number least [] = Unit {0}
RisesBy number least (x ∷ xs) = (least ≤ number x) × RisesBy number (number x) xs

least : {X : Type 0} (number : X → ℕ) (xs : List X) (a j : ℕ) (d : X) → j < length xs → RisesBy number a xs → a ≤ number (get_or xs j d)
least number [] a j d l h = absurd (omega arith)
least number (x ∷ xs) a zero d l h = h.0
least number (x ∷ xs) a (suc j) d l h = omega (arith, h.0, least number xs (number x) j d (omega arith) h.1)

pub rises : {X : Type 0} (number : X → ℕ) (xs : List X) (a : ℕ) → RisesBy number a xs → IsNonDecreasingBy number xs
rises number [] a h i j d l m = absurd (omega arith)
rises number (x ∷ xs) a h zero zero d l m = omega arith
rises number (x ∷ xs) a h zero (suc j) d l m = least number xs (number x) j d (omega arith) h.1
rises number (x ∷ xs) a h (suc i) zero d l m = absurd (omega arith)
rises number (x ∷ xs) a h (suc i) (suc j) d l m = rises number xs (number x) h.1 i j d (omega arith) (omega arith)

-- the point up to which the numbers lie at a place or below it
point_is : {X : Type 0} (number : X → ℕ) (xs : List X) (q i : ℕ) (d : X) → i ≤ length xs
    → IsPartitionPoint (λ x. nat_le (number x) q ≡ true) (λ x. nat_le (number x) q ≡ false) xs i → i ≡ prefix_len (λ x. nat_le (number x) q) xs
point_is number xs q i d l h =
    sym (prefix_len_is (λ x. nat_le (number x) q) xs i d l (λ k below. h.0 k d (omega arith) below) (λ below. h.1 i d (omega arith) below))

-- where the first lies above a place, all do
all_above : {X : Type 0} (number : X → ℕ) (xs : List X) (q a : ℕ) → q < a → RisesBy number a xs
    → count_by (λ e. nat_lt q e) (map number xs) ≡ length xs
all_above number [] q a l h = refl
all_above number (x ∷ xs) q a l h =
    let first : nat_lt q (number x) ≡ true = lt-ltb q (number x) (omega (arith, h.0)) in
    sum_by-cons (λ e. cond (nat_lt q e) 1 0) (number x) (map number xs)
    ∙ ap (λ b. cond b 1 0 + count_by (λ e. nat_lt q e) (map number xs)) first
    ∙ ap (λ n. 1 + n) (all_above number xs q (number x) (omega (arith, h.0)) h.1)
    ∙ omega arith

-- those above a place stand behind the others
above_behind : {X : Type 0} (number : X → ℕ) (xs : List X) (q a : ℕ) → RisesBy number a xs
    → count_by (λ e. nat_lt q e) (map number xs) + prefix_len (λ x. nat_le (number x) q) xs ≡ length xs
above_behind number [] q a h = refl
above_behind number (x ∷ xs) q a h =
    let e = number x in
    elim (cases_lt q e) [
      | inl l ↦
          let above : nat_lt q e ≡ true = lt-ltb q e l in
          let no : nat_le e q ≡ false = grind (arith, nat_tests) in
          let all : count_by (λ x. nat_lt q x) (map number (x ∷ xs)) ≡ length (x ∷ xs) = all_above number (x ∷ xs) q e l (omega arith, h.1) in
          ap (λ n. n + prefix_len (λ x. nat_le (number x) q) (x ∷ xs)) all
          ∙ ap (λ b. length (x ∷ xs) + cond b (1 + prefix_len (λ x. nat_le (number x) q) xs) 0) no ∙ omega arith
      | inr l ↦
          let below : nat_lt q e ≡ false = le-ltb q e l in
          let yes_it : nat_le e q ≡ true = grind (arith, nat_tests) in
          let count : count_by (λ x. nat_lt q x) (map number (x ∷ xs)) ≡ count_by (λ x. nat_lt q x) (map number xs) =
          sum_by-cons (λ x. cond (nat_lt q x) 1 0) e (map number xs) ∙ ap (λ b. cond b 1 0 + count_by (λ x. nat_lt q x) (map number xs)) below
          ∙ omega arith in
          ap (λ n. n + prefix_len (λ x. nat_le (number x) q) (x ∷ xs)) count
          ∙ ap (λ b. count_by (λ x. nat_lt q x) (map number xs) + cond b (1 + prefix_len (λ x. nat_le (number x) q) xs) 0) yes_it
          ∙ (let on = above_behind number xs q e h.1 in omega (arith, on))
    ]

pub above_by_point : {X : Type 0} (number : X → ℕ) (xs : List X) (q a i : ℕ) (d : X) → RisesBy number a xs → i ≤ length xs
    → IsPartitionPoint (λ x. nat_le (number x) q ≡ true) (λ x. nat_le (number x) q ≡ false) xs i
    → length xs - i ≡ count_by (λ e. nat_lt q e) (map number xs)
above_by_point number xs q a i d h l p = let point : i ≡ prefix_len (λ x. nat_le (number x) q) xs = point_is number xs q i d l p in
    omega (arith, point, above_behind number xs q a h)
