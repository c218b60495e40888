-- The order of arcs, and prefixes in it.
use Rattle.std.proofs.Common.{◌≡◌, ◌<◌, ◌==◌, nat_eq, nat_lt, ℕ, true, false, if◌then◌else◌, List, [], ◌∷◌, length, ◌&&◌, refl, sym, ◌∙◌, ap, arith, ◌⊎◌, inl, inr}
use Rattle.std.specs.List.{starts_with}
use Rattle.std.specs.Ordering.{nat_cmp, is_lt, ordering_then}
use Rattle.std.specs.Cmp.{nat_cmp_is}
use Rattle.std.specs.Cmp.Lexicographic.{slice_cmp}
use Rattle.std.specs.declared.cmp.Ordering.TheVariants.{Less, Equal}
use Rattle.std.proofs.lemmas.Bool.{cases_order, and_parts}
use Rattle.std.proofs.lemmas.Bool.Decides.{nat_tests}
use Rattle.oid_rules.specs.declared.sorted.Compared.TheVariants.{Before, Begins, Behind}
use Rattle.oid_rules.specs.Sorted.{compared, order_of}

-- ## Lists that begin with these arcs

same_first : (x y : ℕ) (xs ys : List ℕ) → x ≡ y → compared (x ∷ xs) (y ∷ ys) ≡ compared xs ys
same_first x y xs ys e = (let t : (x == y) ≡ true = grind (arith, nat_tests) in ap (λ b. if b then compared xs ys else order_of x y) t)

less_first : (x y : ℕ) (xs ys : List ℕ) → x < y → compared (x ∷ xs) (y ∷ ys) ≡ Before
less_first x y xs ys l =
    let t : (x == y) ≡ false = grind (arith, nat_tests) in
    let u : nat_lt x y ≡ true = grind (arith, nat_tests) in
    ap (λ b. if b then compared xs ys else order_of x y) t ∙ ap (λ b. if b then Before else Behind) u

greater_first : (x y : ℕ) (xs ys : List ℕ) → y < x → compared (x ∷ xs) (y ∷ ys) ≡ Behind
greater_first x y xs ys l =
    let t : (x == y) ≡ false = grind (arith, nat_tests) in
    let u : nat_lt x y ≡ false = grind (arith, nat_tests) in
    ap (λ b. if b then compared xs ys else order_of x y) t ∙ ap (λ b. if b then Before else Behind) u

-- how lists stand of which the first doesn't come before the second
not_before : (x y : ℕ) (xs ys : List ℕ) → (compared (x ∷ xs) (y ∷ ys) ≡ Before → ⊥) → (x ≡ y) ⊎ (y < x)
not_before x y xs ys f = elim (cases_order x y) as (λ o. (x ≡ y) ⊎ (y < x)) [
  | inl e ↦ inl e
  | inr (inl l) ↦ absurd (f (less_first x y xs ys l))
  | inr (inr l) ↦ inr l
]

record Both (x y : ℕ) (xs ys : List ℕ) : Type 0 where
  first : x ≡ y
  rest : compared xs ys ≡ Begins

both_begin : (x y : ℕ) (xs ys : List ℕ) → compared (x ∷ xs) (y ∷ ys) ≡ Begins → Both x y xs ys
both_begin x y xs ys b = elim (cases_order x y) as (λ o. Both x y xs ys) [
  | inl e ↦ record { first = e; rest = sym (same_first x y xs ys e) ∙ b }
  | inr (inl l) ↦ (let wrong = sym (less_first x y xs ys l) ∙ b in absurd cc)
  | inr (inr l) ↦ (let wrong = sym (greater_first x y xs ys l) ∙ b in absurd cc)
]

-- arcs that end come before those that go on
pub none_before : (xs ys : List ℕ) → length xs ≡ 0 → 0 < length ys → Before ≡ compared xs ys
none_before xs [] e l = absurd (omega arith)
none_before [] (y ∷ ys) e l = refl
none_before (x ∷ xs) (y ∷ ys) e l = absurd (omega arith)

-- ## The order

-- what comes behind something comes behind all that this comes behind
pub order_goes_on : (a b c : List ℕ) → (compared b a ≡ Before → ⊥) → (compared c b ≡ Before → ⊥) → compared c a ≡ Before → ⊥
order_goes_on [] b c f g e = cc
order_goes_on (x ∷ xs) [] c f g e = f refl
order_goes_on (x ∷ xs) (y ∷ ys) [] f g e = g refl
order_goes_on (x ∷ xs) (y ∷ ys) (z ∷ zs) f g e = elim (not_before y x ys xs f) as (λ o. ⊥) [
  | inr l ↦ elim (not_before z y zs ys g) as (λ o. ⊥) [
    | inl s ↦ (let wrong = sym (greater_first z x zs xs (omega arith)) ∙ e in cc)
    | inr m ↦ (let wrong = sym (greater_first z x zs xs (omega arith)) ∙ e in cc)
  ]
  | inl s ↦ elim (not_before z y zs ys g) as (λ o. ⊥) [
    | inl t ↦ order_goes_on xs ys zs (λ h. f (same_first y x ys xs s ∙ h)) (λ h. g (same_first z y zs ys t ∙ h))
        (sym (same_first z x zs xs (t ∙ s)) ∙ e)
    | inr m ↦ (let wrong = sym (greater_first z x zs xs (omega arith)) ∙ e in cc)
  ]
]

-- what stands between a prefix and a list that begins with it begins with it
pub between_begins : (p t s : List ℕ) → compared s p ≡ Begins → (compared t p ≡ Before → ⊥) → (compared s t ≡ Before → ⊥) → compared t p ≡ Begins
between_begins [] t s b f g = refl
between_begins (x ∷ xs) t [] b f g = absurd cc
between_begins (x ∷ xs) [] (z ∷ zs) b f g = absurd (f refl)
between_begins (x ∷ xs) (y ∷ ys) (z ∷ zs) b f g =
    let both = both_begin z x zs xs b in
    elim (not_before y x ys xs f) as (λ o. compared (y ∷ ys) (x ∷ xs) ≡ Begins) [
      | inr l ↦ absurd (g (less_first z y zs ys (omega (arith, both.first))))
      | inl s ↦ same_first y x ys xs s ∙ between_begins xs ys zs both.rest (λ h. f (same_first y x ys xs s ∙ h))
          (λ h. g (same_first z y zs ys (both.first ∙ sym s) ∙ h))
    ]

pub begins_goes_on : (p q s : List ℕ) → compared q p ≡ Begins → compared s q ≡ Begins → compared s p ≡ Begins
begins_goes_on [] q s a b = refl
begins_goes_on (x ∷ xs) [] s a b = absurd cc
begins_goes_on (x ∷ xs) (y ∷ ys) [] a b = absurd cc
begins_goes_on (x ∷ xs) (y ∷ ys) (z ∷ zs) a b =
    let first = both_begin y x ys xs a in
    let second = both_begin z y zs ys b in
    same_first z x zs xs (second.first ∙ first.first) ∙ begins_goes_on xs ys zs first.rest second.rest

-- ## The same in the words of std

pub starts_begins : (s p : List ℕ) → starts_with nat_eq s p ≡ true → compared s p ≡ Begins
starts_begins s [] h = refl
starts_begins [] (x ∷ xs) h = absurd cc
starts_begins (z ∷ zs) (x ∷ xs) h =
    let parts = and_parts (nat_eq x z) (starts_with nat_eq zs xs) h in
    let e : z ≡ x = grind (arith, nat_tests, parts.0) in
    same_first z x zs xs e ∙ starts_begins zs xs parts.1

pub begins_starts : (s p : List ℕ) → compared s p ≡ Begins → starts_with nat_eq s p ≡ true
begins_starts s [] h = refl
begins_starts [] (x ∷ xs) h = absurd cc
begins_starts (z ∷ zs) (x ∷ xs) h =
    let both = both_begin z x zs xs h in
    let t : nat_eq x z ≡ true = grind (arith, nat_tests, both.first) in
    ap (λ b. b && starts_with nat_eq zs xs) t ∙ begins_starts zs xs both.rest

before_less : (xs ys : List ℕ) → compared xs ys ≡ Before → is_lt (slice_cmp nat_cmp xs ys) ≡ true
before_less xs [] h = absurd cc
before_less [] (y ∷ ys) h = refl
before_less (x ∷ xs) (y ∷ ys) h = elim (cases_order x y) as (λ o. is_lt (slice_cmp nat_cmp (x ∷ xs) (y ∷ ys)) ≡ true) [
  | inl e ↦ ap (λ o. is_lt (ordering_then o (slice_cmp nat_cmp xs ys))) (sym (nat_cmp_is x y Equal e))
      ∙ before_less xs ys (sym (same_first x y xs ys e) ∙ h)
  | inr (inl l) ↦ ap (λ o. is_lt (ordering_then o (slice_cmp nat_cmp xs ys))) (sym (nat_cmp_is x y Less l))
  | inr (inr l) ↦ (let wrong = sym (greater_first x y xs ys l) ∙ h in absurd cc)
]

pub not_less : (xs ys : List ℕ) → is_lt (slice_cmp nat_cmp xs ys) ≡ false → compared xs ys ≡ Before → ⊥
not_less xs ys not b = let wrong = sym (before_less xs ys b) ∙ not in cc
