-- Tables, tests and counts over the places below a bound.
use Rattle.std.proofs.Common.{◌≡◌, ℕ, zero, suc, ◌+◌, ◌-◌, ◌<◌, ◌≤◌, Bool, true, false, ◌&&◌, ◌||◌, eqb, cond, List, length, get_or, refl, sym, ap, ◌∙◌, arith, ◌⊎◌, inl, inr}
use Rattle.std.proofs.lemmas.Bool.{cases_eq, cases_lt, eq-eqb, ne_eqb, and_parts, and_right, or_parts}
use Rattle.std.proofs.lemmas.List.{get_or_past}
use Rattle.std.proofs.lemmas.List.FromFn.{length-map-range_with_len, get_or-map-range_with_len, fill_by_all}
use Rattle.frag_join.specs.Prelude.{table, any_below, count_below}
use Rattle.frag_join.specs.Places.{all_below}

-- ## Tables

pub length-table : {X : Type 0} (at : ℕ → X) (bound : ℕ) → length (table at bound) ≡ bound
length-table at bound = length-map-range_with_len at 0 bound

pub at-table : {X : Type 0} (at : ℕ → X) (bound place : ℕ) (d : X) → place < bound → get_or (table at bound) place d ≡ at place
at-table at bound place d below = get_or-map-range_with_len at 0 bound place place d below (omega arith)

pub past-table : {X : Type 0} (at : ℕ → X) (bound place : ℕ) (d : X) → bound ≤ place → get_or (table at bound) place d ≡ d
past-table at bound place d past = get_or_past (table at bound) place d (omega (arith, length-table at bound))

-- a list is the table of what stands in it
pub is-table : {X : Type 0} (at : ℕ → X) (xs : List X) (bound : ℕ) (d : X) → length xs ≡ bound
    → ((place : ℕ) → place < bound → get_or xs place d ≡ at place) → xs ≡ table at bound
is-table at xs bound d long same = fill_by_all at xs bound d long same

pub same-tables : {X : Type 0} (at other : ℕ → X) (bound : ℕ) (d : X) → ((place : ℕ) → place < bound → at place ≡ other place)
    → table at bound ≡ table other bound
same-tables at other bound d same = is-table other (table at bound) bound d (length-table at bound)
    (λ place below. at-table at bound place d below ∙ same place below)

-- ## Tests

pub same-all : (test other : ℕ → Bool) (bound : ℕ) → ((place : ℕ) → place < bound → test place ≡ other place)
    → all_below test bound ≡ all_below other bound
same-all test other zero same = refl
same-all test other (suc n) same =
    ap (λ b. b && test n) (same-all test other n (λ place below. same place (omega arith))) ∙ ap (λ b. all_below other n && b) (same n (omega arith))

pub same-count : (test other : ℕ → Bool) (bound : ℕ) → ((place : ℕ) → place < bound → test place ≡ other place)
    → count_below test bound ≡ count_below other bound
same-count test other zero same = refl
same-count test other (suc n) same =
    ap (λ m. m + cond (test n) 1 0) (same-count test other n (λ place below. same place (omega arith)))
    ∙ ap (λ b. count_below other n + cond b 1 0) (same n (omega arith))

pub none-any : (test : ℕ → Bool) (bound : ℕ) → ((place : ℕ) → place < bound → test place ≡ false) → any_below test bound ≡ false
none-any test zero none = refl
none-any test (suc n) none = ap (λ b. b || test n) (none-any test n (λ place below. none place (omega arith))) ∙ none n (omega arith)

none-any_at : (test : ℕ → Bool) (n place : ℕ) → (any_below test n ≡ false → place < n → test place ≡ false) → any_below test (suc n) ≡ false
    → place < suc n → (place < n) ⊎ (n ≤ place) → test place ≡ false
none-any_at test n place before none below (inl less) = before (or_parts (any_below test n) (test n) none).0 less
none-any_at test n place before none below (inr more) = let last : place ≡ n = omega arith in ap test last
    ∙ (or_parts (any_below test n) (test n) none).1

-- where none passes, each fails
pub any-none : (test : ℕ → Bool) (bound place : ℕ) → any_below test bound ≡ false → place < bound → test place ≡ false
any-none test zero place none below = absurd (omega arith)
any-none test (suc n) place none below = none-any_at test n place (any-none test n place) none below (cases_lt place n)

pub each-all : (test : ℕ → Bool) (bound : ℕ) → ((place : ℕ) → place < bound → test place ≡ true) → all_below test bound ≡ true
each-all test zero each = refl
each-all test (suc n) each = ap (λ b. b && test n) (each-all test n (λ place below. each place (omega arith))) ∙ each n (omega arith)

all-each_at : (test : ℕ → Bool) (n place : ℕ) → (all_below test n ≡ true → place < n → test place ≡ true) → all_below test (suc n) ≡ true
    → place < suc n → (place < n) ⊎ (n ≤ place) → test place ≡ true
all-each_at test n place before all below (inl less) = before (and_parts (all_below test n) (test n) all).0 less
all-each_at test n place before all below (inr more) = let last : place ≡ n = omega arith in ap test last
    ∙ (and_parts (all_below test n) (test n) all).1

pub all-each : (test : ℕ → Bool) (bound place : ℕ) → all_below test bound ≡ true → place < bound → test place ≡ true
all-each test zero place all below = absurd (omega arith)
all-each test (suc n) place all below = all-each_at test n place (all-each test n place) all below (cases_lt place n)

-- ## Counts

one_at_most : (b : Bool) → cond b 1 0 ≤ 1
one_at_most true = omega arith
one_at_most false = omega arith

pub count-le : (test : ℕ → Bool) (bound : ℕ) → count_below test bound ≤ bound
count-le test zero = omega arith
count-le test (suc n) = omega (arith, count-le test n, one_at_most (test n))

pub none-count : (test : ℕ → Bool) (bound : ℕ) → ((place : ℕ) → place < bound → test place ≡ false) → count_below test bound ≡ 0
none-count test zero none = refl
none-count test (suc n) none = ap (λ b. count_below test n + cond b 1 0) (none n (omega arith))
    ∙ omega (arith, none-count test n (λ place below. none place (omega arith)))

-- no place between two bounds passes
pub count-on : (test : ℕ → Bool) (low more : ℕ) → ((place : ℕ) → low ≤ place → test place ≡ false)
    → count_below test (low + more) ≡ count_below test low
count-on test low zero none = ap (count_below test) (omega arith)
count-on test low (suc n) none =
    let one : low + suc n ≡ suc (low + n) = omega arith in
    ap (count_below test) one ∙ ap (λ b. count_below test (low + n) + cond b 1 0) (none (low + n) (omega arith))
    ∙ omega (arith, count-on test low n none)

pub count-from : (test : ℕ → Bool) (low high : ℕ) → low ≤ high → ((place : ℕ) → low ≤ place → test place ≡ false)
    → count_below test high ≡ count_below test low
count-from test low high up none = let e : high ≡ low + (high - low) = omega arith in ap (count_below test) e ∙ count-on test low (high - low) none

and-true : (x : Bool) → (x && true) ≡ x
and-true true = refl
and-true false = refl

same-eqb_at : (a b c d : ℕ) → a + 1 ≡ c → b + 1 ≡ d → (a ≡ b) ⊎ (a ≡ b → ⊥) → eqb a b ≡ eqb c d
same-eqb_at a b c d e f (inl same) = eq-eqb a b same ∙ sym (eq-eqb c d (omega arith))
same-eqb_at a b c d e f (inr other) = ne_eqb a b other ∙ sym (ne_eqb c d (λ g. other (omega arith)))

same-eqb : (a b c d : ℕ) → a + 1 ≡ c → b + 1 ≡ d → eqb a b ≡ eqb c d
same-eqb a b c d e f = same-eqb_at a b c d e f (cases_eq a b)

counted_next : (all last : Bool) (count n : ℕ) → count ≤ n → all ≡ eqb count n → (all && last) ≡ eqb (count + cond last 1 0) (suc n)
counted_next all true count n few same = and-true all ∙ same ∙ same-eqb count n (count + 1) (suc n) (omega arith) (omega arith)
counted_next all false count n few same = and_right all false refl ∙ sym (ne_eqb (count + 0) (suc n) (λ e. omega arith))

-- all pass where as many pass as there are
pub all-counted : (test : ℕ → Bool) (bound : ℕ) → all_below test bound ≡ eqb (count_below test bound) bound
all-counted test zero = refl
all-counted test (suc n) = counted_next (all_below test n) (test n) (count_below test n) n (count-le test n) (all-counted test n)

count_more : (a b c : Bool) (x y z : ℕ) → cond a 1 0 ≡ cond b 1 0 + cond c 1 0 → x ≡ y + z → x + cond a 1 0 ≡ (y + cond b 1 0) + (z + cond c 1 0)
count_more a b c x y z one sum = omega arith

-- what passes passes one of two tests, and none passes both
pub count-sum : (test one other : ℕ → Bool) (bound : ℕ)
    → ((place : ℕ) → place < bound → cond (test place) 1 0 ≡ cond (one place) 1 0 + cond (other place) 1 0)
    → count_below test bound ≡ count_below one bound + count_below other bound
count-sum test one other zero each = omega arith
count-sum test one other (suc n) each =
    count_more (test n) (one n) (other n) _ _ _ (each n (omega arith)) (count-sum test one other n (λ place below. each place (omega arith)))
