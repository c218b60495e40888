-- What is tried of the rules that an identifier begins with.
use Rattle.std.proofs.Common.{◌≡◌, ◌<◌, ◌≤◌, ◌==◌, nat_lt, ℕ, Bool, true, false, if◌then◌else◌, List, [], ◌∷◌, ◌++◌, length, get_or, Option, Some, None, IfSome, IsSome, All, refl, sym, ◌∙◌, ap, subst, arith, length-append, ◌⊎◌, inl, inr}
use Rattle.std.proofs.Math.ListN.{get_or-append}
use Rattle.std.proofs.Math.Seq.{get_or-append_seam}
use Rattle.std.proofs.lemmas.Bool.{cases_lt}
use Rattle.std.proofs.lemmas.Bool.Decides.{nat_tests}
use Rattle.std.proofs.lemmas.List.{get_or_default}
use Rattle.std.proofs.lemmas.List.Elements.{All-cons, All-from_get_or, All-head, All-nil, All-tail}
use Rattle.gate_base.specs.declared.address.Addr.{Addr}
use Rattle.oid_rules.specs.declared.sorted.Numbered.{Numbered}
use Rattle.oid_rules.specs.Sorted.{by_rule}
use Rattle.oid_rules.specs.Inside.Sorted.{before_at, earlier_of, rule_at, with_rule, AreTried, BeginsAt, InOrder, IsEarly, IsFirst, IsLast, IsTried, OneStandsFor, StandsFor}
use Rattle.oid_rules.proofs.Halving.{arcs_at}
use Rattle.oid_rules.proofs.Prefixes.{begins_goes_on, between_begins}

-- ## One rule more

kept_all : (P : ℕ → Type 0) (sorted : List Numbered) (rest : List ℕ) (one : ℕ) → All P rest → P one → All P (with_rule sorted rest one)
kept_all P sorted [] one all here = All-cons P one [] here (All-nil P)
kept_all P sorted (p ∷ ps) one all here = by_test (before_at sorted p == before_at sorted one)
    (λ other there. kept_all P sorted ps other (All-tail P p ps all) there)
  where
    chosen : (b : Bool) → P (if b then p else one)
    chosen true = All-head P p ps all
    chosen false = here

    by_test : (b : Bool) → ((other : ℕ) → P other → All P (with_rule sorted ps other))
        → All P (if b then with_rule sorted ps (earlier_of sorted one p) else p ∷ with_rule sorted ps one)
    by_test true goes = goes (earlier_of sorted one p) (chosen (nat_lt (rule_at sorted p).number (rule_at sorted one).number))
    by_test false goes = All-cons P p _ (All-head P p ps all) (goes one here)

same_if : (x y : ℕ) → (x == y) ≡ true → x ≡ y
same_if x y e = grind (arith, nat_tests)

-- the earlier one stands for what either stands for
earlier_stands : (sorted : List Numbered) (one p k : ℕ) → before_at sorted p ≡ before_at sorted one
    → StandsFor sorted one k ⊎ StandsFor sorted p k → StandsFor sorted (earlier_of sorted one p) k
earlier_stands sorted one p k same either = by_test (nat_lt (rule_at sorted p).number (rule_at sorted one).number) refl either
  where
    by_test : (b : Bool) → b ≡ nat_lt (rule_at sorted p).number (rule_at sorted one).number → StandsFor sorted one k ⊎ StandsFor sorted p k
        → StandsFor sorted (if b then p else one) k
    by_test true e (inl s) = (let less : (rule_at sorted p).number < (rule_at sorted one).number = grind (arith, nat_tests) in
        record { same = same ∙ s.same; early = omega (arith, less, s.early) })
    by_test true e (inr s) = s
    by_test false e (inl s) = s
    by_test false e (inr s) = (let less : (rule_at sorted one).number ≤ (rule_at sorted p).number = grind (arith, nat_tests) in
        record { same = sym same ∙ s.same; early = omega (arith, less, s.early) })

one_stands : (sorted : List Numbered) (rest : List ℕ) (one k : ℕ) → StandsFor sorted one k → OneStandsFor sorted (with_rule sorted rest one) k
one_stands sorted [] one k stands = inl stands
one_stands sorted (p ∷ ps) one k stands = by_test (before_at sorted p == before_at sorted one) refl
    (λ other there. one_stands sorted ps other k there)
  where
    by_test : (b : Bool) → b ≡ (before_at sorted p == before_at sorted one)
        → ((other : ℕ) → StandsFor sorted other k → OneStandsFor sorted (with_rule sorted ps other) k)
        → OneStandsFor sorted (if b then with_rule sorted ps (earlier_of sorted one p) else p ∷ with_rule sorted ps one) k
    by_test true e goes = goes (earlier_of sorted one p) (earlier_stands sorted one p k
        (same_if (before_at sorted p) (before_at sorted one) (sym e)) (inl stands))
    by_test false e goes = inr (goes one stands)

rest_stands : (sorted : List Numbered) (rest : List ℕ) (one k : ℕ) → OneStandsFor sorted rest k → OneStandsFor sorted (with_rule sorted rest one) k
rest_stands sorted [] one k stands = absurd stands
rest_stands sorted (p ∷ ps) one k stands = by_test (before_at sorted p == before_at sorted one) refl
    (λ other there. rest_stands sorted ps other k there) stands
  where
    by_test : (b : Bool) → b ≡ (before_at sorted p == before_at sorted one)
        → ((other : ℕ) → OneStandsFor sorted ps k → OneStandsFor sorted (with_rule sorted ps other) k)
        → StandsFor sorted p k ⊎ OneStandsFor sorted ps k → OneStandsFor sorted
        (if b then with_rule sorted ps (earlier_of sorted one p) else p ∷ with_rule sorted ps one) k
    by_test true e goes (inl s) = one_stands sorted ps (earlier_of sorted one p) k
        (earlier_stands sorted one p k (same_if (before_at sorted p) (before_at sorted one) (sym e)) (inr s))
    by_test true e goes (inr s) = goes (earlier_of sorted one p) s
    by_test false e goes (inl s) = inl s
    by_test false e goes (inr s) = inr (goes one s)

-- ## From the outer rule on

own_stands : (sorted : List Numbered) (rest : List ℕ) (at k : ℕ) → k ≡ at → OneStandsFor sorted (with_rule sorted rest at) k
own_stands sorted rest at k e = one_stands sorted rest at k (record
    { same = ap (before_at sorted) (sym e); early = omega (arith, ap (λ n. (rule_at sorted n).number) e) })

pub tried_further : (sorted : List Numbered) (outer at : ℕ) (rest : List ℕ) → InOrder sorted → at < length sorted
    → IsLast at sorted (arcs_at sorted at) (Some outer) → IsTried sorted outer rest → IsTried sorted at (with_rule sorted rest at)
tried_further sorted outer at rest order within last tried = record {
  within = kept_all (λ place. place < length sorted) sorted rest at tried.within within;
  begun = λ arcs begins. kept_all (BeginsAt sorted arcs) sorted rest at
      (tried.begun arcs (begins_goes_on (arcs_at sorted outer) (arcs_at sorted at) arcs last.1 begins)) begins;
  every = λ k l begins. elim (cases_lt k at) as (λ o. OneStandsFor sorted (with_rule sorted rest at) k) [
    | inr s ↦ own_stands sorted rest at k (omega (arith, l, s))
    | inl s ↦ elim (cases_lt outer k) as (λ o. OneStandsFor sorted (with_rule sorted rest at) k) [
      | inl m ↦ absurd (last.2 k m s begins)
      | inr m ↦ rest_stands sorted rest at k (tried.every k m
          (between_begins (arcs_at sorted k) (arcs_at sorted outer) (arcs_at sorted at) begins
          (order k outer m (omega (arith, last.0, within))) (λ b. let wrong = sym last.1 ∙ b in cc)))
    ]
  ];
}

pub one_more_tried : (sorted : List Numbered) (tried : List (List ℕ)) (more : List ℕ) → AreTried sorted tried
    → IsTried sorted (length tried) more → AreTried sorted (tried ++ more ∷ [])
one_more_tried sorted tried more h one k l = elim (cases_lt k (length tried)) as (λ o. IsTried sorted k (get_or (tried ++ more ∷ []) k [])) [
  | inl s ↦ subst (IsTried sorted k) (sym (get_or-append tried (more ∷ []) [] k s)) (h k s)
  | inr s ↦
      let e : length tried ≡ k = omega (arith, length-append tried (more ∷ [])) in
      subst (λ n. IsTried sorted n (get_or (tried ++ more ∷ []) n [])) e
      (subst (IsTried sorted (length tried)) (sym (get_or-append_seam tried more [] [])) one)
]

pub tried_there : (sorted : List Numbered) (tried : List (List ℕ)) (k : ℕ) (one xs : List ℕ) → AreTried sorted tried → k < length tried
    → xs ≡ get_or tried k one → IsTried sorted k xs
tried_there sorted tried k one xs h l is = subst (IsTried sorted k) (sym (is ∙ get_or_default tried k one [] l)) (h k l)

-- ## The first one that names an address

early_on : (sorted : List Numbered) (found : Option (ℕ × Addr)) (m n : ℕ) → IsEarly sorted found m → m ≤ n → IsEarly sorted found n
early_on sorted None m n early l = early
early_on sorted (Some p) m n early l = omega (arith, early, l)

stands_early : (address : ℕ → Option ℕ) (sorted : List Numbered) (found : Option (ℕ × Addr)) (tried : List ℕ) (k : ℕ)
    → All (λ p. IsSome (address (before_at sorted p)) → IsEarly sorted found (rule_at sorted p).number) tried → OneStandsFor sorted tried k
    → IsSome (address (before_at sorted k)) → IsEarly sorted found (rule_at sorted k).number
stands_early address sorted found [] k all stands names = absurd stands
stands_early address sorted found (p ∷ ps) k all (inl s) names =
    early_on sorted found (rule_at sorted p).number (rule_at sorted k).number
    (All-head (λ p. IsSome (address (before_at sorted p)) → IsEarly sorted found (rule_at sorted p).number) p ps all
    (subst (λ n. IsSome (address n)) (sym s.same) names)) s.early
stands_early address sorted found (p ∷ ps) k all (inr s) names =
    stands_early address sorted found ps k (All-tail (λ p. IsSome (address (before_at sorted p))
    → IsEarly sorted found (rule_at sorted p).number) p ps all) s names

pub tried_first : (address : ℕ → Option ℕ) (sorted : List Numbered) (arcs : List ℕ) (tried : List ℕ) (last : ℕ) (found : Option (ℕ × Addr))
    → InOrder sorted → IsTried sorted last tried → IsLast (length sorted) sorted arcs (Some last)
    → (All (BeginsAt sorted arcs) tried → IfSome found (λ p. BeginsAt sorted arcs p.0))
    → ((j : ℕ) → j < length tried → IsSome (address (before_at sorted (get_or tried j 0)))
    → IsEarly sorted found (rule_at sorted (get_or tried j 0)).number) → IsFirst (by_rule address) sorted arcs found
tried_first address sorted arcs tried last found order is begins begun early = record {
  found = begun (is.begun arcs begins.1);
  first = λ k l starts names. elim (cases_lt last k) as (λ o. IsEarly sorted found (rule_at sorted k).number) [
    | inl s ↦ absurd (begins.2 k s l starts)
    | inr s ↦ stands_early address sorted found tried k (All-from_get_or
        (λ p. IsSome (address (before_at sorted p)) → IsEarly sorted found (rule_at sorted p).number) tried 0 early)
        (is.every k s (between_begins (arcs_at sorted k) (arcs_at sorted last) arcs starts (order k last s begins.0)
        (λ b. let wrong = sym begins.1 ∙ b in cc))) names
  ];
}
