-- What halving finds among sorted rules, and what follows by the outer ones.
use Rattle.std.proofs.Common.{◌≡◌, ◌<◌, ◌≤◌, ◌+◌, ℕ, Bool, true, false, List, [], ◌∷◌, ◌++◌, length, get_or, Option, Some, None, IfSome, refl, sym, ◌∙◌, subst, arith, length-append, inl, inr}
use Rattle.std.proofs.Math.ListN.{get_or-append}
use Rattle.std.proofs.Math.Seq.{get_or-append_seam}
use Rattle.std.proofs.lemmas.Bool.{cases_lt, cases_order}
use Rattle.std.proofs.lemmas.List.{get_or_default}
use Rattle.oid_rules.specs.declared.sorted.Compared.{Compared}
use Rattle.oid_rules.specs.declared.sorted.Compared.TheVariants.{Before, Begins, Behind}
use Rattle.oid_rules.specs.declared.sorted.Numbered.{Numbered}
use Rattle.oid_rules.specs.Sorted.{compared}
use Rattle.oid_rules.specs.Inside.Sorted.{rule_at, AreOuter, BeginsAt, Halves, InOrder, IsDone, IsLast}
use Rattle.oid_rules.proofs.Prefixes.{order_goes_on, between_begins}

-- the arcs of the rule at a place
abbrev pub arcs_at : List Numbered → ℕ → List ℕ
arcs_at sorted place = (rule_at sorted place).rule.prefix

pub at_rule : (sorted : List Numbered) (i : ℕ) (one : Numbered) → i < length sorted → get_or sorted i one ≡ rule_at sorted i
at_rule sorted i one l = get_or_default sorted i one _ l

-- ## Halving

before_if : (c : Compared) → ((c ≡ Before → ⊥) → ⊥) → c ≡ Before
before_if Before h = refl
before_if Begins h = absurd (h (λ e. cc))
before_if Behind h = absurd (h (λ e. cc))

pub half_above : (sorted : List Numbered) (count low high middle : ℕ) (arcs : List ℕ) (begins : Bool) → InOrder sorted → count ≤ length sorted
    → Before ≡ compared arcs (arcs_at sorted middle) → Halves count low high sorted arcs begins → Halves count low middle sorted arcs begins
half_above sorted count low high middle arcs begins order few is h = record {
  below = h.below;
  above = λ k l m. before_if (compared arcs (arcs_at sorted k))
      (λ f. order_goes_on (arcs_at sorted middle) (arcs_at sorted k) arcs (order middle k l (omega arith)) f (sym is));
  last = h.last;
  other = h.other;
}

pub half_below : (sorted : List Numbered) (count low high middle : ℕ) (arcs : List ℕ) (old begins : Bool) (c : Compared) → InOrder sorted
    → middle < high → high ≤ count → count ≤ length sorted → c ≡ compared arcs (arcs_at sorted middle) → (c ≡ Before → ⊥)
    → (begins ≡ true → c ≡ Begins) → (begins ≡ false → c ≡ Begins → ⊥) → Halves count low high sorted arcs old
    → Halves count (middle + 1) high sorted arcs begins
half_below sorted count low high middle arcs old begins c order less within few is not yes_is no_is h = record {
  below = λ k l e. order_goes_on (arcs_at sorted k) (arcs_at sorted middle) arcs (order k middle (omega arith) (omega arith)) (λ b. not (is ∙ b)) e;
  above = h.above;
  last = λ k l b. subst (λ n. compared arcs (arcs_at sorted n) ≡ Begins) (let e : middle ≡ k = omega arith in e) (sym is ∙ yes_is b);
  other = λ k l b e. no_is b (is ∙ subst (λ n. compared arcs (arcs_at sorted n) ≡ Begins) (let e : k ≡ middle = omega arith in e) e);
}

-- ## What follows by the outer ones

-- no rule below one that arcs don't come before, but behind its outer one, begins them
pub none_between : (sorted : List Numbered) (outer : Option ℕ) (at k : ℕ) (arcs : List ℕ) → InOrder sorted → at < length sorted
    → IsLast at sorted (arcs_at sorted at) outer → (compared arcs (arcs_at sorted at) ≡ Before → ⊥) → k < at → IsDone outer k → BeginsAt sorted arcs k
    → ⊥
none_between sorted None at k arcs order within last not less done begins =
    last k less (between_begins (arcs_at sorted k) (arcs_at sorted at) arcs begins (order k at (omega arith) within) not)
none_between sorted (Some place) at k arcs order within last not less done begins =
    last.2 k done less (between_begins (arcs_at sorted k) (arcs_at sorted at) arcs begins (order k at (omega arith) within) not)

-- what is known of a place behind which nothing begins arcs, and of its outer one
pub record Beneath (sorted : List Numbered) (count : ℕ) (arcs : List ℕ) (place : Option ℕ) : Type 0 where
  pub within : IfSome place (λ at. at < count)
  pub below : IfSome place (λ at. compared arcs (arcs_at sorted at) ≡ Before → ⊥)
  pub others : (k : ℕ) → k < count → IsDone place k → BeginsAt sorted arcs k → ⊥

pub outer_within : (sorted : List Numbered) (outer : Option ℕ) (at count : ℕ) → at < count → IsLast at sorted (arcs_at sorted at) outer
    → IfSome outer (λ p. p < count)
outer_within sorted None at count l last = tt
outer_within sorted (Some p) at count l last = omega (arith, last.0)

outer_below : (sorted : List Numbered) (outer : Option ℕ) (at : ℕ) (arcs : List ℕ) → InOrder sorted → at < length sorted
    → IsLast at sorted (arcs_at sorted at) outer → (compared arcs (arcs_at sorted at) ≡ Before → ⊥)
    → IfSome outer (λ p. compared arcs (arcs_at sorted p) ≡ Before → ⊥)
outer_below sorted None at arcs order l last not = tt
outer_below sorted (Some p) at arcs order l last not = λ e. order_goes_on (arcs_at sorted p) (arcs_at sorted at) arcs
    (order p at (omega (arith, last.0)) l) not e

pub beneath_outer : (sorted : List Numbered) (outer : Option ℕ) (at count : ℕ) (arcs : List ℕ) → InOrder sorted → at < count → count ≤ length sorted
    → IsLast at sorted (arcs_at sorted at) outer → (compared arcs (arcs_at sorted at) ≡ Before → ⊥) → (BeginsAt sorted arcs at → ⊥)
    → ((k : ℕ) → at < k → k < count → BeginsAt sorted arcs k → ⊥) → Beneath sorted count arcs outer
beneath_outer sorted outer at count arcs order l few last not here behind = record {
  within = outer_within sorted outer at count l last;
  below = outer_below sorted outer at arcs order (omega arith) last not;
  others = λ k m done begins. elim (cases_order k at) as (λ o. ⊥) [
    | inl e ↦ here (subst (BeginsAt sorted arcs) e begins)
    | inr (inl s) ↦ none_between sorted outer at k arcs order (omega arith) last not s done begins
    | inr (inr s) ↦ behind k s m begins
  ];
}

-- ## From halving to the last rule

pub nothing_begun : (sorted : List Numbered) (count n : ℕ) (arcs : List ℕ) (begins : Bool) → n ≡ 0 → Halves count n n sorted arcs begins
    → IsLast count sorted arcs None
nothing_begun sorted count n arcs begins e h = λ k l b. let wrong = sym (h.above k (omega arith) l) ∙ b in cc

pub last_is : (sorted : List Numbered) (count n last : ℕ) (arcs : List ℕ) → last + 1 ≡ n → n ≤ count → Halves count n n sorted arcs true
    → IsLast count sorted arcs (Some last)
last_is sorted count n last arcs e l h = (omega arith, h.last last e refl, λ k m o b. let wrong = sym (h.above k (omega arith) o) ∙ b in cc)

pub beneath_last : (sorted : List Numbered) (outer : Option ℕ) (count n last : ℕ) (arcs : List ℕ) → last + 1 ≡ n → n ≤ count → count ≤ length sorted
    → InOrder sorted → IsLast last sorted (arcs_at sorted last) outer → Halves count n n sorted arcs false → Beneath sorted count arcs outer
beneath_last sorted outer count n last arcs e l few order is h = beneath_outer sorted outer last count arcs order (omega arith) few is
    (h.below last (omega arith)) (h.other last e refl)
    (λ k m o b. let wrong = sym (h.above k (omega arith) o) ∙ b in cc)

-- ## One more outer one

pub one_more : (sorted : List Numbered) (outer : List (Option ℕ)) (more : Option ℕ) → AreOuter sorted outer
    → IsLast (length outer) sorted (arcs_at sorted (length outer)) more → AreOuter sorted (outer ++ more ∷ [])
one_more sorted outer more h last k l = elim (cases_lt k (length outer)) as
    (λ o. IsLast k sorted (arcs_at sorted k) (get_or (outer ++ more ∷ []) k None)) [
      | inl s ↦ subst (IsLast k sorted (arcs_at sorted k)) (sym (get_or-append outer (more ∷ []) None k s)) (h k s)
      | inr s ↦
          let e : length outer ≡ k = omega (arith, length-append outer (more ∷ [])) in
          subst (λ n. IsLast n sorted (arcs_at sorted n) (get_or (outer ++ more ∷ []) n None)) e
          (subst (IsLast (length outer) sorted (arcs_at sorted (length outer))) (sym (get_or-append_seam outer more [] None)) last)
    ]
