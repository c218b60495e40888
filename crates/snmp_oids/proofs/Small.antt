-- The first sub-identifiers, each by its place.
use Rattle.std.proofs.Common.{◌≡◌, ℕ, zero, suc, ◌+◌, ◌-◌, ◌<◌, ◌≤◌, Bool, true, false, nat_le, if◌then◌else◌, List, [], ◌∷◌, drop, length, get_or, Option, Some, None, option_map, option_and_then, is_some, IsSome, refl, ap, sym, ◌∙◌, arith, inl, inr}
use Rattle.std.proofs.Math.ListN.{replicate, set}
use Rattle.std.proofs.lemmas.Bool.{cases_lt, cases_order}
use Rattle.std.proofs.lemmas.List.{get_or-set_same, get_or-set_other}
use Rattle.gate_base.specs.Prelude.{◌>>=◌}
use Rattle.snmp_oids.specs.Arcs.{address_of, arcs_of, small_first}
use Rattle.snmp_oids.specs.Inside.Arcs.{four_at, four_of, numbers_in, small, small_at}
use Rattle.snmp_oids.proofs.Places.{arcs_are, drop_arcs}
use Rattle.snmp_oids.proofs.SubIdentifiers.{all_of}

-- what stands at a place
pub small_head : (ns : List ℕ) (place n : ℕ) (ms : List ℕ) → drop place ns ≡ n ∷ ms → small_at ns place ≡ small n
small_head [] zero n ms e = cc
small_head [] (suc place) n ms e = cc
small_head (m ∷ ns) zero n ms e = ap (λ (xs : List ℕ). small_at xs 0) e
small_head (m ∷ ns) (suc place) n ms e = small_head ns place n ms e

pub small_past : (ns : List ℕ) (place k : ℕ) → drop place ns ≡ [] → place ≤ k → small_at ns k ≡ None
small_past [] place k e l = refl
small_past (m ∷ ns) zero k e l = cc
small_past (m ∷ ns) (suc place) zero e l = absurd (omega arith)
small_past (m ∷ ns) (suc place) (suc k) e l = small_past ns place k e (omega arith)

pub drop_next : (ns : List ℕ) (place n : ℕ) (ms : List ℕ) → drop place ns ≡ n ∷ ms → drop (place + 1) ns ≡ ms
drop_next [] zero n ms e = cc
drop_next [] (suc place) n ms e = cc
drop_next (m ∷ ns) zero n ms e = ap (drop 1) e
drop_next (m ∷ ns) (suc place) n ms e = (let more : suc place + 1 ≡ suc (place + 1) = omega arith in
    ap (λ k. drop k (m ∷ ns)) more ∙ drop_next ns place n ms e)

-- ## One more that is kept

pub nothing_kept : (count k : ℕ) → get_or {A = Option ℕ} (replicate count None) k None ≡ None
nothing_kept zero k = refl
nothing_kept (suc count) zero = refl
nothing_kept (suc count) (suc k) = nothing_kept count k

pub kept_next : (ns : List ℕ) (place n : ℕ) (ms : List ℕ) (kept : List (Option ℕ)) (one : Option ℕ) (k : ℕ) → place < length kept
    → drop place ns ≡ n ∷ ms → one ≡ small n → ((j : ℕ) → j < place → get_or kept j None ≡ small_at ns j) → k < place + 1
    → get_or (set kept place one) k None ≡ small_at ns k
kept_next ns place n ms kept one k within is one_is before l =
    elim (cases_order k place) as (λ o. get_or (set kept place one) k None ≡ small_at ns k) [
      | inl e ↦ ap (λ j. get_or (set kept place one) j None) e ∙ get_or-set_same kept place one None within ∙ one_is
          ∙ sym (small_head ns place n ms is) ∙ ap (small_at ns) (sym e)
      | inr (inl s) ↦ get_or-set_other kept place k one None (λ e. let wrong : ⊥ = omega (arith, e, s) in wrong) ∙ before k s
      | inr (inr s) ↦ absurd (omega arith)
    ]

pub left_next : (place : ℕ) (kept : List (Option ℕ)) (one : Option ℕ) (k : ℕ) → ((j : ℕ) → place ≤ j → get_or kept j None ≡ None)
    → place + 1 ≤ k → get_or (set kept place one) k None ≡ None
left_next place kept one k before l = get_or-set_other kept place k one None (λ e. let wrong : ⊥ = omega (arith, e, l) in wrong)
    ∙ before k (omega arith)

pub none_left : (ns : List ℕ) (place : ℕ) (kept : List (Option ℕ)) (k : ℕ) → drop place ns ≡ []
    → ((j : ℕ) → j < place → get_or kept j None ≡ small_at ns j) → ((j : ℕ) → place ≤ j → get_or kept j None ≡ None)
    → get_or kept k None ≡ small_at ns k
none_left ns place kept k is before left = elim (cases_lt k place) as (λ o. get_or kept k None ≡ small_at ns k) [
  | inl s ↦ before k s
  | inr s ↦ left k s ∙ sym (small_past ns place k is s)
]

-- ## Four of them

abbrev found : ℕ → List ℕ → Option (ℕ × List ℕ)
found n ns = Some (n, ns)

first_small : (ns : List ℕ) (i j : ℕ) → j ≡ i + 1 → small_first (drop i ns) ≡ option_map (λ a. (a, drop j ns)) (small_at ns i)
first_small [] zero j e = refl
first_small [] (suc i) j e = refl
first_small (n ∷ ns) zero j e = by_test (nat_le n 255) ∙ ap (λ k. option_map (λ a. (a, drop k (n ∷ ns))) (small n)) (sym e)
  where
    by_test : (b : Bool) → (if b then found n ns else None) ≡ option_map {U = ℕ × List ℕ} (λ a. (a, ns)) (if b then Some n else None)
    by_test true = refl
    by_test false = refl
first_small (n ∷ ns) (suc i) j e =
    let more : j ≡ suc (i + 1) = omega arith in
    first_small ns i (i + 1) refl ∙ ap (λ k. option_map (λ a. (a, drop k (n ∷ ns))) (small_at ns i)) (sym more)

step : {B : Type 0} (ns : List ℕ) (i j : ℕ) (f : ℕ × List ℕ → Option B) (g : ℕ → Option B) → j ≡ i + 1 → ((a : ℕ) → f (a, drop j ns) ≡ g a)
    → (small_first (drop i ns) >>= f) ≡ (small_at ns i >>= g)
step {B} ns i j f g e same = ap (λ o. o >>= f) (first_small ns i j e) ∙ by_case (small_at ns i)
  where
    by_case : (o : Option ℕ) → (option_map (λ a. (a, drop j ns)) o >>= f) ≡ (o >>= g)
    by_case None = refl
    by_case (Some a) = same a

four_are : (ns : List ℕ) (i : ℕ) → address_of (drop i ns) ≡ four_at (small_at ns) i
four_are ns i =
    step ns i (i + 1) _ _ refl (λ a.
    step ns (i + 1) (i + 2) _ _ (omega arith) (λ b.
    step ns (i + 2) (i + 3) _ _ (omega arith) (λ c.
    step ns (i + 3) (i + 4) _ _ (omega arith) (λ d. refl))))

-- the address behind so many arcs, by sub-identifiers of which the first two arcs share one
pub four_behind : (content : List ℕ) (arc : ℕ → Option ℕ) (place : ℕ) → IsSome (arcs_of content)
    → ((k : ℕ) → k < 194 → arc k ≡ small_at (numbers_in content) k) → 2 ≤ place → place ≤ 191
    → four_at arc (place - 1) ≡ option_and_then (λ arcs. address_of (drop place arcs)) (arcs_of content)
four_behind content arc zero some same least most = absurd (omega arith)
four_behind content arc (suc zero) some same least most = absurd (omega arith)
four_behind content arc (suc (suc k)) some same least most =
    let less : suc (suc k) - 1 ≡ suc k = omega arith in
    let ns = numbers_in content in
    ap (four_at arc) less
    ∙ ap (λ o. four_of o (arc (suc k + 1)) (arc (suc k + 2)) (arc (suc k + 3))) (same (suc k) (omega arith))
    ∙ ap (λ o. four_of (small_at ns (suc k)) o (arc (suc k + 2)) (arc (suc k + 3))) (same (suc k + 1) (omega arith))
    ∙ ap (λ o. four_of (small_at ns (suc k)) (small_at ns (suc k + 1)) o (arc (suc k + 3))) (same (suc k + 2) (omega arith))
    ∙ ap (four_of (small_at ns (suc k)) (small_at ns (suc k + 1)) (small_at ns (suc k + 2))) (same (suc k + 3) (omega arith))
    ∙ sym (four_are ns (suc k))
    ∙ ap address_of (sym (drop_arcs k ns) ∙ ap (drop (suc (suc k))) (sym (arcs_are content some)))
    ∙ sym (ap (option_and_then (λ (arcs : List ℕ). address_of (drop (suc (suc k)) arcs))) (all_of (arcs_of content) some))

pub none_behind : (content : List ℕ) (place : ℕ) → is_some (arcs_of content) ≡ false
    → option_and_then (λ arcs. address_of (drop place arcs)) (arcs_of content) ≡ None
none_behind content place none = by_arcs (arcs_of content) none
  where
    by_arcs : (o : Option (List ℕ)) → is_some o ≡ false → option_and_then (λ arcs. address_of (drop place arcs)) o ≡ None
    by_arcs None none = refl
    by_arcs (Some arcs) none = cc
