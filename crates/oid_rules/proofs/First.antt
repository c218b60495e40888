-- The first rule of a list by what was found among the sorted ones.
use Rattle.std.proofs.Common.{◌≡◌, ◌<◌, ◌≤◌, ◌+◌, ℕ, zero, suc, Bool, true, false, nat_eq, nat_le, if◌then◌else◌, List, [], ◌∷◌, length, get_or, Option, Some, None, option_map, is_some, IsSome, IsTrue, All, refl, sym, ◌∙◌, ap, subst, arith}
use Rattle.std.specs.List.{starts_with, list_all}
use Rattle.std.specs.Option.{option_or}
use Rattle.std.proofs.lemmas.Bool.{and_parts}
use Rattle.std.proofs.lemmas.Bool.Decides.{nat_tests}
use Rattle.std.proofs.lemmas.List.Elements.{All-cons, All-from_get_or, All-get_or, All-nil, All-head, All-tail, Contains-get_or}
use Rattle.std.proofs.lemmas.List.Sorted.{All-permutation, Contains-permutation, IsPermutation-sym}
use Rattle.gate_base.specs.declared.address.Addr.{Addr}
use Rattle.gate_base.specs.declared.rule.OidRule.{OidRule}
use Rattle.oid_rules.specs.declared.sorted.Compared.TheVariants.{Begins}
use Rattle.oid_rules.specs.declared.sorted.Numbered.{Numbered}
use Rattle.gate_base.specs.Prelude.{is_rule, AreRules}
use Rattle.oid_rules.specs.Sorted.{before, by_rule, compared, first_begun}
use Rattle.oid_rules.specs.Inside.Sorted.{numbered, rule_at, AllRules, AreSorted, IsFirst, IsFound, IsLast}
use Rattle.oid_rules.proofs.Prefixes.{starts_begins, begins_starts}

-- ## In the order of the list

-- an identifier begins with the arcs of a rule that names an address
record Passes (address : OidRule → Option ℕ) (arcs : List ℕ) (rule : OidRule) : Type 0 where
  begins : compared arcs rule.prefix ≡ Begins
  names : IsSome (address rule)

abbrev with_rule : OidRule → ℕ → OidRule × ℕ
with_rule rule a = (rule, a)

-- what the first rule gives
head_gives : (OidRule → Option ℕ) → List ℕ → OidRule → Option (OidRule × ℕ)
head_gives address arcs rule = if starts_with nat_eq arcs rule.prefix then option_map (with_rule rule) (address rule) else None

number_at : (place : ℕ) (rules : List OidRule) (i : ℕ) (d : Numbered) → i < length (numbered place rules) → (get_or (numbered place rules) i d).number
    ≡ place + i
number_at place [] i d l = absurd (omega arith)
number_at place (r ∷ rs) zero d l = omega arith
number_at place (r ∷ rs) (suc i) d l = omega (arith, number_at (place + 1) rs i d (omega arith))

no_head : (address : OidRule → Option ℕ) (arcs : List ℕ) (rule : OidRule) → (Passes address arcs rule → ⊥) → head_gives address arcs rule ≡ None
unfolding head_gives
no_head address arcs rule not = by_test (starts_with nat_eq arcs rule.prefix) (address rule) refl refl
  where
    by_test : (b : Bool) (o : Option ℕ) → b ≡ starts_with nat_eq arcs rule.prefix → o ≡ address rule
        → (if b then option_map (with_rule rule) o else None) ≡ None
    by_test false o e f = refl
    by_test true None e f = refl
    by_test true (Some a) e f = absurd (not (record { begins = starts_begins arcs rule.prefix (sym e); names = ap is_some (sym f) }))

own_head : (address : OidRule → Option ℕ) (arcs : List ℕ) (rule : OidRule) (a : ℕ) → compared arcs rule.prefix ≡ Begins → address rule ≡ Some a
    → head_gives address arcs rule ≡ Some (rule, a)
unfolding head_gives
own_head address arcs rule a begins names =
    ap (λ b. if b then option_map (with_rule rule) (address rule) else None) (begins_starts arcs rule.prefix begins)
    ∙ ap (option_map (with_rule rule)) names

none_passes : (address : OidRule → Option ℕ) (arcs : List ℕ) (place : ℕ) (rules : List OidRule)
    → All (λ (one : Numbered). Passes address arcs one.rule → ⊥) (numbered place rules) → first_begun address arcs rules ≡ None
unfolding head_gives
none_passes address arcs place [] none = refl
none_passes address arcs place (r ∷ rs) none = ap (λ o. option_or o (first_begun address arcs rs))
    (no_head address arcs r (All-head (λ (one : Numbered). Passes address arcs one.rule → ⊥) _ (numbered (place + 1) rs) none))
    ∙ none_passes address arcs (place + 1) rs (All-tail (λ (one : Numbered). Passes address arcs one.rule → ⊥) _ (numbered (place + 1) rs) none)

first_passes : (address : OidRule → Option ℕ) (arcs : List ℕ) (place : ℕ) (rules : List OidRule) (i : ℕ) (one : Numbered) (a : ℕ)
    → i < length (numbered place rules) → get_or (numbered place rules) i one ≡ one → compared arcs one.rule.prefix ≡ Begins
    → address one.rule ≡ Some a → All (λ (other : Numbered). Passes address arcs other.rule → one.number ≤ other.number) (numbered place rules)
    → first_begun address arcs rules ≡ Some (one.rule, a)
unfolding head_gives
first_passes address arcs place [] i one a l is begins names least = absurd (omega arith)
first_passes address arcs place (r ∷ rs) zero one a l is begins names least =
    let rule : r ≡ one.rule = ap (λ (n : Numbered). n.rule) is in
    ap (λ o. option_or o (first_begun address arcs rs))
    (subst (λ x. head_gives address arcs x ≡ Some (one.rule, a)) (sym rule) (own_head address arcs one.rule a begins names))
first_passes address arcs place (r ∷ rs) (suc i) one a l is begins names least =
    let number = number_at (place + 1) rs i one (omega arith) in
    let same : (get_or (numbered (place + 1) rs) i one).number ≡ one.number = ap (λ (n : Numbered). n.number) is in
    let late = λ (other : Numbered). Passes address arcs other.rule → one.number ≤ other.number in
    let head = All-head late _ (numbered (place + 1) rs) least in
    ap (λ o. option_or o (first_begun address arcs rs)) (no_head address arcs r (λ p. let wrong : ⊥ = omega (arith, head p, number, same) in wrong))
    ∙ first_passes address arcs (place + 1) rs i one a (omega arith) is begins names (All-tail late _ (numbered (place + 1) rs) least)

-- ## From the sorted rules

pub all_rules : (place : ℕ) (rules : List OidRule) → AreRules rules → AllRules (numbered place rules)
all_rules place [] h = All-nil (λ (one : Numbered). IsTrue (is_rule one.rule))
all_rules place (r ∷ rs) h =
    let parts = and_parts (is_rule r) (list_all is_rule rs) h in
    All-cons (λ (one : Numbered). IsTrue (is_rule one.rule)) _ _ parts.0 (all_rules (place + 1) rs parts.1)

pub first_is : (address : OidRule → Option ℕ) (sorted : List Numbered) (arcs : List ℕ) (found : Option (ℕ × Addr)) (rules : List OidRule)
    → AreSorted rules sorted → IsFound address sorted found → IsFirst address sorted arcs found
    → option_map (λ (p : ℕ × Addr). ((rule_at sorted p.0).rule, p.1.0)) found ≡ first_begun address arcs rules
first_is address sorted arcs None rules are is first =
    let none = All-from_get_or (λ (one : Numbered). Passes address arcs one.rule → ⊥) sorted (rule_at [] 0)
    (λ k l p. first.first k l p.begins p.names) in
    sym (none_passes address arcs 0 rules
    (All-permutation (λ (one : Numbered). Passes address arcs one.rule → ⊥) sorted (numbered 0 rules) (IsPermutation-sym _ _ are.moved) none))
first_is address sorted arcs (Some p) rules are is first =
    let one = rule_at sorted p.0 in
    let back = IsPermutation-sym _ _ are.moved in
    let there = Contains-permutation sorted (numbered 0 rules) one back (Contains-get_or sorted p.0 _ is.0) in
    let late = λ (other : Numbered). Passes address arcs other.rule → one.number ≤ other.number in
    let least = All-permutation late sorted (numbered 0 rules) back
    (All-from_get_or late sorted (rule_at [] 0) (λ k l h. first.first k l h.begins h.names)) in
    sym (first_passes address arcs 0 rules there.0 one p.1.0 there.1 there.2 first.found is.1 least)

-- ## Other addresses in the same places

same_begun : (f g : OidRule → Option ℕ) (arcs : List ℕ) (place : ℕ) (rules : List OidRule)
    → All (λ (one : Numbered). f one.rule ≡ g one.rule) (numbered place rules) → first_begun f arcs rules ≡ first_begun g arcs rules
same_begun f g arcs place [] same = refl
same_begun f g arcs place (r ∷ rs) same =
    ap (λ o. option_or (if starts_with nat_eq arcs r.prefix then option_map (with_rule r) o else None) (first_begun f arcs rs))
    (All-head (λ (one : Numbered). f one.rule ≡ g one.rule) _ (numbered (place + 1) rs) same)
    ∙ ap (option_or (if starts_with nat_eq arcs r.prefix then option_map (with_rule r) (g r) else None))
    (same_begun f g arcs (place + 1) rs (All-tail (λ (one : Numbered). f one.rule ≡ g one.rule) _ (numbered (place + 1) rs) same))

-- a rule names what stands behind 2 to 191 arcs
pub at_least_2 : (rule : OidRule) → IsTrue (is_rule rule) → 2 ≤ before rule
at_least_2 rule fits = (let two : nat_le 2 (length rule.prefix) ≡ true =
    (and_parts _ _ (and_parts _ _ (and_parts _ _ (and_parts _ _ fits).0).0).0).0 in grind (arith, nat_tests))

pub at_most_191 : (rule : OidRule) → IsTrue (is_rule rule) → before rule ≤ 191
at_most_191 rule fits =
    let few : nat_le (length rule.prefix) 64 ≡ true = (and_parts _ _ (and_parts _ _ (and_parts _ _ (and_parts _ _ fits).0).0).0).1 in
    let skipped : nat_le rule.skip 127 ≡ true = (and_parts _ _ fits).1 in
    grind (arith, nat_tests)

pub first_same : (f g : ℕ → Option ℕ) (arcs : List ℕ) (sorted : List Numbered) (rules : List OidRule) → AreSorted rules sorted
    → ((place : ℕ) → 2 ≤ place → place ≤ 191 → f place ≡ g place) → first_begun (by_rule f) arcs rules ≡ first_begun (by_rule g) arcs rules
first_same f g arcs sorted rules are same =
    let alike = λ (one : Numbered). by_rule f one.rule ≡ by_rule g one.rule in
    let back = IsPermutation-sym _ _ are.moved in
    same_begun (by_rule f) (by_rule g) arcs 0 rules (All-permutation alike sorted (numbered 0 rules) back
    (All-from_get_or alike sorted (rule_at [] 0) (λ k l. let fits =
    All-get_or (λ (one : Numbered). IsTrue (is_rule one.rule)) sorted k (rule_at [] 0) l are.all in
    same (before (rule_at sorted k).rule) (at_least_2 (rule_at sorted k).rule fits) (at_most_191 (rule_at sorted k).rule fits))))

pub never_begun : (f : ℕ → Option ℕ) (arcs : List ℕ) (rules : List OidRule) → ((place : ℕ) → f place ≡ None)
    → None ≡ first_begun (by_rule f) arcs rules
never_begun f arcs [] none = refl
never_begun f arcs (r ∷ rs) none =
    never_begun f arcs rs none
    ∙ sym (ap (λ o. option_or o (first_begun (by_rule f) arcs rs))
    (ap (λ o. if starts_with nat_eq arcs r.prefix then option_map (with_rule r) o else None) (none (before r))
    ∙ nothing (starts_with nat_eq arcs r.prefix)))
  where
    nothing : (b : Bool) → (if b then option_map (with_rule r) None else None) ≡ None
    nothing true = refl
    nothing false = refl

-- no rule begins arcs
pub not_begun : (address : OidRule → Option ℕ) (sorted : List Numbered) (count : ℕ) (arcs : List ℕ) (rules : List OidRule)
    → AreSorted rules sorted → count ≡ length sorted → IsLast count sorted arcs None → None ≡ first_begun address arcs rules
not_begun address sorted count arcs rules are all none = first_is address sorted arcs None rules are tt
    (record { found = tt; first = λ k l begins names. absurd (none k (omega arith) begins) })
