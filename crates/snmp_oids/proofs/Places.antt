-- Where sub-identifiers end.
use Rattle.std.proofs.Common.{◌≡◌, ℕ, zero, suc, ◌+◌, ◌-◌, ◌<◌, ◌≤◌, ◌==◌, nat_eq, Bool, true, false, nat_lt, nat_le, if◌then◌else◌, List, [], ◌∷◌}
use Rattle.std.proofs.Common.{get_or, take, drop, length, Option, Some, None, option_map, option_and_then, unwrap_or, is_some, IsSome, IsTrue, refl}
use Rattle.std.proofs.Common.{ap, sym, ◌∙◌, arith, drop-cons, add-one}
use Rattle.std.proofs.lemmas.Bool.{and_parts}
use Rattle.std.proofs.lemmas.Bool.Decides.{nat_tests}
use Rattle.std.proofs.lemmas.Option.{same_Some}
use Rattle.std.proofs.lemmas.List.{drop_all, take_rest}
use Rattle.std.specs.List.{starts_with, list_all}
use Rattle.std.specs.Option.{option_or}
use Rattle.gate_base.specs.Prelude.{◌>>=◌, is_rule}
use Rattle.gate_base.specs.declared.rule.OidRule.{OidRule}
use Rattle.gate_base.proofs.Options.{some_mapped}
use Rattle.snmp_gateway.proofs.Whole.{tested_first}
use Rattle.oid_rules.specs.Sorted.{before}
use Rattle.snmp_oids.specs.Arcs.{joined, numbers_from, numbers_of, arcs_for, arcs_of, address_of, named_by, named, named_in, small_first}
use Rattle.snmp_oids.specs.Inside.Arcs.{numbers_in, arcs_in}
use Rattle.snmp_oids.specs.Identifier.{place_behind}
use Rattle.snmp_oids.proofs.SubIdentifiers.{all_of}

behind_at : (k : ℕ) (xs : List ℕ) (i : ℕ) → i < length xs → place_behind (suc k) (drop i xs) ≡ 1
    + (if nat_lt (get_or xs i 0) 128 then place_behind k (drop (i + 1) xs) else place_behind (suc k) (drop (i + 1) xs))
unfolding place_behind
behind_at k xs i below = rw (add-one, drop-cons xs i 0)

pub behind_zero : (xs : List ℕ) → place_behind 0 xs ≡ 0
unfolding place_behind
behind_zero xs = refl

pub behind_nil : (k : ℕ) → place_behind k [] ≡ 0
unfolding place_behind
behind_nil zero = refl
behind_nil (suc k) = refl

pub behind_end : (left : ℕ) (xs : List ℕ) (i : ℕ) → length xs ≤ i → place_behind left (drop i xs) ≡ 0
behind_end left xs i past = ap (place_behind left) (drop_all i xs past) ∙ behind_nil left

pub behind_less : (left less : ℕ) (xs : List ℕ) (i : ℕ) → (left ≡ 0 → ⊥) → i < length xs → get_or xs i 0 < 128 → less ≡ left - 1
    → place_behind left (drop i xs) ≡ 1 + place_behind less (drop (i + 1) xs)
behind_less zero less xs i some below ends is = absurd (some refl)
behind_less (suc k) less xs i some below ends is =
    let test : nat_lt (get_or xs i 0) 128 ≡ true = grind (arith, nat_tests) in
    let same : less ≡ k = omega arith in
    behind_at k xs i below
    ∙ ap (λ b. 1 + (if b then place_behind k (drop (i + 1) xs) else place_behind (suc k) (drop (i + 1) xs))) test
    ∙ ap (λ n. 1 + place_behind n (drop (i + 1) xs)) (sym same)

pub behind_same : (left : ℕ) (xs : List ℕ) (i : ℕ) → (left ≡ 0 → ⊥) → i < length xs → 128 ≤ get_or xs i 0
    → place_behind left (drop i xs) ≡ 1 + place_behind left (drop (i + 1) xs)
behind_same zero xs i some below goes = absurd (some refl)
behind_same (suc k) xs i some below goes =
    let test : nat_lt (get_or xs i 0) 128 ≡ false = grind (arith, nat_tests) in
    behind_at k xs i below
    ∙ ap (λ b. 1 + (if b then place_behind k (drop (i + 1) xs) else place_behind (suc k) (drop (i + 1) xs))) test

-- what numbers begin with, and what stands behind so many of them
record Cut (o : Option ℕ) (f : ℕ → Option (List ℕ)) (ns : List ℕ) : Type 0 where
  number : ℕ
  then_is : f number ≡ Some ns

cut_of : (o : Option ℕ) (f : ℕ → Option (List ℕ)) (ns : List ℕ) → (o >>= f) ≡ Some ns → Cut o f ns
cut_of None f ns e = cc
cut_of (Some n) f ns e = record { number = n; then_is = e }

record Split (n : ℕ) (more : Option (List ℕ)) (ns : List ℕ) : Type 0 where
  rest : List ℕ
  more_is : more ≡ Some rest
  is : ns ≡ n ∷ rest

split_of : (n : ℕ) (more : Option (List ℕ)) (ns : List ℕ) → option_map (λ numbers. n ∷ numbers) more ≡ Some ns → Split n more ns
split_of n None ns e = cc
split_of n (Some rest) ns e = record { rest = rest; more_is = refl; is = sym (same_Some _ _ e) }

ends_empty : (s : ℕ) (ns : List ℕ) → (if s == 0 then Some [] else None) ≡ Some ns → ns ≡ []
ends_empty zero ns e = sym (same_Some _ _ e)
ends_empty (suc s) ns e = (let no : (suc s == 0) ≡ false = grind (arith, nat_tests) in let wrong = rw no at e in absurd cc)

moved : (octet : ℕ) (more : List ℕ) (n : ℕ) → drop (1 + n) (octet ∷ more) ≡ drop n more
moved octet more n = let e : 1 + n ≡ suc n = omega arith in ap (λ m. drop m (octet ∷ more)) e

step : (k octet : ℕ) (more ns : List ℕ) (b : Bool) (n : ℕ)
    → ((j s : ℕ) (ms : List ℕ) → numbers_from s more ≡ Some ms → numbers_from 0 (drop (place_behind (suc j) more) more) ≡ Some (drop (suc j) ms))
    → (if b then option_map (λ numbers. n ∷ numbers) (numbers_from 0 more) else numbers_from n more) ≡ Some ns
    → numbers_from 0 (drop (1 + (if b then place_behind k more else place_behind (suc k) more)) (octet ∷ more)) ≡ Some (drop (suc k) ns)
step zero octet more ns true n goes e =
    let split = split_of n (numbers_from 0 more) ns e in
    ap (numbers_from 0) (moved octet more (place_behind 0 more) ∙ ap (λ m. drop m more) (behind_zero more))
    ∙ split.more_is
    ∙ ap (λ xs. Some (drop 1 xs)) (sym split.is)
step (suc j) octet more ns true n goes e =
    let split = split_of n (numbers_from 0 more) ns e in
    ap (numbers_from 0) (moved octet more (place_behind (suc j) more))
    ∙ goes j 0 split.rest split.more_is
    ∙ ap (λ xs. Some (drop (suc (suc j)) xs)) (sym split.is)
step k octet more ns false n goes e = ap (numbers_from 0) (moved octet more (place_behind (suc k) more)) ∙ goes k n ns e

pub behind_numbers : (k s : ℕ) (octets ns : List ℕ) → numbers_from s octets ≡ Some ns → numbers_from 0 (drop (place_behind (suc k) octets) octets)
    ≡ Some (drop (suc k) ns)
unfolding numbers_from place_behind
behind_numbers k s [] ns e = ap (λ xs. Some (drop (suc k) xs)) (sym (ends_empty s ns e))
behind_numbers k s (octet ∷ more) ns e =
    let cut = cut_of (joined s octet) _ ns e in
    step k octet more ns (nat_lt octet 128) cut.number (λ j t ms is. behind_numbers j t more ms is) cut.then_is

-- arcs behind at least two others are numbers
pub drop_arcs : (k : ℕ) (ns : List ℕ) → drop (suc (suc k)) (arcs_for ns) ≡ drop (suc k) ns
drop_arcs k [] = refl
drop_arcs k (n ∷ ns) = refl

pub arcs_are : (content : List ℕ) → IsSome (arcs_of content) → arcs_in content ≡ arcs_for (numbers_in content)
arcs_are content some = by_numbers (numbers_of content) some
  where
    by_numbers : (o : Option (List ℕ)) → IsSome (option_map arcs_for o) → unwrap_or (option_map arcs_for o) [] ≡ arcs_for (unwrap_or o [])
    by_numbers None some = refl
    by_numbers (Some ns) some = refl

pub numbers_some : (content : List ℕ) → IsSome (arcs_of content) → IsSome (numbers_of content)
numbers_some content some = sym (some_mapped arcs_for (numbers_of content)) ∙ some

-- whole sub-identifiers are left behind some of them
pub behind_some : (content : List ℕ) (count start : ℕ) → IsSome (arcs_of content) → start ≡ place_behind count content
    → IsSome (numbers_of (take (length content - start) (drop start content)))
behind_some content count start some is =
    ap (λ n. is_some (numbers_of (take (length content - n) (drop n content)))) is
    ∙ ap (λ xs. is_some (numbers_of xs)) (take_rest content (place_behind count content))
    ∙ by_count count
  where
    by_count : (count : ℕ) → is_some (numbers_of (drop (place_behind count content) content)) ≡ true
    by_count zero = ap (λ n. is_some (numbers_of (drop n content))) (behind_zero content) ∙ numbers_some content some
    by_count (suc k) = ap is_some (behind_numbers k 0 content (numbers_in content) (all_of (numbers_of content) (numbers_some content some)))

-- the numbers behind so many arcs
pub record Behind (content : List ℕ) (before start : ℕ) : Type 0 where
  pub some : IsSome (numbers_of (take (length content - start) (drop start content)))
  pub numbers_are : numbers_in (take (length content - start) (drop start content)) ≡ drop before (arcs_in content)

pub behind : (content : List ℕ) (before start : ℕ) → IsSome (arcs_of content) → 2 ≤ before → start ≡ place_behind (before - 1) content
    → Behind content before start
behind content zero start some two is = absurd (omega arith)
behind content (suc zero) start some two is = absurd (omega arith)
behind content (suc (suc k)) start some two is =
    let less : suc (suc k) - 1 ≡ suc k = omega arith in
    let place : start ≡ place_behind (suc k) content = is ∙ ap (λ n. place_behind n content) less in
    let there = ap (λ xs. numbers_of xs) (take_rest content start) ∙ ap (λ n. numbers_of (drop n content)) place
    ∙ behind_numbers k 0 content (numbers_in content) (all_of (numbers_of content) (numbers_some content some)) in
    record {
      some = ap is_some there;
      numbers_are = ap (λ o. unwrap_or o []) there ∙ sym (ap (drop (suc (suc k))) (arcs_are content some) ∙ drop_arcs k (numbers_in content));
    }

rule_two : (rule : OidRule) → IsTrue (is_rule rule) → 2 ≤ length rule.prefix
rule_two rule fits =
    let two : nat_le 2 (length rule.prefix) ≡ true = (and_parts _ _ (and_parts _ _ (and_parts _ _ (and_parts _ _ fits).0).0).0).0 in
    grind (arith, nat_tests)

-- what the rules find stands behind at least two arcs
pub record Stands (arcs : List ℕ) (before address : ℕ) : Type 0 where
  pub two : 2 ≤ before
  pub is : address_of (drop before arcs) ≡ Some address

by_rule : (arcs : List ℕ) (place : ℕ) (o : Option ℕ) (rest : Option (ℕ × ℕ)) (found : ℕ × ℕ) → (o ≡ None → Stands arcs found.0 found.1) → 2 ≤ place
    → ((address : ℕ) → o ≡ Some address → address_of (drop place arcs) ≡ Some address) → option_or (option_map (λ address. (place, address)) o) rest
    ≡ Some found → Stands arcs found.0 found.1
by_rule arcs place None rest found later two here e = later refl
by_rule arcs place (Some address) rest found later two here e =
    let same = same_Some _ _ e in
    let place_is = ap (λ (p : ℕ × ℕ). p.0) same in
    let address_is = ap (λ (p : ℕ × ℕ). p.1) same in
    record { two = omega arith; is = ap (λ n. address_of (drop n arcs)) (sym place_is) ∙ here address refl ∙ ap Some address_is }

pub found_stands : (rules : List OidRule) (arcs : List ℕ) (found : ℕ × ℕ) → IsTrue (list_all is_rule rules) → named rules arcs ≡ Some found
    → Stands arcs found.0 found.1
found_stands [] arcs found fit e = cc
found_stands (rule ∷ rules) arcs found fit e =
    let both = and_parts (is_rule rule) (list_all is_rule rules) fit in
    let two = rule_two rule both.0 in
    by_rule arcs (before rule) (named_by rule arcs) (named rules arcs) found
    (λ none. found_stands rules arcs found both.1
    (sym (ap (λ o. option_or (option_map (λ address. (before rule, address)) o) (named rules arcs)) none) ∙ e))
    (omega arith)
    (λ address is. (tested_first (starts_with nat_eq arcs rule.prefix) (address_of (drop (before rule) arcs)) address is).1)
    e

-- four sub-identifiers take at least four octets
at_least : (k s : ℕ) (octets ns : List ℕ) → numbers_from s octets ≡ Some ns → k ≤ length ns → k ≤ place_behind k octets
unfolding numbers_from place_behind
at_least zero s octets ns e enough = omega arith
at_least (suc k) s [] ns e enough = (let none = ends_empty s ns e in absurd (omega (arith, ap length none)))
at_least (suc k) s (octet ∷ more) ns e enough =
    let cut = cut_of (joined s octet) _ ns e in
    by_end k octet more ns (nat_lt octet 128) cut.number (λ j t ms is many. at_least j t more ms is many) cut.then_is enough
  where
    by_end : (k octet : ℕ) (more ns : List ℕ) (b : Bool) (n : ℕ)
        → ((j t : ℕ) (ms : List ℕ) → numbers_from t more ≡ Some ms → j ≤ length ms → j ≤ place_behind j more)
        → (if b then option_map (λ numbers. n ∷ numbers) (numbers_from 0 more) else numbers_from n more) ≡ Some ns → suc k ≤ length ns
        → suc k ≤ 1 + (if b then place_behind k more else place_behind (suc k) more)
    by_end k octet more ns true n goes e enough =
        let split = split_of n (numbers_from 0 more) ns e in
        let rest = goes k 0 split.rest split.more_is (omega (arith, ap length split.is)) in
        omega (arith, rest)
    by_end k octet more ns false n goes e enough = let rest = goes (suc k) n ns e enough in omega (arith, rest)

small_goes : {B : Type 0} (a : ℕ) (arcs : List ℕ) (f : ℕ × List ℕ → Option B) (x : B) → (small_first (a ∷ arcs) >>= f) ≡ Some x → f (a, arcs) ≡ Some x
small_goes {B} a arcs f x e = by_test (nat_le a 255) e
  where
    by_test : (b : Bool) → ((if b then Some (a, arcs) else None) >>= f) ≡ Some x → f (a, arcs) ≡ Some x
    by_test true e = e
    by_test false e = cc

enough_by : (arcs : List ℕ) (address : ℕ) → address_of arcs ≡ Some address → 4 ≤ length arcs
enough_by [] address e = cc
enough_by (a ∷ []) address e = (let one = small_goes a [] _ address e in absurd cc)
enough_by (a ∷ b ∷ []) address e = (let one = small_goes a (b ∷ []) _ address e in let two = small_goes b [] _ address one in absurd cc)
enough_by (a ∷ b ∷ c ∷ []) address e =
    (let one = small_goes a (b ∷ c ∷ []) _ address e in let two = small_goes b (c ∷ []) _ address one in let three = small_goes c
    [] _ address two in absurd cc)
enough_by (a ∷ b ∷ c ∷ d ∷ more) address e = omega arith

-- what is found in content
pub record Found (content : List ℕ) (before address : ℕ) : Type 0 where
  pub some : IsSome (arcs_of content)
  pub stands : Stands (arcs_in content) before address

pub found_in : (rules : List OidRule) (content : List ℕ) (found : ℕ × ℕ) → IsTrue (list_all is_rule rules) → named_in rules content ≡ Some found
    → Found content found.0 found.1
found_in rules content found fit e = by_arcs (arcs_of content) refl e
  where
    by_arcs : (o : Option (List ℕ)) → arcs_of content ≡ o → option_and_then (named rules) o ≡ Some found → Found content found.0 found.1
    by_arcs None is e = cc
    by_arcs (Some arcs) is e = record {
      some = ap is_some is;
      stands = found_stands rules (arcs_in content) found fit (ap (λ o. named rules (unwrap_or o [])) is ∙ e);
    }

-- four sub-identifiers of an address that is found take at least four octets
pub four : (content : List ℕ) (before address start next : ℕ) → Found content before address → start ≡ place_behind (before - 1) content
    → next ≡ place_behind 4 (take (length content - start) (drop start content)) → 4 ≤ next
four content before address start next found start_is next_is =
    let rest = take (length content - start) (drop start content) in
    let there = behind content before start found.some found.stands.two start_is in
    let many = enough_by (drop before (arcs_in content)) address found.stands.is in
    let least = at_least 4 0 rest (numbers_in rest) (all_of (numbers_of rest) there.some) (omega (arith, ap length there.numbers_are)) in
    omega arith
