-- What the first rule names that an identifier begins with.
use Rattle.std.proofs.Common.{◌≡◌, ℕ, nat_eq, Bool, true, false, if◌then◌else◌, List, [], ◌∷◌, drop, length, ◌<◌, arith, Option, Some, None, option_map, option_and_then, IfSome, refl, ap, sym, ◌∙◌}
use Rattle.std.specs.List.{starts_with}
use Rattle.std.specs.Option.{option_or}
use Rattle.gate_base.specs.declared.rule.OidRule.{OidRule}
use Rattle.oid_rules.specs.declared.sorted.Compared.TheVariants.{Before}
use Rattle.oid_rules.specs.Sorted.{before, compared, first_begun}
use Rattle.snmp_oids.specs.Arcs.{arcs_of, address_of, named_by, named, named_in}

-- what a rule names in content that its arcs begin
abbrev pub named_at : List ℕ → OidRule → Option ℕ
named_at content rule = option_and_then (λ arcs. address_of (drop (before rule) arcs)) (arcs_of content)

abbrev pub with_before : OidRule × ℕ → ℕ × ℕ
with_before p = (before p.0, p.1)

one_rule : (begins : Bool) (o : Option ℕ) (rule : OidRule) (rest : Option (OidRule × ℕ))
    → option_map with_before (option_or (if begins then option_map {U = OidRule × ℕ} (λ a. (rule, a)) o else None) rest)
    ≡ option_or (option_map {U = ℕ × ℕ} (λ address. (before rule, address)) (if begins then o else None)) (option_map with_before rest)
one_rule true None rule rest = refl
one_rule true (Some a) rule rest = refl
one_rule false o rule rest = refl

named_is : (address : OidRule → Option ℕ) (arcs : List ℕ) (rules : List OidRule)
    → ((rule : OidRule) → address rule ≡ address_of (drop (before rule) arcs)) → option_map with_before (first_begun address arcs rules)
    ≡ named rules arcs
named_is address arcs [] same = refl
named_is address arcs (rule ∷ rules) same =
    one_rule (starts_with nat_eq arcs rule.prefix) (address rule) rule (first_begun address arcs rules)
    ∙ ap (λ o. option_or (option_map {U = ℕ × ℕ} (λ address. (before rule, address)) (if starts_with nat_eq arcs rule.prefix then o else None))
    (option_map with_before (first_begun address arcs rules))) (same rule)
    ∙ ap (option_or (option_map {U = ℕ × ℕ} (λ address. (before rule, address)) (named_by rule arcs))) (named_is address arcs rules same)

pub named_first : (rules : List OidRule) (content : List ℕ) (found : Option (OidRule × ℕ))
    → ((arcs : List ℕ) → arcs_of content ≡ Some arcs → found ≡ first_begun (named_at content) arcs rules)
    → IfSome found (λ p. named_at content p.0 ≡ Some p.1) → option_map with_before found ≡ named_in rules content
named_first rules content found first names = by_arcs (arcs_of content) found refl first names
  where
    by_arcs : (o : Option (List ℕ)) (found : Option (OidRule × ℕ)) → arcs_of content ≡ o
        → ((arcs : List ℕ) → arcs_of content ≡ Some arcs → found ≡ first_begun (named_at content) arcs rules)
        → IfSome found (λ p. named_at content p.0 ≡ Some p.1) → option_map with_before found ≡ option_and_then (named rules) o
    by_arcs None None is first names = refl
    by_arcs None (Some p) is first names =
        (let wrong = sym (ap (option_and_then (λ (arcs : List ℕ). address_of (drop (before p.0) arcs))) is) ∙ names in absurd cc)
    by_arcs (Some arcs) found is first names = ap (option_map with_before) (first arcs is)
        ∙ named_is (named_at content) arcs rules (λ rule. ap (option_and_then (λ (arcs : List ℕ). address_of (drop (before rule) arcs))) is)

-- an identifier whose arcs end comes before what goes on
pub ended_before : (arcs prefix : List ℕ) → arcs ≡ [] → 0 < length prefix → Before ≡ compared arcs prefix
ended_before arcs [] e l = absurd (omega arith)
ended_before arcs (p ∷ ps) e l = ap (λ xs. compared xs (p ∷ ps)) (sym e)
