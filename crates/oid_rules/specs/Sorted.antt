-- Rules sorted by their arcs, and what is found among them.
use Rattle.std.specs.Prelude.{ℕ, ◌+◌, ◌==◌, nat_eq, nat_lt, if◌then◌else◌, List, [], ◌∷◌, length, Option, None, option_map}
use Rattle.std.specs.List.{starts_with}
use Rattle.std.specs.Option.{option_or}
use Rattle.gate_base.specs.declared.rule.OidRule.{OidRule}
use Rattle.oid_rules.specs.declared.sorted.Compared.{Compared}
use Rattle.oid_rules.specs.declared.sorted.Compared.TheVariants.{Before, Begins, Behind}

-- how an arc stands to another one that differs
abbrev pub order_of : ℕ → ℕ → Compared
order_of x y = if nat_lt x y then Before else Behind

-- where arcs stand to a prefix
abbrev pub compared : List ℕ → List ℕ → Compared
compared arcs [] = Begins
compared [] (y ∷ ys) = Before
compared (x ∷ xs) (y ∷ ys) = if x == y then compared xs ys else order_of x y

-- how many arcs stand before the address that a rule names
abbrev pub before : OidRule → ℕ
before rule = length rule.prefix + rule.skip

-- the address that a rule names, by those behind so many arcs
abbrev pub by_rule : (ℕ → Option ℕ) → OidRule → Option ℕ
by_rule address rule = address (before rule)

-- the first rule whose arcs begin these and which names an address, and that address
abbrev pub first_begun : (OidRule → Option ℕ) → List ℕ → List OidRule → Option (OidRule × ℕ)
first_begun address arcs [] = None
first_begun address arcs (rule ∷ rules) = option_or (if starts_with nat_eq arcs rule.prefix then option_map (λ a. (rule, a)) (address rule) else None)
    (first_begun address arcs rules)
