-- The arcs of an object identifier (X.690, 8.19), and the address that a rule finds among them (RFC 2962, 4.2).
use Rattle.std.specs.Prelude.{ℕ, ◌+◌, ◌-◌, ◌*◌, ◌%◌, ◌==◌, nat_eq, ◌&&◌, ◌||◌, nat_lt, nat_le, if◌then◌else◌}
use Rattle.std.specs.Prelude.{List, [], ◌∷◌, drop, Option, Some, None, option_map, option_and_then}
use Rattle.std.specs.List.{starts_with}
use Rattle.std.specs.Option.{option_or}
use Rattle.gate_base.specs.Prelude.{◌>>=◌}
use Rattle.gate_base.specs.declared.rule.TheConstants.{GREATEST_ARC}
use Rattle.gate_base.specs.declared.rule.OidRule.{OidRule}
use Rattle.oid_rules.specs.Sorted.{before}

-- a sub-identifier's number with the seven bits of one more octet behind it; so_far is 0 where a sub-identifier begins, which it doesn't with the
-- octet 128 (X.690, 8.19.2)
abbrev pub joined : ℕ → ℕ → Option ℕ
joined so_far octet =
    let number = 128 * so_far + octet % 128 in
    if (so_far == 0 && octet == 128) || nat_lt GREATEST_ARC number then None else Some number

-- the numbers of the sub-identifiers that fill octets; the high bit is set in each octet of one but its last (X.690, 8.19.2)
unfoldable pub numbers_from : ℕ → List ℕ → Option (List ℕ)
numbers_from so_far [] = if so_far == 0 then Some [] else None
numbers_from so_far (octet ∷ more) = do
  number ← joined so_far octet
  if nat_lt octet 128 then option_map (λ numbers. number ∷ numbers) (numbers_from 0 more) else numbers_from number more

abbrev pub numbers_of : List ℕ → Option (List ℕ)
numbers_of content = numbers_from 0 content

-- the two arcs for which the first sub-identifier stands (X.690, 8.19.4)
abbrev pub first_two : ℕ → ℕ × ℕ
first_two number = if nat_lt number 40 then (0, number) else if nat_lt number 80 then (1, number - 40) else (2, number - 80)

-- the arcs for which sub-identifiers stand
abbrev pub arcs_for : List ℕ → List ℕ
arcs_for [] = []
arcs_for (number ∷ numbers) = (first_two number).0 ∷ (first_two number).1 ∷ numbers

-- the arcs of content, if it has any
abbrev pub arcs_of : List ℕ → Option (List ℕ)
arcs_of content = option_map arcs_for (numbers_of content)

-- the first arc, if it is at most 255, and the others
abbrev pub small_first : List ℕ → Option (ℕ × List ℕ)
small_first [] = None
small_first (arc ∷ arcs) = if nat_le arc 255 then Some (arc, arcs) else None

-- the address that the first four arcs make, if each of them is at most 255
abbrev pub address_of : List ℕ → Option ℕ
address_of arcs = do
  (a, arcs) ← small_first arcs
  (b, arcs) ← small_first arcs
  (c, arcs) ← small_first arcs
  (d, arcs) ← small_first arcs
  Some (((a * 256 + b) * 256 + c) * 256 + d)

-- the address that a rule names: its prefix begins the arcs, and the address follows behind the skipped ones
abbrev pub named_by : OidRule → List ℕ → Option ℕ
named_by rule arcs = if starts_with nat_eq arcs rule.prefix then address_of (drop (before rule) arcs) else None

-- how many arcs stand before the address that the first rule names which names one, and that address
abbrev pub named : List OidRule → List ℕ → Option (ℕ × ℕ)
named [] arcs = None
named (rule ∷ rules) arcs = option_or (option_map (λ address. (before rule, address)) (named_by rule arcs)) (named rules arcs)

-- the same for the arcs of content
abbrev pub named_in : List OidRule → List ℕ → Option (ℕ × ℕ)
named_in rules content = option_and_then (named rules) (arcs_of content)
