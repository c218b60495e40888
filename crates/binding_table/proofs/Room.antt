-- Each binding has one address of the pools.
use Rattle.std.proofs.Common.{◌++◌, ◌≡◌, ℕ, suc, ◌+◌, ◌-◌, ◌<◌, ◌≤◌, Bool, true, false, not, cond, nat_le, List, [], ◌∷◌, length, map, set, get_or, refl, sym, ◌∙◌, ap, arith, inl, inr, ◌⊎◌, count_by}
use Rattle.std.proofs.lemmas.List.FromFn.{length-map-range_with_len}
use Rattle.std.proofs.lemmas.List.Elements.{All-weaker, All-tail}
use Rattle.std.proofs.lemmas.List.Folds.{sum_by-replicate}
use Rattle.std.proofs.lemmas.List.Sums.{sum_by-set}
use Rattle.std.proofs.lemmas.Bool.{and_parts, leb-true}
use Rattle.gate_base.specs.Prelude.{other, same_side}
use Rattle.gate_base.specs.declared.side.Side.{Side}
use Rattle.gate_base.specs.declared.side.Side.TheVariants.{Left, Right}
use Rattle.realm_pools.specs.Addresses.{Range}
use Rattle.binding_table.specs.Prelude.{Aliases, AreTaken, CanHold, plain_table, Bindings, is_used, in_pool, pool_with, IsLawful, IsInPlace}
use Rattle.binding_table.specs.declared.binding.Binding.{Binding}
use Rattle.binding_table.proofs.Pools.{IsLone, numbers, flag_at, none_used, changed_some}
use Rattle.binding_table.proofs.Kept.{lone, lone_between}

abbrev pub free_in : Range → Side → List Binding → ℕ
free_in range side entries = count_by not (pool_with range side entries).taken

count_set : (flags : List Bool) (place : ℕ) → place < length flags → get_or flags place false ≡ false
    → count_by not (set flags place true) + 1 ≡ count_by not flags
count_set flags place within free =
    let f : Bool → ℕ = λ x. cond (not x) 1 0 in
    let e = sum_by-set f flags place true false within in
    let one : f (get_or flags place false) ≡ 1 = ap f free in
    omega (arith, e, one)

-- where a binding comes among others, one address fewer is free
pub free_less : (range : Range) (side : Side) (xs ys : List Binding) (binding : Binding) → same_side binding.side (other side) ≡ true
    → IsLone range side (xs ++ ys) binding → free_in range side (xs ++ binding ∷ ys) + 1 ≡ free_in range side (xs ++ ys)
free_less range side xs ys binding h lone =
    let flags = map (is_used side (xs ++ ys)) (numbers range) in
    let bounds = and_parts (nat_le range.first binding.alias.0) (nat_le binding.alias.0 range.last) lone.within in
    let low = leb-true range.first binding.alias.0 bounds.0 in
    let high = leb-true binding.alias.0 range.last bounds.1 in
    let long = length-map-range_with_len (is_used side (xs ++ ys)) range.first (range.last + 1 - range.first) in
    let e = ap (λ (aliases : Aliases). count_by not aliases.pool.taken) (rw h at (changed_some range side xs ys binding (λ _. lone))) in
    let less = count_set flags (binding.alias.0 - range.first) (omega (arith, long))
    (flag_at range side (xs ++ ys) binding.alias false lone.within ∙ lone.unused) in
    ap (λ (n : ℕ). n + 1) (sym e) ∙ less

free_same : (range : Range) (side : Side) (rest : List Binding) (binding : Binding) → same_side binding.side (other side) ≡ false
    → free_in range side (binding ∷ rest) ≡ free_in range side rest
free_same range side rest binding h =
    sym (ap (λ (aliases : Aliases). count_by not aliases.pool.taken) (rw h at (changed_some range side [] rest binding (λ holds. cc (h, holds)))))

none_free : (range : Range) (side : Side) → range.first ≤ range.last → free_in range side [] ≡ range.last + 1 - range.first
none_free range side some =
    let f : Bool → ℕ = λ x. cond (not x) 1 0 in
    let m : ℕ = range.last - range.first + 1 in
    ap (λ flags. count_by not flags) (none_used range side some) ∙ sum_by-replicate f m false ∙ omega arith

side_cases : (side : Side) → ((same_side side Right ≡ true) × (same_side side Left ≡ false))
    ⊎ ((same_side side Right ≡ false) × (same_side side Left ≡ true))
side_cases Left = inr (refl, refl)
side_cases Right = inl (refl, refl)

tail_taken : (left right : Range) (binding : Binding) (rest : List Binding) → AreTaken (plain_table left right (binding ∷ rest))
    → AreTaken (plain_table left right rest)
tail_taken left right binding rest are = record {
  once = λ i j d before within. are.once (suc i) (suc j) d (omega arith) (omega arith);
  aliases = All-tail (λ one. in_pool (plain_table left right rest) (other one.side) one.alias ≡ true) binding rest are.aliases;
}

-- the bindings and the free addresses of both pools are as many as the addresses of both pools
pub total : (left right : Range) (entries : List Binding) → AreTaken (plain_table left right entries) → left.first ≤ left.last
    → right.first ≤ right.last → length entries + free_in left Left entries + free_in right Right entries ≡ (left.last + 1 - left.first)
    + (right.last + 1 - right.first)
total left right [] are some many = omega (arith, none_free left Left some, none_free right Right many)
total left right (binding ∷ rest) are some many =
    let before = total left right rest (tail_taken left right binding rest are) some many in
    elim (side_cases binding.side) [
      | inl h ↦
          let one = free_less left Left [] rest binding h.0
          (lone_between (plain_table left right (binding ∷ rest)) Left binding [] rest are refl h.0) in
          let two = free_same right Right rest binding h.1 in
          omega (arith, before, one, two)
      | inr h ↦
          let one = free_same left Left rest binding h.0 in
          let two = free_less right Right [] rest binding h.1
          (lone_between (plain_table left right (binding ∷ rest)) Right binding [] rest are refl h.1) in
          omega (arith, before, one, two)
    ]

pub length_taken : (range : Range) (side : Side) (entries : List Binding) → length (pool_with range side entries).taken ≡ range.last + 1 - range.first
length_taken range side entries = length-map-range_with_len (is_used side entries) range.first (range.last + 1 - range.first)

pub taken_of : (table : Bindings) → IsLawful table → AreTaken (plain_table table.left table.right table.entries)
taken_of table lawful = record {
  once = lawful.once;
  aliases = All-weaker (IsInPlace table)
      (λ binding. in_pool (plain_table table.left table.right table.entries) (other binding.side) binding.alias ≡ true) (λ binding place. place.alias)
      table.entries lawful.places;
}

-- a table that can hold a binding more has fewer than both pools have addresses
pub room_for : (table : Bindings) (binding : Binding) → IsLawful table → CanHold table binding
    → length table.entries < (table.left.last + 1 - table.left.first) + (table.right.last + 1 - table.right.first)
room_for table binding lawful can =
    let all = total table.left table.right table.entries (taken_of table lawful) (lawful.ranges Left) (lawful.ranges Right) in
    elim (side_cases binding.side) [
      | inl h ↦ omega (arith, all, free_less table.left Left [] table.entries binding h.0 (lone table binding Left can h.0))
      | inr h ↦ omega (arith, all, free_less table.right Right [] table.entries binding h.1 (lone table binding Right can h.1))
    ]
