-- Pools in which the aliases of bindings are taken.
use Rattle.std.proofs.Common.{IsTrue, replicate, ◌≡◌, ◌≢◌, ℕ, ◌+◌, ◌-◌, ◌<◌, ◌≤◌, Bool, true, false, not, ◌&&◌, ◌||◌, ◌==◌, nat_le, List, [], ◌∷◌, ◌++◌, length, map, set, get_or, Option, Some, None, is_some, refl, sym, ◌∙◌, ap, arith, inl, inr}
use Rattle.std.specs.List.{range_with_len}
use Rattle.std.proofs.lemmas.List.{length-replicate, get_or-replicate, same_lists, get_or-set_same, get_or-set_other, length-set}
use Rattle.std.proofs.lemmas.List.FromFn.{get_or-map-range_with_len, length-map-range_with_len}
use Rattle.std.proofs.lemmas.List.Folds.{list_any-append}
use Rattle.std.proofs.lemmas.Bool.{or_left, and_from, and_left, and_right, eq-eqb, ne_eqb, not-true, cases_Bool, cases_eq, or_parts, and_parts, leb-true}
use Rattle.std.proofs.lemmas.Bool.Decides.{nat_tests}
use Rattle.gate_base.specs.Prelude.{other, same_side}
use Rattle.gate_base.specs.declared.address.Addr.{Addr}
use Rattle.gate_base.specs.declared.side.Side.{Side}
use Rattle.gate_base.specs.declared.side.Side.TheVariants.{Left, Right}
use Rattle.gate_base.proofs.Sides.{same_side-sym}
use Rattle.realm_pools.specs.Addresses.{Range, is_in, is_free, is_taken}
use Rattle.binding_table.specs.Prelude.{Aliases, aliases_with, changed, host_at, host_of, is_of_alias, is_used, pool_with, collides}
use Rattle.binding_table.specs.Inside.Steps.{no_hosts, with_host}
use Rattle.binding_table.specs.declared.binding.Binding.{Binding}

-- ## Sides

-- ## Aliases that no other binding has

-- of two bindings of hosts of one realm that don't collide, each has another alias
apart_later : (side one two : Side) (hosts : Bool) (first second : ℕ) → same_side one side ≡ true → (same_side two one && (hosts || second == first))
    ≡ false → (same_side two side && second == first) ≡ false
apart_later Left Left Left hosts first second h apart = (or_parts hosts (second == first) apart).1
apart_later Right Right Right hosts first second h apart = (or_parts hosts (second == first) apart).1
apart_later Left Left Right hosts first second h apart = refl
apart_later Right Right Left hosts first second h apart = refl
apart_later Left Right two hosts first second h apart = cc
apart_later Right Left two hosts first second h apart = cc

-- the alias of a binding isn't that of one that it doesn't collide with
pub other_alias : (side : Side) (binding earlier : Binding) → same_side binding.side (other side) ≡ true → collides binding earlier ≡ false
    → is_of_alias side binding.alias.0 earlier ≡ false
other_alias side binding earlier h apart = apart_later (other side) binding.side earlier.side (earlier.host.0 == binding.host.0) binding.alias.0
    earlier.alias.0 h apart

same-sym : (m n : ℕ) → (m == n) ≡ (n == m)
same-sym m n = grind (arith, nat_tests)

same_both : (s t h i a b : Bool) → s ≡ t → h ≡ i → a ≡ b → (s && (h || a)) ≡ (t && (i || b))
same_both s t h i a b p q r = cc

pub collides-sym : (one two : Binding) → collides one two ≡ collides two one
collides-sym one two = same_both (same_side two.side one.side) (same_side one.side two.side) (two.host.0 == one.host.0) (one.host.0 == two.host.0)
    (two.alias.0 == one.alias.0) (one.alias.0 == two.alias.0) (same_side-sym two.side one.side) (same-sym two.host.0 one.host.0)
    (same-sym two.alias.0 one.alias.0)

-- ## The flags of a pool

abbrev pub numbers : Range → List ℕ
numbers range = range_with_len range.first (range.last + 1 - range.first)

same_flags : {X : Type 0} (f g : ℕ → X) (range : Range) → ((k : ℕ) → f k ≡ g k) → map f (numbers range) ≡ map g (numbers range)
same_flags f g range same =
    let n : ℕ = range.last + 1 - range.first in
    let long = length-map-range_with_len f range.first n in
    same_lists (map f (numbers range)) (map g (numbers range)) (long ∙ sym (length-map-range_with_len g range.first n)) (λ k d within.
    let less : k < n = omega (arith, long) in
    get_or-map-range_with_len f range.first n k (range.first + k) d less refl ∙ same (range.first + k)
    ∙ sym (get_or-map-range_with_len g range.first n k (range.first + k) d less refl))

-- one number of the range has another flag
set_flag : {X : Type 0} (f g : ℕ → X) (range : Range) (number : ℕ) (value : X) → range.first ≤ number → number ≤ range.last → g number ≡ value
    → ((k : ℕ) → k ≢ number → f k ≡ g k) → set (map f (numbers range)) (number - range.first) value ≡ map g (numbers range)
set_flag f g range number value low high here there =
    let n : ℕ = range.last + 1 - range.first in
    let long = length-map-range_with_len f range.first n in
    let place : ℕ = number - range.first in
    let flags = map f (numbers range) in
    same_lists (set flags place value) (map g (numbers range)) (length-set flags place value ∙ long ∙ sym (length-map-range_with_len g range.first n))
    (λ k d within.
    let less : k < n = omega (arith, long, length-set flags place value) in
    let right = get_or-map-range_with_len g range.first n k (range.first + k) d less refl in
    elim (cases_eq k place) [
      | inl same ↦
          let at : k < length flags = omega (arith, long) in
          let spot : range.first + k ≡ number = omega arith in
          ap (λ (j : ℕ). get_or (set flags j value) k d) (sym same) ∙ get_or-set_same flags k value d at ∙ sym here ∙ ap g (sym spot) ∙ sym right
      | inr differs ↦
          get_or-set_other flags place k value d differs ∙ get_or-map-range_with_len f range.first n k (range.first + k) d less refl
          ∙ there (range.first + k) (λ e. differs (omega arith)) ∙ sym right
    ])

-- all numbers of a range have one flag
all_flags : {X : Type 0} (f : ℕ → X) (range : Range) (value : X) → range.first ≤ range.last → ((k : ℕ) → f k ≡ value)
    → map f (numbers range) ≡ replicate (range.last - range.first + 1) value
all_flags f range value some is =
    let n : ℕ = range.last + 1 - range.first in
    let long = length-map-range_with_len f range.first n in
    let m : ℕ = range.last - range.first + 1 in
    let short : length (replicate m value) ≡ m = length-replicate m value in
    same_lists _ _ (omega (arith, long, short)) (λ k d within.
    let less : k < n = omega (arith, long) in
    get_or-map-range_with_len f range.first n k (range.first + k) d less refl ∙ is (range.first + k)
    ∙ sym (get_or-replicate m k value d (omega arith)))

abbrev aliased : Range → List Bool → List (Option Addr) → Aliases
aliased range flags hosts = record { pool = record { range = range; taken = flags }; hosts = hosts }

same_aliased : (range : Range) (flags flags' : List Bool) (hosts hosts' : List (Option Addr)) → flags ≡ flags' → hosts ≡ hosts'
    → aliased range flags hosts ≡ aliased range flags' hosts'
same_aliased range flags flags' hosts hosts' p q = cc

-- where there is no binding, no address is taken
pub none_used : (range : Range) (side : Side) → range.first ≤ range.last
    → map (is_used side []) (numbers range) ≡ replicate (range.last - range.first + 1) false
none_used range side some = all_flags (is_used side []) range false some (λ k. refl)

pub none_standing : (first last : Addr) (side : Side) → first.0 ≤ last.0
    → no_hosts first last ≡ aliases_with (record { first = first.0; last = last.0 }) side []
none_standing first last side some =
    let range : Range = record { first = first.0; last = last.0 } in
    same_aliased range _ _ _ _ (sym (none_used range side some)) (sym (all_flags (host_at side []) range None some (λ k. refl)))

-- where the same addresses are taken and stand for the same hosts
pub same_aliases : (range : Range) (side : Side) (xs ys : List Binding) → ((k : ℕ) → is_used side xs k ≡ is_used side ys k)
    → ((k : ℕ) → host_at side xs k ≡ host_at side ys k) → aliases_with range side xs ≡ aliases_with range side ys
same_aliases range side xs ys used hosts = same_aliased range _ _ _ _ (same_flags (is_used side xs) (is_used side ys) range used)
    (same_flags (host_at side xs) (host_at side ys) range hosts)

-- ## A binding among others

or_swap : (x y z : Bool) → (x || (y || z)) ≡ (y || (x || z))
or_swap true true z = refl
or_swap true false z = refl
or_swap false true z = refl
or_swap false false z = refl

pub used_among : (side : Side) (xs ys : List Binding) (binding : Binding) (k : ℕ)
    → is_used side (xs ++ binding ∷ ys) k ≡ (is_of_alias side k binding || is_used side (xs ++ ys) k)
used_among side xs ys binding k =
    list_any-append (is_of_alias side k) xs (binding ∷ ys) ∙ or_swap (is_used side xs k) (is_of_alias side k binding) (is_used side ys k)
    ∙ ap (λ r. is_of_alias side k binding || r) (sym (list_any-append (is_of_alias side k) xs ys))

pub used_alias : (side : Side) (xs ys : List Binding) (binding : Binding) → same_side binding.side (other side) ≡ true
    → is_used side (xs ++ binding ∷ ys) binding.alias.0 ≡ true
used_alias side xs ys binding h = used_among side xs ys binding binding.alias.0
    ∙ or_left _ _ (and_from _ _ h (eq-eqb binding.alias.0 binding.alias.0 refl))

pub used_elsewhere : (side : Side) (xs ys : List Binding) (binding : Binding) (k : ℕ) → k ≢ binding.alias.0
    → is_used side (xs ++ binding ∷ ys) k ≡ is_used side (xs ++ ys) k
used_elsewhere side xs ys binding k differs =
    used_among side xs ys binding k ∙ ap (λ b. b || is_used side (xs ++ ys) k) (and_right _ _ (ne_eqb binding.alias.0 k (λ e. differs (sym e))))

used_as_before : (side : Side) (xs ys : List Binding) (binding : Binding) (k : ℕ) → same_side binding.side (other side) ≡ false
    → is_used side (xs ++ binding ∷ ys) k ≡ is_used side (xs ++ ys) k
used_as_before side xs ys binding k h = used_among side xs ys binding k ∙ ap (λ b. b || is_used side (xs ++ ys) k) (and_left _ _ h)

-- the host that is found first
host_among : (side : Side) (xs ys : List Binding) (binding : Binding) (k : ℕ) → is_of_alias side k binding ≡ false
    → host_at side (xs ++ binding ∷ ys) k ≡ host_at side (xs ++ ys) k
host_among side [] ys binding k other = rw other refl
host_among side (one ∷ xs) ys binding k other = elim (cases_Bool (is_of_alias side k one)) [
  | inl passes ↦ rw passes refl
  | inr fails ↦ rw fails (host_among side xs ys binding k other)
]

host_here : (side : Side) (xs ys : List Binding) (binding : Binding) (k : ℕ) → is_of_alias side k binding ≡ true → is_used side (xs ++ ys) k ≡ false
    → host_at side (xs ++ binding ∷ ys) k ≡ Some binding.host
host_here side [] ys binding k here unused = rw here refl
host_here side (one ∷ xs) ys binding k here unused =
    let parts = or_parts (is_of_alias side k one) (is_used side (xs ++ ys) k) unused in
    rw parts.0 (host_here side xs ys binding k here parts.1)

pub no_host : (side : Side) (entries : List Binding) (k : ℕ) → is_used side entries k ≡ false → host_at side entries k ≡ None
no_host side [] k unused = refl
no_host side (one ∷ rest) k unused =
    let parts = or_parts (is_of_alias side k one) (is_used side rest k) unused in
    rw parts.0 (no_host side rest k parts.1)

-- an address of the range that no binding has
pub record IsLone (range : Range) (side : Side) (entries : List Binding) (binding : Binding) : Type 0 where
  pub within : is_in binding.alias range ≡ true
  pub unused : is_used side entries binding.alias.0 ≡ false

has_alias : (side : Side) (binding : Binding) → same_side binding.side (other side) ≡ true → is_of_alias side binding.alias.0 binding ≡ true
has_alias side binding h = and_from _ _ h (eq-eqb binding.alias.0 binding.alias.0 refl)

has_other : (side : Side) (binding : Binding) (k : ℕ) → k ≢ binding.alias.0 → is_of_alias side k binding ≡ false
has_other side binding k differs = and_right _ _ (ne_eqb binding.alias.0 k (λ e. differs (sym e)))

-- one address stands for the host of a binding, or for none
set_aliases : (range : Range) (side : Side) (xs ys : List Binding) (binding : Binding) (host : Option Addr) → is_in binding.alias range ≡ true
    → is_used side ys binding.alias.0 ≡ is_some host → host_at side ys binding.alias.0 ≡ host
    → ((k : ℕ) → k ≢ binding.alias.0 → is_used side xs k ≡ is_used side ys k)
    → ((k : ℕ) → k ≢ binding.alias.0 → host_at side xs k ≡ host_at side ys k) → with_host binding.alias host (aliases_with range side xs)
    ≡ aliases_with range side ys
set_aliases range side xs ys binding host within used stands others hosts =
    let bounds = and_parts (nat_le range.first binding.alias.0) (nat_le binding.alias.0 range.last) within in
    let low = leb-true _ _ bounds.0 in
    let high = leb-true _ _ bounds.1 in
    same_aliased range _ _ _ _ (set_flag (is_used side xs) (is_used side ys) range binding.alias.0 (is_some host) low high used others)
    (set_flag (host_at side xs) (host_at side ys) range binding.alias.0 host low high stands hosts)

-- where a binding comes among others, its alias stands for its host
pub changed_some : (range : Range) (side : Side) (xs ys : List Binding) (binding : Binding)
    → (same_side binding.side (other side) ≡ true → IsLone range side (xs ++ ys) binding)
    → changed side binding (Some binding.host) (aliases_with range side (xs ++ ys)) ≡ aliases_with range side (xs ++ binding ∷ ys)
changed_some range side xs ys binding lone =
    elim (cases_Bool (same_side binding.side (other side))) [
      | inl h ↦
          rw h (set_aliases range side (xs ++ ys) (xs ++ binding ∷ ys) binding (Some binding.host) (lone h).within (used_alias side xs ys binding h)
          (host_here side xs ys binding binding.alias.0 (has_alias side binding h) (lone h).unused)
          (λ k differs. sym (used_elsewhere side xs ys binding k differs))
          (λ k differs. sym (host_among side xs ys binding k (has_other side binding k differs))))
      | inr h ↦ rw h (same_aliases range side (xs ++ ys) (xs ++ binding ∷ ys) (λ k. sym (used_as_before side xs ys binding k h))
          (λ k. sym (host_among side xs ys binding k (and_left _ _ h))))
    ]

-- where a binding goes from among others, its alias stands for none
pub changed_none : (range : Range) (side : Side) (xs ys : List Binding) (binding : Binding)
    → (same_side binding.side (other side) ≡ true → IsLone range side (xs ++ ys) binding)
    → changed side binding None (aliases_with range side (xs ++ binding ∷ ys)) ≡ aliases_with range side (xs ++ ys)
changed_none range side xs ys binding lone =
    elim (cases_Bool (same_side binding.side (other side))) [
      | inl h ↦
          rw h (set_aliases range side (xs ++ binding ∷ ys) (xs ++ ys) binding None (lone h).within (lone h).unused
          (no_host side (xs ++ ys) binding.alias.0 (lone h).unused) (used_elsewhere side xs ys binding)
          (λ k differs. host_among side xs ys binding k (has_other side binding k differs)))
      | inr h ↦ rw h (same_aliases range side (xs ++ binding ∷ ys) (xs ++ ys) (λ k. used_as_before side xs ys binding k h)
          (λ k. host_among side xs ys binding k (and_left _ _ h)))
    ]

-- the flag of an address of the range
pub flag_at : (range : Range) (side : Side) (entries : List Binding) (address : Addr) (d : Bool) → is_in address range ≡ true
    → get_or (map (is_used side entries) (numbers range)) (address.0 - range.first) d ≡ is_used side entries address.0
flag_at range side entries address d within =
    let bounds = and_parts (nat_le range.first address.0) (nat_le address.0 range.last) within in
    let low = leb-true range.first address.0 bounds.0 in
    let high = leb-true address.0 range.last bounds.1 in
    get_or-map-range_with_len (is_used side entries) range.first (range.last + 1 - range.first) (address.0 - range.first) address.0 d (omega arith)
    (omega arith)

pub free_alias : (range : Range) (side : Side) (entries : List Binding) (address : Addr) → is_in address range ≡ true
    → is_used side entries address.0 ≡ false → IsTrue (is_free address (pool_with range side entries))
free_alias range side entries address within unused = and_from _ _ within (ap not (flag_at range side entries address true within ∙ unused))

pub taken_alias : (range : Range) (side : Side) (entries : List Binding) (address : Addr) → is_in address range ≡ true
    → is_used side entries address.0 ≡ true → IsTrue (is_taken address (pool_with range side entries))
taken_alias range side entries address within used = and_from _ _ within (flag_at range side entries address false within ∙ used)

-- a free address is one that no binding has
pub free_parts : (range : Range) (side : Side) (entries : List Binding) (address : Addr) → IsTrue (is_free address (pool_with range side entries))
    → (is_in address range ≡ true) × (is_used side entries address.0 ≡ false)
free_parts range side entries address free =
    let parts = and_parts (is_in address range) _ free in
    (parts.0, sym (flag_at range side entries address true parts.0) ∙ not-true _ parts.1)

-- the host for which an address of the pool stands
pub host_there : (range : Range) (side : Side) (entries : List Binding) (address : Addr) → is_in address range ≡ true
    → get_or (map (host_at side entries) (numbers range)) (address.0 - range.first) None ≡ host_of side address entries
host_there range side entries address within =
    let bounds = and_parts (nat_le range.first address.0) (nat_le address.0 range.last) within in
    let low = leb-true range.first address.0 bounds.0 in
    let high = leb-true address.0 range.last bounds.1 in
    get_or-map-range_with_len (host_at side entries) range.first (range.last + 1 - range.first) (address.0 - range.first) address.0 None (omega arith)
    (omega arith)
