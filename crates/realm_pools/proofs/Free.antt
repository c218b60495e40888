-- The first free place, and the address that stands there.
use Rattle.std.proofs.Common.{cond, ◌≡◌, ℕ, ◌+◌, ◌-◌, ◌<◌, ◌≤◌, Bool, true, false, not, IsTrue, nat_le, nat_lt, List, length, drop, replicate, get_or, position, Option, Some, None, option_map, IfSome, IfNone, refl, sym, ◌∙◌, ap, arith, inl, inr}
use Rattle.std.specs.List.{position_or_len}
use Rattle.std.proofs.lemmas.List.{get_or-drop, length-drop, get_or_default, get_or_past, get_or-replicate, length-replicate}
use Rattle.std.proofs.lemmas.List.Quantifiers.{position-Some}
use Rattle.std.proofs.lemmas.List.Sums.{fails_before_first, passes_at_first, position_or_len_is, prefix_len-le-length}
use Rattle.std.proofs.lemmas.Bool.{lt-ltb, le-ltb, cases_Bool, cases_lt, false≢true, not-false, and_parts, and_from, not-true, not_from_false, not_from_true, leb-true, le-leb, ltb-false}
use Rattle.gate_base.specs.declared.address.Addr.{Addr}
use Rattle.realm_pools.specs.Inside.Places.{bit_of, one_if, IsFirst}
use Rattle.realm_pools.specs.Addresses.{Range, Addresses, is_in, is_free, free_from, place_of, IsLeastFree, IsNoneFree}

abbrev address_of : ℕ → Addr
address_of number = record { 0 = number }

-- what it means that an address is free
record Frees (address : Addr) (pool : Addresses) : Type 0 where
  from : pool.range.first ≤ address.0
  to : address.0 ≤ pool.range.last
  flag : get_or pool.taken (address.0 - pool.range.first) true ≡ false

frees : (address : Addr) (pool : Addresses) → IsTrue (is_free address pool) → Frees address pool
frees address pool free =
    let parts = and_parts (is_in address pool.range) (not (get_or pool.taken (place_of address pool) true)) free in
    let range = and_parts (nat_le pool.range.first address.0) (nat_le address.0 pool.range.last) parts.0 in
    record {
      from = leb-true pool.range.first address.0 range.0;
      to = leb-true address.0 pool.range.last range.1;
      flag = not-true (get_or pool.taken (place_of address pool) true) parts.1;
    }

free_by : (address : Addr) (pool : Addresses) → Frees address pool → IsTrue (is_free address pool)
free_by address pool f =
    and_from (is_in address pool.range) (not (get_or pool.taken (place_of address pool) true))
    (and_from (nat_le pool.range.first address.0) (nat_le address.0 pool.range.last) (le-leb pool.range.first address.0 f.from)
    (le-leb address.0 pool.range.last f.to))
    (not_from_false (get_or pool.taken (place_of address pool) true) f.flag)

-- the pool has a flag for each of its addresses
abbrev pub HasFlags : Addresses → Type 0
HasFlags pool = pool.range.first + length pool.taken ≡ pool.range.last + 1

least_of : (bound place : ℕ) (pool : Addresses) (found : Option ℕ) → position not (drop place pool.taken) ≡ found → HasFlags pool
    → bound ≤ pool.range.first + place → ((other : Addr) → bound ≤ other.0 → pool.range.first ≤ other.0 → place ≤ other.0 - pool.range.first)
    → IfSome (option_map (λ more. address_of (pool.range.first + (place + more))) found) (IsLeastFree bound pool)
least_of bound place pool None e flags low above = tt
least_of bound place pool (Some more) e flags low above =
    let at = position-Some not (drop place pool.taken) more true e in
    let within : place + more < length pool.taken = omega (arith, at.0, length-drop place pool.taken) in
    let address = address_of (pool.range.first + (place + more)) in
    let here : address.0 - pool.range.first ≡ place + more = omega arith in
    record {
      free = free_by address pool
          (record { from = omega arith; to = omega arith; flag = rw here (sym (get_or-drop place pool.taken more true) ∙ not-true _ at.1) });
      within = omega arith;
      least = λ other free after. elim (cases_lt other.0 address.0) [
        | inl lower ↦
            let f = frees other pool free in
            let past = above other after f.from in
            let k : ℕ = other.0 - pool.range.first - place in
            let same : place + k ≡ other.0 - pool.range.first = omega arith in
            let flag : get_or (drop place pool.taken) k true ≡ false = get_or-drop place pool.taken k true ∙ rw same f.flag in
            absurd (false≢true (sym flag ∙ not-false _ (at.2 k (omega arith))))
        | inr greater ↦ greater
      ];
    }

none_of : (bound place : ℕ) (pool : Addresses) (found : Option ℕ) → position not (drop place pool.taken) ≡ found → HasFlags pool
    → ((other : Addr) → bound ≤ other.0 → pool.range.first ≤ other.0 → place ≤ other.0 - pool.range.first)
    → IfNone (option_map (λ more. address_of (pool.range.first + (place + more))) found) (IsNoneFree bound pool)
none_of bound place pool (Some more) e flags above = tt
none_of bound place pool None e flags above = λ other free after.
    let f = frees other pool free in
    let past = above other after f.from in
    let k : ℕ = other.0 - pool.range.first - place in
    let same : place + k ≡ other.0 - pool.range.first = omega arith in
    let flag : get_or (drop place pool.taken) k true ≡ false = get_or-drop place pool.taken k true ∙ rw same f.flag in
    let within : k < length (drop place pool.taken) = omega (arith, length-drop place pool.taken) in
    elim (cases_Bool (nat_lt (position_or_len not (drop place pool.taken)) (length (drop place pool.taken)))) [
      | inl holds ↦ cc (rw holds at e)
      | inr fails ↦ false≢true (sym flag ∙ not-false _ (fails_before_first not (drop place pool.taken) k true (omega (arith, ltb-false))))
    ]

-- the first free address from a place on is the least above a bound, where no address above the bound stands before the place
pub least_from : (bound place : ℕ) (pool : Addresses) → HasFlags pool → bound ≤ pool.range.first + place
    → ((other : Addr) → bound ≤ other.0 → pool.range.first ≤ other.0 → place ≤ other.0 - pool.range.first)
    → IfSome (free_from place pool) (IsLeastFree bound pool)
least_from bound place pool = least_of bound place pool (position not (drop place pool.taken)) refl

pub none_from : (bound place : ℕ) (pool : Addresses) → HasFlags pool
    → ((other : Addr) → bound ≤ other.0 → pool.range.first ≤ other.0 → place ≤ other.0 - pool.range.first)
    → IfNone (free_from place pool) (IsNoneFree bound pool)
none_from bound place pool = none_of bound place pool (position not (drop place pool.taken)) refl

address_at : (first low first_place rest_place all rest : ℕ) → first_place ≡ low + rest_place → all ≡ low + rest
    → option_map (λ more. address_of (first + (low + more))) (cond (nat_lt rest_place rest) (Some rest_place) None)
    ≡ option_map (λ more. address_of (first + (0 + more))) (cond (nat_lt first_place all) (Some first_place) None)
address_at first low first_place rest_place all rest e f =
    elim (cases_lt rest_place rest) [
      | inl less ↦
          let one = lt-ltb rest_place rest less in
          let two = lt-ltb first_place all (omega arith) in
          rw (one, two) (ap (λ (n : ℕ). Some (address_of n)) (omega arith))
      | inr more ↦
          let one = le-ltb rest_place rest more in
          let two = le-ltb first_place all (omega arith) in
          rw (one, two)
    ]

-- where all addresses below a place are taken, the first free one from there on is the least
pub from_low : (range : Range) (taken : List Bool) (low : ℕ) → low ≤ length taken → ((place : ℕ) → place < low → get_or taken place false ≡ true)
    → free_from low (record { range = range; taken = taken }) ≡ free_from 0 (record { range = range; taken = taken })
from_low range taken low within all =
    let more : ℕ = position_or_len not (drop low taken) in
    let fits : more ≤ length (drop low taken) = prefix_len-le-length _ (drop low taken) in
    let long : length (drop low taken) ≡ length taken - low = length-drop low taken in
    let below : (place : ℕ) → place < low + more → not (get_or taken place true) ≡ false = λ place less. elim (cases_lt place low) [
      | inl under ↦ not_from_true (get_or taken place true) (get_or_default taken place true false (omega arith) ∙ all place under)
      | inr over ↦
          let k : ℕ = place - low in
          let same : low + k ≡ place = omega arith in
          ap not (ap (λ (n : ℕ). get_or taken n true) (sym same) ∙ sym (get_or-drop low taken k true))
          ∙ fails_before_first not (drop low taken) k true (omega arith)
    ] in
    let at : low + more < length taken → not (get_or taken (low + more) true) ≡ true = λ less. ap not (sym (get_or-drop low taken more true))
    ∙ passes_at_first not (drop low taken) true (omega arith) in
    let first_place = position_or_len_is not taken (low + more) true (omega arith) below at in
    address_at range.first low (position_or_len not taken) more (length taken) (length (drop low taken)) first_place (omega arith)

-- ## The first bit, and the first place

free_here : (taken : Bool) → one_if (not taken) ≡ 1 → taken ≡ false
free_here true is = let bad : ⊥ = cc in absurd bad
free_here false is = refl

taken_here : (taken : Bool) → one_if (not taken) ≡ 0 → not taken ≡ false
taken_here true is = refl
taken_here false is = let bad : ⊥ = cc in absurd bad

position_at : (flags : List Bool) (n : ℕ) → n ≤ length flags → ((k : ℕ) → k < n → not (get_or flags k true) ≡ false)
    → (n < length flags → not (get_or flags n true) ≡ true) → position not flags ≡ cond (nat_lt n (length flags)) (Some n) None
position_at flags n within below at = ap (λ i. cond (nat_lt i (length flags)) (Some i) None) (position_or_len_is not flags n true within below at)

-- a bit is 1 where the place is free
abbrev pub AreFree : List ℕ → List Bool → Type 0
AreFree words taken = (place : ℕ) → bit_of words place ≡ one_if (not (get_or taken place true))

pub place_within : (words : List ℕ) (taken : List Bool) (place : ℕ) → AreFree words taken → bit_of words place ≡ 1 → place < length taken
place_within words taken place bits one = elim (cases_lt place (length taken)) [
  | inl h ↦ h
  | inr h ↦ absurd (false≢true (sym (free_here (get_or taken place true) (sym (bits place) ∙ one)) ∙ get_or_past taken place true h))
]

pub first_place : (range : Range) (words : List ℕ) (taken : List Bool) (place : ℕ) (first : Option ℕ) → AreFree words taken
    → IsFirst (bit_of words) place first → option_map (λ n. address_of (range.first + n)) first
    ≡ free_from place (record { range = range; taken = taken })
first_place range words taken place None bits none =
    let rest = drop place taken in
    let below : (k : ℕ) → k < length rest → not (get_or rest k true) ≡ false = λ k less.
    ap not (get_or-drop place taken k true) ∙ taken_here (get_or taken (place + k) true) (sym (bits (place + k)) ∙ none (place + k) (omega arith))
    in
    sym (ap (option_map (λ more. address_of (range.first + (place + more))))
    (position_at rest (length rest) (omega arith) below (λ less. absurd (omega arith))
    ∙ ap (λ b. cond b (Some (length rest)) None) (le-ltb (length rest) (length rest) (omega arith))))
first_place range words taken place (Some found) bits first =
    let rest = drop place taken in
    let more : ℕ = found - place in
    let is : found ≡ place + more = omega (arith, first.0) in
    let within : more < length rest = omega (arith, place_within words taken found bits (first.1), first.0, length-drop place taken) in
    let below : (k : ℕ) → k < more → not (get_or rest k true) ≡ false = λ k less.
    ap not (get_or-drop place taken k true) ∙ taken_here (get_or taken (place + k) true)
    (sym (bits (place + k)) ∙ first.2 (place + k) (omega arith) (omega arith))
    in
    let at : not (get_or rest more true) ≡ true =
    ap not (get_or-drop place taken more true ∙ ap (λ n. get_or taken n true) (sym is)
    ∙ free_here (get_or taken found true) (sym (bits found) ∙ first.1))
    in
    ap (λ n. Some (address_of (range.first + n))) is
    ∙ sym (ap (option_map (λ more. address_of (range.first + (place + more))))
    (position_at rest more (omega arith) below (λ less. at) ∙ ap (λ b. cond b (Some more) None) (lt-ltb more (length rest) within)))

-- the places below the size of an unused pool are free
pub free_below : (size place : ℕ) → one_if (nat_lt place size) ≡ one_if (not (get_or (replicate size false) place true))
free_below size place = ap one_if (elim (cases_lt place size) [
  | inl less ↦ lt-ltb place size less ∙ sym (ap not (get_or-replicate size place false true less))
  | inr more ↦ le-ltb place size more ∙ sym (ap not (get_or_past (replicate size false) place true (omega (arith, length-replicate size false))))
])
