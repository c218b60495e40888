-- How many addresses need a binding.
use Rattle.std.proofs.Common.{◌≡◌, ℕ, ◌+◌, ◌*◌, ◌<◌, ◌^◌, true, false, not, ◌==◌, eqb, cond, List, [], ◌∷◌, ◌++◌, length, map, get_or, take, drop, refl, sym, ◌∙◌, ap, arith, inl, inr, drop-cons, add-one}
use Rattle.std.specs.List.{AllByRecursion, IsDistinct, list_any}
use Rattle.std.proofs.lemmas.List.{length-map, take_more}
use Rattle.std.proofs.lemmas.List.Folds.{list_any-append}
use Rattle.std.proofs.lemmas.Map.Steps.{length-le_from_distinct_below}
use Rattle.std.proofs.lemmas.Bool.{eq-eqb, or_right, cases_Bool, and_parts, or_parts, or_left, or_cases, not-true, not-false, eqb-true}
use Rattle.gate_base.specs.Prelude.{is_unicast_number}
use Rattle.gate_base.specs.declared.address.Addr.{Addr}
use Rattle.gate_base.specs.declared.side.Side.{Side}
use Rattle.gate_settings.specs.Prelude.{is_in_same}
use Rattle.binding_table.specs.Prelude.{Bindings, cross, needs_binding, is_address, is_among, is_fresh, fresh_after, needed}
use Rattle.binding_table.proofs.Bind.{fresh_is}
use Rattle.binding_table.proofs.Opening.{top_of}

abbrev number : Addr → ℕ
number address = address.0

-- an address that needs a binding is that of a host
fresh_below : (table : Bindings) (side : Side) (earlier : List Addr) (address : Addr) → is_fresh table side earlier address ≡ true
    → address.0 < 224 * 2 ^ 24
fresh_below table side earlier address h =
    let needs = (and_parts (needs_binding (cross table side address)) (not (is_among earlier address)) h).0 in
    let unicast = not-false _
    (or_parts (not (is_unicast_number address.0)) (is_in_same address table.same) (fresh_is table side address needs).differs).0 in
    let below = (top_of address.0 unicast).below in
    omega (arith, below)

among_more : (earlier : List Addr) (address one : Addr) → is_among earlier address ≡ true → is_among (earlier ++ one ∷ []) address ≡ true
among_more earlier address one h = list_any-append (is_address address) earlier (one ∷ []) ∙ or_left _ _ h

pub among_last : (earlier : List Addr) (address : Addr) → is_among (earlier ++ address ∷ []) address ≡ true
among_last earlier address = list_any-append (is_address address) earlier (address ∷ [])
    ∙ or_right _ _ (or_left _ _ (eq-eqb address.0 address.0 refl))

-- an earlier address isn't counted again
not_again : (table : Bindings) (side : Side) (earlier addresses : List Addr) (address : Addr) → is_among earlier address ≡ true
    → AllByRecursion (λ other. eqb address.0 other ≡ false) (map number (fresh_after table side earlier addresses))
not_again table side earlier [] address h = tt
not_again table side earlier (one ∷ rest) address h = elim (cases_Bool (is_fresh table side earlier one)) [
  | inl fresh ↦
      let absent = not-true _ (and_parts (needs_binding (cross table side one)) (not (is_among earlier one)) fresh).1 in
      let differs : eqb address.0 one.0 ≡ false = elim (cases_Bool (eqb address.0 one.0)) [
        | inl same ↦ cc (h, absent, ap (λ (n : ℕ). list_any (λ (other : Addr). other.0 == n) earlier) (eqb-true _ _ same))
        | inr differs ↦ differs
      ] in
      rw fresh (differs, not_again table side (earlier ++ one ∷ []) rest address (among_more earlier address one h))
  | inr stale ↦ rw stale (not_again table side (earlier ++ one ∷ []) rest address (among_more earlier address one h))
]

distinct : (table : Bindings) (side : Side) (earlier addresses : List Addr) → IsDistinct eqb (map number (fresh_after table side earlier addresses))
unfolding IsDistinct
distinct table side earlier [] = tt
distinct table side earlier (one ∷ rest) = elim (cases_Bool (is_fresh table side earlier one)) [
  | inl fresh ↦ rw fresh (
    not_again table side (earlier ++ one ∷ []) rest one (among_last earlier one),
    distinct table side (earlier ++ one ∷ []) rest,
  )
  | inr stale ↦ rw stale (distinct table side (earlier ++ one ∷ []) rest)
]

all_below : (table : Bindings) (side : Side) (earlier addresses : List Addr) (q : ℕ)
    → list_any (eqb q) (map number (fresh_after table side earlier addresses)) ≡ true → q < 224 * 2 ^ 24
all_below table side earlier [] q h = cc
all_below table side earlier (one ∷ rest) q h = elim (cases_Bool (is_fresh table side earlier one)) [
  | inl fresh ↦ elim (or_cases (eqb q one.0) _ (rw fresh at h)) [
    | inl same ↦ let e = eqb-true _ _ same in let below = fresh_below table side earlier one fresh in omega arith
    | inr later ↦ all_below table side (earlier ++ one ∷ []) rest q later
  ]
  | inr stale ↦ all_below table side (earlier ++ one ∷ []) rest q (rw stale at h)
]

-- fewer than 2^32 distinct addresses need a binding
pub needed_small : (table : Bindings) (side : Side) (addresses : List Addr) → needed table side addresses < 2 ^ 32
needed_small table side addresses =
    let fresh = fresh_after table side [] addresses in
    let few = length-le_from_distinct_below (map number fresh) (224 * 2 ^ 24) (distinct table side [] addresses)
    (all_below table side [] addresses) in
    omega (arith, few, length-map fresh number)

pub fresh_cons : (table : Bindings) (side : Side) (earlier : List Addr) (one : Addr) (rest : List Addr)
    → length (fresh_after table side earlier (one ∷ rest)) ≡ cond (is_fresh table side earlier one) 1 0
    + length (fresh_after table side (earlier ++ one ∷ []) rest)
fresh_cons table side earlier one rest = elim (cases_Bool (is_fresh table side earlier one)) [
  | inl fresh ↦ rw fresh (omega arith)
  | inr stale ↦ rw stale (omega arith)
]

pub fresh_step : (table : Bindings) (side : Side) (addresses : List Addr) (place : ℕ) (d : Addr) → place < length addresses
    → length (fresh_after table side (take place addresses) (drop place addresses))
    ≡ cond (is_fresh table side (take place addresses) (get_or addresses place d)) 1 0
    + length (fresh_after table side (take (place + 1) addresses) (drop (place + 1) addresses))
fresh_step table side addresses place d within =
    let here : Addr = get_or addresses place d in
    let rest = drop (place + 1) addresses in
    let from : drop place addresses ≡ here ∷ rest = rw add-one (drop-cons addresses place d within) in
    ap (λ list. length (fresh_after table side (take place addresses) list)) from
    ∙ fresh_cons table side (take place addresses) here rest
    ∙ ap (λ list. cond (is_fresh table side (take place addresses) here) 1 0 + length (fresh_after table side list rest))
    (sym (take_more addresses place d within))
