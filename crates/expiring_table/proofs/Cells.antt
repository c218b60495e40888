-- Rows in cells.
use Rattle.std.proofs.Common.{◌≡◌, ◌≢◌, ℕ, zero, suc, ◌<◌, true, false, ◌==◌, List, [], ◌∷◌, ◌++◌, length, Option, Some, None, refl, ap, sym, ◌∙◌, arith, ◌⊎◌, inl, inr}
use Rattle.std.proofs.lemmas.Bool.{cases_lt, eq-eqb, ne_eqb}
use Rattle.std.proofs.lemmas.List.{get_or_past}
use Rattle.std.proofs.lemmas.Option.{none-some, same_Some}
use Rattle.expiring_table.specs.declared.row.Row.{Row}
use Rattle.expiring_table.specs.Prelude.{row_of, rows_in, row_at, AreOnce, IsPlaceOf}

ahead : (place : ℕ) → 0 ≡ suc place → ⊥
ahead place same = absurd (omega arith)

module _ {T : Type 0} where
  -- a row stands within the cells
  pub row_within : (cells : List (Option (Row T))) (place : ℕ) (row : Row T) → row_at cells place ≡ Some row → place < length cells
  row_within cells place row at =
      elim (cases_lt place (length cells)) [ inl h ↦ h | inr h ↦ absurd (none-some row (sym (get_or_past cells place None h) ∙ at)) ]

  -- the rows behind the first cell are distinct
  pub once_tail : (cell : Option (Row T)) (cells : List (Option (Row T))) → AreOnce (cell ∷ cells) → AreOnce cells
  once_tail cell cells once one other row next at_one at_other same =
      let e : suc one ≡ suc other = once (suc one) (suc other) row next at_one at_other same in omega arith

  -- no row has the key
  pub none_found : (key : ℕ) (cells : List (Option (Row T))) → ((place : ℕ) (row : Row T) → row_at cells place ≡ Some row → row.key ≢ key)
      → row_of key (rows_in cells) ≡ None
  none_found key [] none = refl
  none_found key (None ∷ cells) none = none_found key cells (λ place row at. none (suc place) row at)
  none_found key (Some row ∷ cells) none =
      let e : (row.key == key) ≡ false = grind (arith, none 0 row refl) in
      rw e (none_found key cells (λ place other at. none (suc place) other at))

  -- the row with the key is the one that is found
  pub found : (key : ℕ) (cells : List (Option (Row T))) (place : ℕ) (row : Row T) → AreOnce cells → row_at cells place ≡ Some row → row.key ≡ key
      → row_of key (rows_in cells) ≡ Some row
  found key [] place row once at is = at
  found key (None ∷ cells) zero row once at is = cc
  found key (None ∷ cells) (suc place) row once at is = found key cells place row (once_tail None cells once) at is
  found key (Some first ∷ cells) zero row once at is =
      let same : first ≡ row = cc in
      let e : (first.key == key) ≡ true = eq-eqb first.key key (ap (λ (one : Row T). one.key) same ∙ is) in
      rw e at
  found key (Some first ∷ cells) (suc place) row once at is =
      let e : (first.key == key) ≡ false = ne_eqb first.key key (λ same. ahead place (once 0 (suc place) first row refl at (same ∙ sym is))) in
      rw e (found key cells place row (once_tail (Some first) cells once) at is)

  -- what can be found is no row without the key
  pub none_from : (key : ℕ) (cells : List (Option (Row T))) → AreOnce cells → row_of key (rows_in cells) ≡ None → IsPlaceOf key cells None
  none_from key cells once none place row at is = none-some row (sym none ∙ found key cells place row once at is)

  -- ## One more cell

  pub push_cases : (cells : List (Option (Row T))) (cell : Option (Row T)) (place : ℕ) (row : Row T) → row_at (cells ++ cell ∷ []) place ≡ Some row
      → ((place < length cells) × (row_at cells place ≡ Some row)) ⊎ ((place ≡ length cells) × (cell ≡ Some row))
  push_cases [] cell zero row at = inr (refl, at)
  push_cases [] cell (suc place) row at = absurd (none-some row at)
  push_cases (first ∷ cells) cell zero row at = inl (omega arith, at)
  push_cases (first ∷ cells) cell (suc place) row at =
      elim (push_cases cells cell place row at) [ inl h ↦ inl (omega (arith, h.0), h.1) | inr h ↦ inr (ap suc (h.0), h.1) ]

  pub rows_push : (cells : List (Option (Row T))) (row : Row T) → rows_in (cells ++ Some row ∷ []) ≡ rows_in cells ++ row ∷ []
  rows_push [] row = refl
  rows_push (None ∷ cells) row = rows_push cells row
  rows_push (Some first ∷ cells) row = ap (λ rows. first ∷ rows) (rows_push cells row)

  pub once_push : (cells : List (Option (Row T))) (new : Row T) → AreOnce cells → IsPlaceOf new.key cells None → AreOnce (cells ++ Some new ∷ [])
  once_push cells new once none one other row next at_one at_other same =
      elim (push_cases cells (Some new) one row at_one) [
        | inl a ↦ elim (push_cases cells (Some new) other next at_other) [
          | inl b ↦ once one other row next (a.1) (b.1) same
          | inr b ↦ absurd (none one row (a.1) (same ∙ ap (λ (found : Row T). found.key) (sym (same_Some new next (b.1)))))
        ]
        | inr a ↦ elim (push_cases cells (Some new) other next at_other) [
          | inl b ↦ absurd (none other next (b.1) (sym same ∙ ap (λ (found : Row T). found.key) (sym (same_Some new row (a.1)))))
          | inr b ↦ a.0 ∙ sym (b.0)
        ]
      ]
