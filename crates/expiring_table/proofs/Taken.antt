-- A row is taken out of distinct ones.
use Rattle.std.proofs.Common.{◌≡◌, ◌⊎◌, inl, inr, ℕ, ◌+◌, true, false, ◌==◌, List, [], ◌∷◌, length, Option, Some, None, refl, ap, sym, ◌∙◌, subst, arith}
use Rattle.std.proofs.lemmas.Bool.{cases_Bool}
use Rattle.std.proofs.lemmas.Option.{none-some, same_Some}
use Rattle.expiring_table.specs.declared.row.Row.{Row}
use Rattle.expiring_table.specs.Prelude.{row_of, without, AreDistinct, with_row, rows_in, AreOnce}
use Rattle.expiring_table.proofs.Cells.{once_tail, none_found}
use Rattle.expiring_table.proofs.Changes.{rest_other}

module _ {T : Type 0} where
  pub distinct_in : (cells : List (Option (Row T))) → AreOnce cells → AreDistinct (rows_in cells)
  distinct_in [] once = tt
  distinct_in (None ∷ cells) once = distinct_in cells (once_tail None cells once)
  distinct_in (Some row ∷ cells) once = (none_found row.key cells (rest_other row cells once), distinct_in cells (once_tail (Some row) cells once))

  pub without_none : (key : ℕ) (rows : List (Row T)) → row_of key rows ≡ None → without key rows ≡ rows
  without_none key [] none = refl
  without_none key (row ∷ rows) none =
      elim (cases_Bool (row.key == key)) [
        | inl e ↦ let found : Some row ≡ None = sym (rw e refl) ∙ none in absurd (none-some row (sym found))
        | inr e ↦ let rest : row_of key rows ≡ None = (let p : row_of key (row ∷ rows) ≡ row_of key rows = rw e refl in sym p ∙ none) in
            rw e (ap (λ more. row ∷ more) (without_none key rows rest))
      ]

  pub with_none : (new : Row T) (rows : List (Row T)) → row_of new.key rows ≡ None → with_row new rows ≡ rows
  with_none new [] none = refl
  with_none new (row ∷ rows) none =
      elim (cases_Bool (row.key == new.key)) [
        | inl e ↦ let found : row_of new.key (row ∷ rows) ≡ Some row = rw e refl in absurd (none-some row (sym none ∙ found))
        | inr e ↦ let rest : row_of new.key (row ∷ rows) ≡ row_of new.key rows = rw e refl in
            rw e (ap (λ more. row ∷ more) (with_none new rows (sym rest ∙ none)))
      ]

  -- the first row is the one that is found, or the rest has it
  found_cases : (first row : Row T) (rows : List (Row T)) → row_of row.key (first ∷ rows) ≡ Some row → ((first.key == row.key) ≡ true × (first ≡ row))
      ⊎ ((first.key == row.key) ≡ false × (row_of row.key rows ≡ Some row))
  found_cases first row rows found =
      elim (cases_Bool (first.key == row.key)) [
        | inl e ↦ let p : row_of row.key (first ∷ rows) ≡ Some first = rw e refl in inl (e, same_Some first row (sym p ∙ found))
        | inr e ↦ let p : row_of row.key (first ∷ rows) ≡ row_of row.key rows = rw e refl in inr (e, sym p ∙ found)
      ]

  -- without the first row, where that is the one
  rest_is : (first row : Row T) (rows : List (Row T)) → AreDistinct (first ∷ rows) → first ≡ row → without row.key rows ≡ rows
  rest_is first row rows distinct same =
      let P : ℕ → Type 0 = λ key. row_of key rows ≡ None in without_none row.key rows (subst P (ap (λ (one : Row T). one.key) same) (distinct.0))

  pub taken_fewer : (row : Row T) (rows : List (Row T)) → AreDistinct rows → row_of row.key rows ≡ Some row
      → length (without row.key rows) + 1 ≡ length rows
  taken_fewer row [] distinct found = absurd (none-some row found)
  taken_fewer row (first ∷ rows) distinct found =
      elim (found_cases first row rows found) [
        | inl h ↦ rw (h.0) (let e : length (without row.key rows) ≡ length rows = ap length (rest_is first row rows distinct (h.1)) in omega arith)
        | inr h ↦ rw (h.0) (omega (arith, taken_fewer row rows (distinct.1) (h.1)))
      ]
