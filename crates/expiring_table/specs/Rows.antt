-- Rows under keys.
use Rattle.std.specs.Prelude.{◌≡◌, ℕ, Bool, true, false, not, ◌==◌, nat_lt, if◌then◌else◌, List, [], ◌∷◌, map, Option, Some, None}
use Rattle.std.specs.List.{find, filter}
use Rattle.expiring_table.specs.declared.row.Row.{Row}

-- a moment is before an end, if there is one
abbrev pub is_before : ℕ → Option ℕ → Bool
is_before now None = true
is_before now (Some end) = nat_lt now end

-- how many rows there may be, and the rows in the order in which they were put in
pub record Table (T : Type 0) : Type 0 where
  pub most : ℕ
  pub rows : List (Row T)

module _ {T : Type 0} where
  abbrev pub no_rows : ℕ → Table T
  no_rows most = record { most = most; rows = [] }

  -- the row has this key
  abbrev pub is_of : ℕ → Row T → Bool
  is_of key row = row.key == key

  abbrev pub lives : ℕ → Row T → Bool
  lives now row = is_before now row.end

  -- the row with this key
  abbrev pub row_of : ℕ → List (Row T) → Option (Row T)
  row_of key rows = find (is_of key) rows

  -- the rows without the one with this key
  abbrev pub without : ℕ → List (Row T) → List (Row T)
  without key rows = filter (λ row. not (is_of key row)) rows

  -- the rows, where one becomes another with its key, at its place
  abbrev pub with_row : Row T → List (Row T) → List (Row T)
  with_row new rows = map (λ row. if is_of new.key row then new else row) rows

  -- the rows that live
  abbrev pub living : ℕ → List (Row T) → List (Row T)
  living now rows = filter (lives now) rows

  -- no two rows have one key
  abbrev pub AreDistinct : List (Row T) → Type 0
  AreDistinct [] = Unit {0}
  AreDistinct (row ∷ rows) = (row_of row.key rows ≡ None) × AreDistinct rows

  -- a row that doesn't live was taken out of rows
  pub record IsEnded (now : ℕ) (old new : List (Row T)) (row : Row T) : Type 0 where
    pub there : row_of row.key old ≡ Some row
    pub ended : lives now row ≡ false
    pub rest : new ≡ without row.key old

  abbrev pub IsTakenOut : ℕ → Table T → Table T → Row T → Type 0
  IsTakenOut now old new row = (new.most ≡ old.most) × IsEnded now old.rows new.rows row
