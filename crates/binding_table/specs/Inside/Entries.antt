-- What the entries of a table keep.
use Rattle.std.specs.Prelude.{◌≡◌, ◌<◌, ◌*◌, ◌^◌, ℕ, List, ◌++◌, map, None, All, IsSome}
use Rattle.expiring_table.specs.declared.row.Row.{Row}
use Rattle.expiring_table.specs.Prelude.{Table, row_of}
use Rattle.binding_table.specs.declared.binding.Binding.{Binding}
use Rattle.binding_table.specs.declared.entries.Entries.TheInside.{Inside}

-- a fixed binding as a row
abbrev pub fixed_row : ℕ × Binding → Row Binding
fixed_row entry = record { key = entry.0; end = None; value = entry.1 }

abbrev pub fixed_rows : Inside → List (Row Binding)
fixed_rows entries = map fixed_row entries.fixed.entries

-- the rows of the fixed bindings, and those of the others behind them
abbrev pub all_rows : List (Row Binding) → Table Binding → Table Binding
all_rows fixed moving = record { most = moving.most; rows = fixed ++ moving.rows }

abbrev pub rows_inside : Inside → Table Binding
rows_inside entries = all_rows (fixed_rows entries) entries.moving

-- no row of the second list has the number of one of the first
abbrev pub HaveNoneOf : List (Row Binding) → List (Row Binding) → Type 0
HaveNoneOf fixed moving = (key : ℕ) → IsSome (row_of key moving) → row_of key fixed ≡ None

-- the others have numbers of their own, and an end each
pub record AreApart (fixed : List (Row Binding)) (moving : Table Binding) : Type 0 where
  pub apart : HaveNoneOf fixed moving.rows
  pub ends : All (λ row. IsSome row.end) moving.rows
  pub few : 2 * moving.most < 2 ^ 32
