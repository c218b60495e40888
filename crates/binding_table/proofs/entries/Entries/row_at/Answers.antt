use Rattle.std.proofs.Common.{◌≡◌, ◌++◌, ℕ, Bor, IfSome, List, Option, None, Some, option_and_then, option_copied, subst, sym}
use Rattle.expiring_table.specs.declared.row.Row.{Row}
use Rattle.expiring_table.specs.Prelude.{Table, row_of}
use Rattle.binding_table.specs.declared.binding.Binding.{Binding}
use Rattle.binding_table.specs.Prelude.{fixed_rows, AreApart, ending}
use Rattle.binding_table.proofs.EntriesApart.{located}
use Rattle.binding_table.proofs.entries.Entries.row_at.Goals as goal

-- what is found among the others is what has an end
seen : (key : ℕ) (fixed : List (Row Binding)) (moving : Table Binding) → AreApart fixed moving → (found : Option (Bor (Row Binding)))
    → IfSome found (λ row. row_of key moving.rows ≡ Some row.now)
    → IfSome (option_copied found) (λ row. option_and_then ending (row_of key (fixed ++ moving.rows)) ≡ Some row)
seen key fixed moving are None is = tt
seen key fixed moving are (Some row) is = sym (located key fixed moving row.now are is)

pub returns : goal.returns
returns c =
    let number = c.args.number in
    let P : Option (Row Binding) → Table Binding → Type 0 = λ o t. IfSome o (λ row. option_and_then ending (row_of number t.rows) ≡ Some row) in
    subst (P c.copied.result) c.self.view_is
    (subst (λ (o : Option (Row Binding)). IfSome o
    (λ row. option_and_then ending (row_of number (fixed_rows c.self.inside ++ c.self.inside.moving.rows)) ≡ Some row)) (sym c.copied.ensures)
    (seen number (fixed_rows c.self.inside) c.self.inside.moving c.self.invariant c.row_at.result c.row_at.ensures))
