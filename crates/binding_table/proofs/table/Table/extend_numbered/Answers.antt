use Rattle.std.proofs.Common.{◌≡◌, ◌∙◌, ℕ, List, Some, map, ap, option_and_then, sym}
use Rattle.expiring_table.specs.declared.row.Row.{Row}
use Rattle.expiring_table.specs.Prelude.{row_of}
use Rattle.binding_table.specs.declared.binding.Binding.{Binding}
use Rattle.binding_table.specs.declared.table.Table.TheInside.{Inside}
use Rattle.binding_table.specs.Prelude.{Bindings, bindings_of, ending, filed, moving_row}
use Rattle.binding_table.proofs.Filed.{IsMoving, moving_is}
use Rattle.binding_table.proofs.table.Table.extend_numbered.Goals as goal

-- what is found in the table as it is kept
kept : (number : ℕ) (inside : Inside) (table : Bindings) (row : Row Binding) → inside.bindings.rows ≡ map filed (bindings_of inside).entries
    → bindings_of inside ≡ table → option_and_then ending (row_of number inside.bindings.rows) ≡ Some row → IsMoving table.entries row
kept number inside table row rows same found =
    moving_is number table.entries row
    (ap (λ (t : Bindings). moving_row number t.entries) (sym same) ∙ ap (λ (all : List (Row Binding)). option_and_then ending (row_of number all))
    (sym rows) ∙ found)

pub extend_row-requires-clause-there : goal.extend_row-requires-clause-there
extend_row-requires-clause-there c =
    (kept c.args.number c.self.inside c.args.self.now c.in-Some.row c.self.invariant.rows c.self.view_is c.in-Some.ensures).there

pub extend_row-requires-clause-filed : goal.extend_row-requires-clause-filed
extend_row-requires-clause-filed c =
    (kept c.args.number c.self.inside c.args.self.now c.in-Some.row c.self.invariant.rows c.self.view_is c.in-Some.ensures).filed_is

pub extend_row-requires-clause-moving : goal.extend_row-requires-clause-moving
extend_row-requires-clause-moving c =
    (kept c.args.number c.self.inside c.args.self.now c.in-Some.row c.self.invariant.rows c.self.view_is c.in-Some.ensures).moving

pub extend_row-requires-in-Some-located-clause-there : goal.extend_row-requires-in-Some-located-clause-there
extend_row-requires-in-Some-located-clause-there c =
    (kept c.args.number c.self.inside c.args.self.now c.in-Some-located.row c.self.invariant.rows c.self.view_is
    (sym c.in-Some-located.ensures)).there

pub extend_row-requires-in-Some-located-clause-filed : goal.extend_row-requires-in-Some-located-clause-filed
extend_row-requires-in-Some-located-clause-filed c =
    (kept c.args.number c.self.inside c.args.self.now c.in-Some-located.row c.self.invariant.rows c.self.view_is
    (sym c.in-Some-located.ensures)).filed_is

pub extend_row-requires-in-Some-located-clause-moving : goal.extend_row-requires-in-Some-located-clause-moving
extend_row-requires-in-Some-located-clause-moving c =
    (kept c.args.number c.self.inside c.args.self.now c.in-Some-located.row c.self.invariant.rows c.self.view_is
    (sym c.in-Some-located.ensures)).moving
