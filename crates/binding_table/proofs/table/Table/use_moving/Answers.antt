use Rattle.std.proofs.Common.{◌≡◌, ◌∙◌, ℕ, List, Some, ap, subst, sym, option_and_then}
use Rattle.expiring_table.specs.declared.row.Row.{Row}
use Rattle.expiring_table.specs.Prelude.{row_of}
use Rattle.binding_table.specs.declared.binding.Binding.{Binding}
use Rattle.binding_table.specs.declared.table.Table.TheInside.{Inside}
use Rattle.binding_table.specs.Prelude.{Bindings, bindings_of, IsWhole, IsLawful, ending, moving_row, number_of}
use Rattle.binding_table.proofs.Filed.{moving_is}
use Rattle.binding_table.proofs.Moving.{moving_used}
use Rattle.binding_table.proofs.table.Table.use_moving.Goals as goal

lawful_as : (inside : Inside) (table : Bindings) → IsWhole inside → bindings_of inside ≡ table → IsLawful table
lawful_as inside table whole same = subst IsLawful same whole.lawful

-- what is found in the table as it is kept
kept : (number key : ℕ) (inside : Inside) (table : Bindings) (row : Row Binding) → IsWhole inside → bindings_of inside ≡ table → number ≡ key
    → Some row ≡ option_and_then ending (row_of number inside.bindings.rows) → moving_row key table.entries ≡ Some row
kept number key inside table row whole same named found =
    sym (found ∙ ap (λ (rows : List (Row Binding)). option_and_then ending (row_of number rows)) whole.rows
    ∙ ap (λ (t : Bindings). moving_row number t.entries) same ∙ ap (λ (n : ℕ). moving_row n table.entries) named)

pub extend_row-requires-clause-lawful : goal.extend_row-requires-clause-lawful
extend_row-requires-clause-lawful c = lawful_as c.self.inside c.args.self.now c.self.invariant c.self.view_is

pub extend_row-requires-clause-there : goal.extend_row-requires-clause-there
extend_row-requires-clause-there c =
    (moving_is (number_of c.args.side c.args.host.0) c.args.self.now.entries c.in-Some.row
    (kept c.number_of-number.result (number_of c.args.side c.args.host.0) c.self.inside c.args.self.now c.in-Some.row c.self.invariant c.self.view_is
    c.number_of-number.ensures c.in-Some.ensures)).there

pub extend_row-requires-clause-filed : goal.extend_row-requires-clause-filed
extend_row-requires-clause-filed c =
    (moving_is (number_of c.args.side c.args.host.0) c.args.self.now.entries c.in-Some.row
    (kept c.number_of-number.result (number_of c.args.side c.args.host.0) c.self.inside c.args.self.now c.in-Some.row c.self.invariant c.self.view_is
    c.number_of-number.ensures c.in-Some.ensures)).filed_is

pub extend_row-requires-clause-moving : goal.extend_row-requires-clause-moving
extend_row-requires-clause-moving c =
    (moving_is (number_of c.args.side c.args.host.0) c.args.self.now.entries c.in-Some.row
    (kept c.number_of-number.result (number_of c.args.side c.args.host.0) c.self.inside c.args.self.now c.in-Some.row c.self.invariant c.self.view_is
    c.number_of-number.ensures c.in-Some.ensures)).moving

pub returns-in-Some-clause-used : goal.returns-in-Some-clause-used
returns-in-Some-clause-used c =
    c.extend_row.ensures
    ∙ moving_used c.args.self.now (record { side = c.args.side; address = c.args.host; until = c.args.until }) c.in-Some.row
    (lawful_as c.self.inside c.args.self.now c.self.invariant c.self.view_is)
    (kept c.number_of-number.result (number_of c.args.side c.args.host.0) c.self.inside c.args.self.now c.in-Some.row c.self.invariant c.self.view_is
    c.number_of-number.ensures c.in-Some.ensures)
