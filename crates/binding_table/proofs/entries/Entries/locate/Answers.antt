use Rattle.std.proofs.Common.{◌∙◌, ap, option_and_then, sym}
use Rattle.expiring_table.specs.Prelude.{Table, row_of}
use Rattle.binding_table.specs.declared.binding.Binding.{Binding}
use Rattle.binding_table.specs.Prelude.{fixed_rows, ending}
use Rattle.binding_table.proofs.EntriesApart.{located, not_located}
use Rattle.binding_table.proofs.entries.Entries.locate.Goals as goal

pub returns-in-Some : goal.returns-in-Some
returns-in-Some c =
    located c.args.number (fixed_rows c.self.inside) c.self.inside.moving c.in-Some.row.now c.self.invariant (sym c.in-Some.ensures)
    ∙ ap (λ (t : Table Binding). option_and_then ending (row_of c.args.number t.rows)) c.self.view_is

pub returns-in-None : goal.returns-in-None
returns-in-None c =
    not_located c.args.number c.self.inside.fixed.entries c.self.inside.moving.rows (sym c.in-None.ensures)
    ∙ ap (λ (t : Table Binding). option_and_then ending (row_of c.args.number t.rows)) c.self.view_is
