use Rattle.std.proofs.Common.{◌∙◌, ap, is_some, option_map, sym}
use Rattle.expiring_table.specs.declared.row.Row.{Row}
use Rattle.expiring_table.specs.Prelude.{Table, row_of}
use Rattle.binding_table.specs.declared.binding.Binding.{Binding}
use Rattle.binding_table.specs.Prelude.{fixed_rows}
use Rattle.binding_table.proofs.EntriesApart.{fixed_found, found_behind, found_in_front}
use Rattle.binding_table.proofs.entries.Entries.find.Goals as goal

pub returns-in-Some : goal.returns-in-Some
returns-in-Some c =
    let front = c.self.invariant.apart c.args.number (ap is_some (sym c.in-Some.ensures)) in
    ap (option_map (λ (row : Row Binding). row.value))
    (c.in-Some.ensures ∙ sym (found_behind c.args.number (fixed_rows c.self.inside) c.self.inside.moving.rows front)
    ∙ ap (λ (t : Table Binding). row_of c.args.number t.rows) c.self.view_is)

pub returns-in-None : goal.returns-in-None
returns-in-None c =
    c.get.ensures.value ∙ fixed_found c.args.number c.self.inside.fixed.entries
    ∙ ap (option_map (λ (row : Row Binding). row.value))
    (sym (found_in_front c.args.number (fixed_rows c.self.inside) c.self.inside.moving.rows (sym c.in-None.ensures))
    ∙ ap (λ (t : Table Binding). row_of c.args.number t.rows) c.self.view_is)
