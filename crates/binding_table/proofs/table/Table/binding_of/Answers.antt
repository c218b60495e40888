use Rattle.std.proofs.Common.{◌∙◌, ap, option_map, find}
use Rattle.expiring_table.specs.declared.row.Row.{Row}
use Rattle.expiring_table.specs.Prelude.{row_of}
use Rattle.binding_table.specs.declared.binding.Binding.{Binding}
use Rattle.binding_table.specs.Prelude.{Bindings, is_of_host, bindings_of}
use Rattle.binding_table.proofs.Filed.{found_value}
use Rattle.binding_table.proofs.table.Table.binding_of.Goals as goal

pub returns : goal.returns
returns c =
    let rows = c.self.inside.bindings.rows in
    c.find.ensures ∙ ap (λ number. option_map (λ (row : Row Binding). row.value) (row_of number rows)) c.number_of.ensures
    ∙ found_value c.args.side c.args.host.0 (bindings_of c.self.inside).entries rows c.self.invariant.rows
    ∙ ap (λ (table : Bindings). find (is_of_host c.args.side c.args.host.0) table.entries) c.self.view_is
