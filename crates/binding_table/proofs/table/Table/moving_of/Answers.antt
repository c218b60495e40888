use Rattle.std.proofs.Common.{◌∙◌, ap, option_and_then}
use Rattle.expiring_table.specs.Prelude.{row_of}
use Rattle.binding_table.specs.Prelude.{Bindings, ending, moving_row}
use Rattle.binding_table.proofs.Filed.{found_moving}
use Rattle.binding_table.proofs.table.Table.moving_of.Goals as goal

pub returns-in-Some : goal.returns-in-Some
returns-in-Some c = ap (λ number. moving_row number c.args.self.now.entries) c.number_of-number.ensures
    ∙ found_moving c.args.side c.args.host.0 c.args.self.now.entries

pub returns-in-None : goal.returns-in-None
returns-in-None c =
    let number = c.number_of-number.result in
    c.in-None.ensures
    ∙ ap (λ rows. option_and_then ending (row_of number rows)) c.self.invariant.rows
    ∙ ap (λ (t : Bindings). moving_row number t.entries) c.self.view_is
    ∙ ap (λ n. moving_row n c.args.self.now.entries) c.number_of-number.ensures
    ∙ found_moving c.args.side c.args.host.0 c.args.self.now.entries
