use Rattle.std.proofs.Common.{◌∙◌, ap}
use Rattle.expiring_table.specs.Prelude.{Table, row_of}
use Rattle.binding_table.specs.declared.binding.Binding.{Binding}
use Rattle.binding_table.specs.Prelude.{fixed_rows}
use Rattle.binding_table.proofs.EntriesApart.{apart_push, none_in}
use Rattle.binding_table.proofs.entries.Entries.push.Goals as goal

pub push-requires-clause-new : goal.push-requires-clause-new
push-requires-clause-new c =
    (none_in c.args.row.key (fixed_rows c.self.inside) c.self.inside.moving.rows
    (ap (λ (t : Table Binding). row_of c.args.row.key t.rows) c.self.view_is ∙ c.requires.new)).1

pub invariant_of-self : goal.invariant_of-self
invariant_of-self c =
    let fixed = fixed_rows c.self.inside in
    let none = (none_in c.args.row.key fixed c.self.inside.moving.rows
    (ap (λ (t : Table Binding). row_of c.args.row.key t.rows) c.self.view_is ∙ c.requires.new)).0 in
    apart_push fixed c.self.inside.moving c.push.new.self c.args.row c.self.invariant none c.requires.end c.push.ensures
