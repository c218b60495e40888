use Rattle.std.proofs.Common.{◌∙◌, ap, subst, sym, IsSome, IsSomeAnd}
use Rattle.expiring_table.specs.Prelude.{Table, row_of, with_row}
use Rattle.binding_table.specs.declared.binding.Binding.{Binding}
use Rattle.binding_table.specs.Prelude.{fixed_rows}
use Rattle.binding_table.proofs.EntriesApart.{apart_with, ending_behind, set_behind}
use Rattle.binding_table.proofs.entries.Entries.set_at.Goals as goal

pub set_at-requires : goal.set_at-requires
set_at-requires c =
    let there = subst (λ (t : Table Binding). IsSomeAnd (row_of c.args.row.key t.rows) (λ found. IsSome found.end))
    (sym c.self.view_is) c.requires.there in
    (ending_behind c.args.row.key c.self.inside.fixed.entries c.self.inside.moving.rows there).there

pub invariant_of-self : goal.invariant_of-self
invariant_of-self c = apart_with (fixed_rows c.self.inside) c.self.inside.moving c.set_at.new.self c.args.row c.self.invariant c.requires.end
    c.set_at.ensures

pub returns : goal.returns
returns c =
    let there = subst (λ (t : Table Binding). IsSomeAnd (row_of c.args.row.key t.rows) (λ found. IsSome found.end))
    (sym c.self.view_is) c.requires.there in
    let front = (ending_behind c.args.row.key c.self.inside.fixed.entries c.self.inside.moving.rows there).front in
    set_behind (fixed_rows c.self.inside) c.self.inside.moving c.set_at.new.self c.args.row front c.set_at.ensures
    ∙ ap (λ (t : Table Binding). let new : Table Binding = record { most = t.most; rows = with_row c.args.row t.rows } in new) c.self.view_is
