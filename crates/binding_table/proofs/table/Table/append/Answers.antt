use Rattle.std.proofs.Common.{◌∙◌, ◌++◌, ◌∷◌, [], IsSome, ap, subst, sym, refl, arith}
use Rattle.std.proofs.lemmas.List.{length-map}
use Rattle.expiring_table.specs.declared.row.Row.{Row}
use Rattle.expiring_table.specs.Prelude.{Table, row_of}
use Rattle.binding_table.specs.Prelude.{CanHold, Bindings, bindings_of}
use Rattle.binding_table.specs.declared.binding.Binding.{Binding}
use Rattle.binding_table.proofs.Pushed.{left_free, right_free, new_row, whole_push, moving_end}
use Rattle.binding_table.proofs.Room.{room_for}
use Rattle.binding_table.proofs.Whole.{room_of}
use Rattle.binding_table.proofs.table.Table.append.Goals as goal

pub allocate_alias-requires-clause-left : goal.allocate_alias-requires-clause-left
allocate_alias-requires-clause-left c = left_free c.self.inside c.args.binding c.self.invariant
    (subst (λ (table : Bindings). CanHold table c.args.binding) (sym c.self.view_is) c.requires.place)

pub allocate_alias-requires-clause-right : goal.allocate_alias-requires-clause-right
allocate_alias-requires-clause-right c = right_free c.self.inside c.args.binding c.self.invariant
    (subst (λ (table : Bindings). CanHold table c.args.binding) (sym c.self.view_is) c.requires.place)

pub push-requires : goal.push-requires
push-requires c =
    let can = subst (λ (table : Bindings). CanHold table c.args.binding) (sym c.self.view_is) c.requires.place in
    let whole = c.self.invariant in
    let rows = c.self.inside.bindings.rows in
    record {
      room = omega (
        arith,
        room_for (bindings_of c.self.inside) c.args.binding whole.lawful can,
        room_of c.self.inside whole,
        length-map rows (λ (row : Row Binding). row.value),
      );
      new = ap (λ (row : Row Binding). row_of row.key rows) c.filed.ensures ∙ new_row c.self.inside c.args.binding whole can;
      end = subst (λ (row : Row Binding). IsSome row.end) (sym c.filed.ensures) (moving_end c.args.binding c.requires.moving);
    }

pub invariant_of-self : goal.invariant_of-self
invariant_of-self c =
    let can = subst (λ (table : Bindings). CanHold table c.args.binding) (sym c.self.view_is) c.requires.place in
    let table = c.self.inside.bindings in
    whole_push c.self.inside _ c.args.binding c.self.invariant can refl refl c.allocate_alias.ensures.left c.allocate_alias.ensures.right
    (c.push.ensures ∙ ap (λ (row : Row Binding). let one : Table Binding = record table { rows = table.rows ++ row ∷ [] } in one) c.filed.ensures)
