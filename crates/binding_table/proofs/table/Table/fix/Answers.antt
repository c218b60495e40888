use Rattle.std.proofs.Common.{◌≡◌, true, All, sym, subst, refl}
use Rattle.binding_table.specs.Prelude.{CanHold, Bindings, bindings_of}
use Rattle.binding_table.proofs.Pushed.{left_free, right_free, new_row, whole_push, fixed_ends}
use Rattle.binding_table.proofs.table.Table.fix.Goals as goal

pub fix-requires : goal.fix-requires
fix-requires c =
    let can = subst (λ (table : Bindings). CanHold table c.args.binding) (sym c.self.view_is) c.requires.place in
    record {
      early = fixed_ends c.self.inside.bindings.rows (bindings_of c.self.inside).entries c.self.invariant.rows
          (subst (λ (table : Bindings). All (λ one. one.fixed ≡ true) table.entries) (sym c.self.view_is) c.requires.early);
      new = new_row c.self.inside c.args.binding c.self.invariant can;
      fixed = c.requires.fixed;
    }

pub allocate_alias-requires-clause-left : goal.allocate_alias-requires-clause-left
allocate_alias-requires-clause-left c = left_free c.self.inside c.args.binding c.self.invariant
    (subst (λ (table : Bindings). CanHold table c.args.binding) (sym c.self.view_is) c.requires.place)

pub allocate_alias-requires-clause-right : goal.allocate_alias-requires-clause-right
allocate_alias-requires-clause-right c = right_free c.self.inside c.args.binding c.self.invariant
    (subst (λ (table : Bindings). CanHold table c.args.binding) (sym c.self.view_is) c.requires.place)

pub invariant_of-self-2 : goal.invariant_of-self-2
invariant_of-self-2 c =
    let can = subst (λ (table : Bindings). CanHold table c.args.binding) (sym c.self.view_is) c.requires.place in
    whole_push c.self.inside _ c.args.binding c.self.invariant can refl refl c.allocate_alias.ensures.left c.allocate_alias.ensures.right
    c.in_ok-fix.ensures.ok
