use Rattle.std.proofs.Common.{◌≡◌, true, All, length, take, arith, ap, refl, subst, sym}
use Rattle.std.proofs.lemmas.List.Elements.{All-map}
use Rattle.binding_table.specs.declared.binding.Binding.{Binding}
use Rattle.binding_table.specs.Prelude.{Bindings, fixed_binding}
use Rattle.binding_table.proofs.Opening.{can_open}
use Rattle.binding_table.proofs.table.Table.new.Goals as goal

pub fix-requires-clause-place : goal.fix-requires-clause-place
fix-requires-clause-place c = rw (c.loop-fixed.invariant, c.of_static.ensures, c.items-fixed-items.ensures)
    (can_open c.args.settings.now c.loop-fixed.fixed-index _ c.requires.sound c.requires.forms (omega (arith, ap length c.items-fixed-items.ensures)))

pub fix-requires-clause-early : goal.fix-requires-clause-early
fix-requires-clause-early c =
    subst (λ (table : Bindings). All (λ one. one.fixed ≡ true) table.entries) (sym c.loop-fixed.invariant)
    (All-map (λ (one : Binding). one.fixed ≡ true) fixed_binding (take c.loop-fixed.fixed-index c.args.settings.now.statics) (λ k d within. refl))
