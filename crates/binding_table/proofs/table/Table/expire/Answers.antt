use Rattle.std.proofs.Common.{◌∙◌, refl, ap, arith}
use Rattle.expiring_table.specs.Prelude.{Table}
use Rattle.binding_table.specs.declared.binding.Binding.{Binding}
use Rattle.binding_table.specs.Prelude.{Bindings, expired, bindings_of}
use Rattle.binding_table.proofs.Kept.{lawful_expired}
use Rattle.binding_table.proofs.Whole.{view_by, whole_by, room_of}
use Rattle.binding_table.proofs.table.Table.expire.Goals as goal

pub invariant_of-self : goal.invariant_of-self
invariant_of-self c =
    let table = bindings_of c.self.inside in
    let whole = c.self.invariant in
    whole_by _ (expired table c.args.now) refl c.drop_ended.ensures.left c.drop_ended.ensures.right refl
    (ap (λ (t : Table Binding). t.rows) c.drop_ended.ensures.rows) (lawful_expired table c.args.now whole.lawful) whole.rules
    (omega (arith, room_of c.self.inside whole, ap (λ (t : Table Binding). t.most) c.drop_ended.ensures.rows))

pub returns : goal.returns
returns c =
    let table = bindings_of c.self.inside in
    view_by (record c.self.inside { left = c.drop_ended.new.left; right = c.drop_ended.new.right; bindings = c.drop_ended.new.bindings })
    (expired table c.args.now) refl c.drop_ended.ensures.left c.drop_ended.ensures.right refl
    (ap (λ (t : Table Binding). t.rows) c.drop_ended.ensures.rows) ∙ ap (λ (t : Bindings). expired t c.args.now) c.self.view_is
