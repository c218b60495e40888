use Rattle.std.proofs.Common.{◌∙◌, [], ap, arith, length, subst, sym}
use Rattle.gate_base.specs.Prelude.{AreRules}
use Rattle.gate_base.specs.declared.side.Side.TheVariants.{Left, Right}
use Rattle.expiring_table.specs.Prelude.{Table}
use Rattle.binding_table.specs.declared.binding.Binding.{Binding}
use Rattle.binding_table.specs.Prelude.{without_bindings, Aliases}
use Rattle.binding_table.specs.Bindings.{range_of_settings}
use Rattle.binding_table.proofs.Pools.{none_standing}
use Rattle.binding_table.proofs.Opening.{range_is, opening_lawful}
use Rattle.binding_table.proofs.Whole.{length_hosts, whole_by}
use Rattle.binding_table.proofs.table.Table.without_bindings.Goals as goal

pub new-requires : goal.new-requires
new-requires c = c.requires.sound.pools Left

pub new-requires-2 : goal.new-requires-2
new-requires-2 c = c.requires.sound.pools Right

pub invariant_of-result : goal.invariant_of-result
invariant_of-result c =
    let settings = c.args.settings.now in
    let left = c.in_ok-left.ensures ∙ none_standing settings.left.first settings.left.last Left
    (range_is settings.left (c.requires.sound.pools Left)).ordered in
    let right = c.in_ok-right.ensures ∙ none_standing settings.right.first settings.right.last Right
    (range_is settings.right (c.requires.sound.pools Right)).ordered in
    let same = c.in_ok-same.ensures ∙ c.items.ensures in
    let most = ap (λ (t : Table Binding). t.most) c.in_ok-new.ensures in
    let long = c.len.ensures ∙ ap (λ (aliases : Aliases). length aliases.hosts) left ∙ length_hosts (range_of_settings settings.left) Left [] in
    let wide = c.len-2.ensures ∙ ap (λ (aliases : Aliases). length aliases.hosts) right ∙ length_hosts (range_of_settings settings.right) Right [] in
    let oids = c.in_ok-of.ensures ∙ c.items-3.ensures in
    whole_by _ (without_bindings settings) same left right oids (ap (λ (t : Table Binding). t.rows) c.in_ok-new.ensures)
    (opening_lawful settings c.requires.sound c.requires.forms) (subst AreRules (sym oids) c.requires.forms.oids)
    (omega (arith, most, long, wide))
