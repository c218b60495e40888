use Rattle.std.proofs.Common.{◌≡◌, ◌∙◌, List, Option, ap, refl, option_and_then, option_map, find}
use Rattle.expiring_table.specs.declared.row.Row.{Row}
use Rattle.gate_base.specs.declared.address.Addr.{Addr}
use Rattle.gate_base.specs.declared.event.Moment.{Moment}
use Rattle.gate_base.specs.declared.side.Side.{Side}
use Rattle.binding_table.specs.declared.binding.Binding.{Binding}
use Rattle.binding_table.specs.Prelude.{Bindings, extended, in_pool, is_through, IsLawful, extended_by, filed, unless_fixed}
use Rattle.binding_table.proofs.Once.{through_moving}
use Rattle.binding_table.proofs.table.Table.extend.Goals as goal

-- to extend by the row through which the address crosses is to extend it
through : (table : Bindings) (side : Side) (address : Addr) (until : Moment) (found : Option (Row Binding)) → IsLawful table
    → found ≡ option_map filed (option_and_then unless_fixed (find (is_through (in_pool table side address) side address) table.entries))
    → record table { entries = extended_by found until table.entries } ≡ extended table side address until
through table side address until found lawful is =
    ap (λ (entries : List Binding). record table { entries = entries })
    (ap (λ (o : Option (Row Binding)). extended_by o until table.entries) is
    ∙ through_moving table (in_pool table side address) side address until lawful _ refl)

pub returns-in-Some : goal.returns-in-Some
returns-in-Some c = c.extend_numbered.ensures ∙ through c.args.self.now c.args.side c.args.address c.args.until _ c.moving_through.ensures.lawful
    c.in-Some.ensures.value

pub returns-in_default : goal.returns-in_default
returns-in_default c = through c.args.self.now c.args.side c.args.address c.args.until _ c.moving_through.ensures.lawful c.in_default.ensures.value
