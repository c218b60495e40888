use Rattle.std.proofs.Common.{◌≡◌, Bool, true, Option, option_and_then, option_map, ◌∙◌, ap, sym, find}
use Rattle.gate_base.specs.declared.side.Side.{Side}
use Rattle.realm_pools.specs.Addresses.{Addresses, is_in}
use Rattle.binding_table.specs.declared.binding.Binding.{Binding}
use Rattle.binding_table.specs.Prelude.{is_of_host, is_through, in_pool, filed, unless_fixed}
use Rattle.binding_table.proofs.Once.{by_alias}
use Rattle.binding_table.proofs.table.Table.moving_through.Goals as goal

pub returns-in_ok-host-clause-value : goal.returns-in_ok-host-clause-value
returns-in_ok-host-clause-value c =
    let table = c.args.self.now in
    let side = c.args.side in
    let address = c.args.address in
    let within : in_pool table side address ≡ true =
    sym (c.contains.ensures ∙ ap (λ (pool : Addresses). is_in address pool.range) c.pool.ensures.value) ∙ c.if-contains.true in
    c.moving_of.ensures ∙ ap (λ (s : Side). option_map filed (option_and_then unless_fixed (find (is_of_host s c.in_ok-host.host.0) table.entries)))
    c.other.ensures
    ∙ ap (λ (o : Option Binding). option_map filed (option_and_then unless_fixed o))
    (by_alias table side address c.in_ok-host.host c.pool.ensures.lawful (sym c.host_of.ensures ∙ c.in_ok-host.was)
    ∙ ap (λ (from_pool : Bool). find (is_through from_pool side address) table.entries) (sym within))
