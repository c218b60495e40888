use Rattle.std.proofs.Common.{◌-◌, None, slice_index_or, ◌∙◌, ap}
use Rattle.binding_table.specs.Prelude.{range_of, Aliases}
use Rattle.binding_table.proofs.Pools.{host_there}
use Rattle.binding_table.proofs.table.Table.host_of.Goals as goal

pub returns : goal.returns
returns c =
    let table = c.args.self.now in
    c.host.ensures ∙ ap (λ (aliases : Aliases). slice_index_or aliases.hosts (c.args.alias.0 - aliases.pool.range.first) None) c.aliases.ensures.value
    ∙ host_there (range_of table c.args.side) c.args.side table.entries c.args.alias c.requires
