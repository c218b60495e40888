use Rattle.binding_table.proofs.Back.{crosses_back}
use Rattle.binding_table.proofs.laws.crosses_back.Goals as goal

pub returns : goal.returns
returns c = crosses_back c.args.table.now c.args.side c.args.address c.args.image c.keeps_apart.ensures c.requires
