use Rattle.binding_table.proofs.Used.{all_seen}
use Rattle.binding_table.proofs.laws.sees_used.Goals as goal

pub returns : goal.returns
returns c = λ uses e. all_seen c.args.table.now c.args.side c.args.addresses.now uses c.keeps_apart.ensures e c.requires.bound c.requires.room
