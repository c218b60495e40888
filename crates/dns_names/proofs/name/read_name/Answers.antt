use Rattle.dns_names.proofs.Walks.{name-gives}
use Rattle.dns_names.proofs.name.read_name.Goals as goal

pub returns-clause-exact : goal.returns-clause-exact
returns-clause-exact c = name-gives c.args.message.now c.args.place c.name_of.result c.name_of.ensures.found c.name_of.ensures.none
