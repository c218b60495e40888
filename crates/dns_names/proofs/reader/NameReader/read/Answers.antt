use Rattle.dns_names.proofs.Walks.{name-gives}
use Rattle.dns_names.proofs.reader.NameReader.read.Goals.{in-Some, in-None}
use Rattle.dns_names.proofs.reader.NameReader.read.Goals as goal

pub returns-clause-exact : goal.returns-clause-exact
returns-clause-exact c =
    rw (← c.self.view_is) (elim c.match-self.branch [
      | in-Some w ↦ rw w.result-is (name-gives c.self.inside.message.now c.args.place w.read_on.result w.read_on.ensures.found w.read_on.ensures.none)
      | in-None w ↦ rw w.result-is (name-gives c.self.inside.message.now c.args.place w.name_of.result w.name_of.ensures.found w.name_of.ensures.none)
    ])
