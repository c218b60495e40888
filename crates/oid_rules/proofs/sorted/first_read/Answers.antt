use Rattle.std.proofs.Common.{◌∙◌}
use Rattle.oid_rules.proofs.First.{first_same, never_begun}
use Rattle.oid_rules.proofs.sorted.first_read.Goals as goal

pub returns-in-Some-clause-first : goal.returns-in-Some-clause-first
returns-in-Some-clause-first g c = λ rules arcs last are tried begins. c.first_among.ensures.first rules arcs last are tried begins
    ∙ first_same _ (g.I.Addresses.address_by c.args.identifier.now) arcs c.args.sorted.now rules are c.in-Some.ensures.same

pub returns-in-None-clause-first : goal.returns-in-None-clause-first
returns-in-None-clause-first g c = λ rules arcs last are tried begins. never_begun
    (g.I.Addresses.address_by c.args.identifier.now) arcs rules c.in-None.ensures.none
