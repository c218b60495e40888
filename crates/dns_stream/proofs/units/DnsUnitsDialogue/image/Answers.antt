use Rattle.dns_stream.specs.Prelude.{dns_units}
use Rattle.dns_stream.proofs.units.DnsUnitsDialogue.image.Goals as goal
use Rattle.dns_stream.proofs.units.DnsUnitsDialogue.image.Goals.{in-Some, in-None}

pub invariant_of-self : goal.invariant_of-self
invariant_of-self c = (c.next_image.ensures (dns_units c.self.inside.list) c.self.invariant).0

pub returns-clause-image : goal.returns-clause-image
returns-clause-image c =
    elim c.match-next_image.branch [
      | in-Some w ↦ rw (w.result-is, ← c.self.view_is) (w.in-Some.ensures (dns_units c.self.inside.list) c.self.invariant).1
      | in-None w ↦ rw (w.result-is, ← c.self.view_is) w.unit_image.ensures
    ]
