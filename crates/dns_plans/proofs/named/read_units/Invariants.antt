use Rattle.std.specs.Prelude.{◌-◌, length}
use Rattle.dns_plans.proofs.NamedLemmas.{UnderWay, ReadSoFar}
use Rattle.dns_plans.proofs.named.read_units.Given as goal

abbrev pub invariant-loop-end : goal.invariant-loop-end
invariant-loop-end l = UnderWay l.octets l.at l.read.named.items × ReadSoFar l.octets l.at l.read.units.items

abbrev pub decreases-loop-end : goal.decreases-loop-end
decreases-loop-end l = length l.octets - l.at
