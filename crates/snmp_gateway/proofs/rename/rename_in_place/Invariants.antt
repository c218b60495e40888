use Rattle.snmp_gateway.specs.Inside.Walk.{size_ahead}
use Rattle.snmp_gateway.proofs.Walk.{Renames}
use Rattle.snmp_gateway.proofs.rename.rename_in_place.Given as goal

abbrev pub invariant-loop-place : goal.invariant-loop-place
invariant-loop-place g l = Renames (g.L.Lookup.image_of l.lookup) l.fn.octets l.octets l.ahead

abbrev pub decreases-loop-place : goal.decreases-loop-place
decreases-loop-place g l = size_ahead l.ahead
