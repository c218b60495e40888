use Rattle.snmp_gateway.specs.Inside.Walk.{size_ahead}
use Rattle.snmp_gateway.proofs.Walk.{Lists}
use Rattle.snmp_gateway.proofs.message.list.Given as goal

abbrev pub invariant-loop-place : goal.invariant-loop-place
invariant-loop-place l = Lists l.octets l.fn.places.items l.places.items l.ahead

abbrev pub decreases-loop-place : goal.decreases-loop-place
decreases-loop-place l = size_ahead l.ahead
