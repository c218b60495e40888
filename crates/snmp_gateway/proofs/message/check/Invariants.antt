use Rattle.snmp_gateway.specs.Inside.Walk.{size_ahead}
use Rattle.snmp_gateway.proofs.Walk.{Checks}
use Rattle.snmp_gateway.proofs.message.check.Given as goal

abbrev pub invariant-loop : goal.invariant-loop
invariant-loop l = Checks l.octets l.ahead

abbrev pub decreases-loop : goal.decreases-loop
decreases-loop l = size_ahead l.ahead
