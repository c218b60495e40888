use Rattle.std.proofs.Common.{◌-◌}
use Rattle.snmp_gateway.proofs.Walk.{Walks}
use Rattle.snmp_gateway.proofs.outline.Outline.next_place.Given as goal

abbrev pub invariant-loop-address : goal.invariant-loop-address
invariant-loop-address l = Walks l.octets l.fn.self l.self

abbrev pub decreases-loop-address : goal.decreases-loop-address
decreases-loop-address l = l.self.bindings.end - l.self.bindings.start
