use Rattle.std.proofs.Common.{◌≡◌, drop, is_some}
use Rattle.snmp_oids.specs.Arcs.{numbers_from}
use Rattle.snmp_oids.proofs.arcs.has_arcs.Given as goal

abbrev pub invariant-loop-octet : goal.invariant-loop-octet
invariant-loop-octet l = is_some (numbers_from l.number (drop l.octet-index l.content)) ≡ is_some (numbers_from 0 l.content)
