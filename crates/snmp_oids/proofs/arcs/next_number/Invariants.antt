use Rattle.std.proofs.Common.{◌≡◌, drop}
use Rattle.snmp_oids.specs.Arcs.{numbers_from}
use Rattle.snmp_oids.proofs.arcs.next_number.Given as goal

abbrev pub invariant-loop-place : goal.invariant-loop-place
invariant-loop-place l = numbers_from l.number (drop l.place l.octets) ≡ numbers_from 0 l.octets
