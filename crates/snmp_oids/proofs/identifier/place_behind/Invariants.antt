use Rattle.std.proofs.Common.{◌≡◌, ◌+◌, drop}
use Rattle.snmp_oids.specs.Identifier.{place_behind}
use Rattle.snmp_oids.proofs.identifier.place_behind.Given as goal

abbrev pub invariant-loop-place : goal.invariant-loop-place
invariant-loop-place l = l.place + place_behind l.left (drop l.place l.octets) ≡ place_behind l.count l.octets
