use Rattle.std.proofs.Common.{◌≡◌, drop, IsSome}
use Rattle.oid_rules.specs.Sorted.{compared}
use Rattle.snmp_oids.specs.Arcs.{numbers_of}
use Rattle.snmp_oids.specs.Inside.Arcs.{numbers_in}
use Rattle.snmp_oids.proofs.arcs.compare_numbers.Given as goal

abbrev pub invariant-loop-number : goal.invariant-loop-number
invariant-loop-number l = IsSome (numbers_of l.octets) → record {
  some : IsSome (numbers_of l.rest);
  same : compared (numbers_in l.rest) (drop l.number-index l.numbers) ≡ compared (numbers_in l.octets) l.numbers;
}
