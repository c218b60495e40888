use Rattle.std.proofs.Common.{◌≡◌, ◌<◌, ◌≤◌, ℕ, None, drop, get_or, length, IsSome}
use Rattle.snmp_oids.specs.Arcs.{numbers_of}
use Rattle.snmp_oids.specs.Inside.Arcs.{numbers_in, small_at}
use Rattle.snmp_oids.proofs.numbers.small_numbers.Given as goal

abbrev pub invariant-loop-place : goal.invariant-loop-place
invariant-loop-place l = record {
  all : length l.kept ≡ 194;
  some : IsSome (numbers_of l.rest);
  rest : drop l.place (numbers_in l.octets) ≡ numbers_in l.rest;
  kept : (k : ℕ) → k < l.place → get_or l.kept k None ≡ small_at (numbers_in l.octets) k;
  left : (k : ℕ) → l.place ≤ k → get_or l.kept k None ≡ None;
}
