use Rattle.std.proofs.Common.{◌≡◌, ◌++◌, drop}
use Rattle.oid_rules.specs.Inside.Sorted.{numbered}
use Rattle.oid_rules.proofs.sorted.with_numbers.Given as goal

abbrev pub invariant-loop-number : goal.invariant-loop-number
invariant-loop-number l = l.list.items ++ numbered l.number (drop l.number l.rules) ≡ numbered 0 l.rules
