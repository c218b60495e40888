use Rattle.std.proofs.Common.{◌≡◌, take}
use Rattle.oid_rules.proofs.sorted.copied.Given as goal

abbrev pub invariant-loop-rule : goal.invariant-loop-rule
invariant-loop-rule l = l.copied.items ≡ take l.rule-index l.rules
