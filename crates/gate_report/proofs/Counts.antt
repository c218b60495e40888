-- An event counts once at most.
use Rattle.std.proofs.Common.{◌≤◌, arith}
use Rattle.verdicts.specs.declared.verdict.Verdict.{Verdict}
use Rattle.verdicts.specs.declared.verdict.Verdict.TheVariants.{Pass, Refused, Held}
use Rattle.gate_report.specs.Counts.{one_if_passed, one_if_refused}

pub few_passed : (v : Verdict) → one_if_passed v ≤ 1
few_passed Pass = omega arith
few_passed (Refused r) = omega arith
few_passed Held = omega arith

pub few_refused : (v : Verdict) → one_if_refused v ≤ 1
few_refused Pass = omega arith
few_refused (Refused r) = omega arith
few_refused Held = omega arith
