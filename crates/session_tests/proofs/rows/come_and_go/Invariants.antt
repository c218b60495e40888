use Rattle.std.proofs.Common.{◌≡◌, ◌≤◌}
use Rattle.session_tests.proofs.rows.come_and_go.Given as goal

abbrev pub invariant-loop-round : goal.invariant-loop-round
invariant-loop-round l = record {
  few : l.good ≤ l.round;
  most : l.rows.most ≡ 8;
}
