use Rattle.std.proofs.Common.{◌≡◌, ◌≤◌}
use Rattle.session_tests.proofs.rows.drop_ended.Given as goal

abbrev pub invariant-loop : goal.invariant-loop
invariant-loop l = record {
  few : l.gone ≤ l.counter;
  most : l.rows.most ≡ l.initial.rows.most;
}
