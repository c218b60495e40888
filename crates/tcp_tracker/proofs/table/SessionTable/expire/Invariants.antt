use Rattle.std.specs.Prelude.{◌≡◌, length}
use Rattle.tcp_tracker.specs.Prelude.{live}
use Rattle.tcp_tracker.proofs.table.SessionTable.expire.Given as goal

abbrev pub invariant-loop-now : goal.invariant-loop-now
invariant-loop-now g l = live l.now l.self ≡ live l.now l.initial.self

abbrev pub decreases-loop-now : goal.decreases-loop-now
decreases-loop-now g l = length l.self
