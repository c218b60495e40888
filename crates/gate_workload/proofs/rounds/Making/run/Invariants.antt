use Rattle.std.proofs.Common.{◌≡◌, ◌+◌, ◌*◌, ◌≤◌}
use Rattle.gate_workload.specs.Rounds.{rounds}
use Rattle.gate_workload.proofs.rounds.Making.run.Given as goal

abbrev pub invariant-loop-k : goal.invariant-loop-k
invariant-loop-k l = record { state : l.self ≡ rounds l.k l.fn.self; frames : l.self.frames ≤ l.fn.self.frames + 2 * l.k }
