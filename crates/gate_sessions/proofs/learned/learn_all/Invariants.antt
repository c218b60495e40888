use Rattle.std.proofs.Common.{take}
use Rattle.gate_base.specs.Prelude.{peer}
use Rattle.gate_sessions.proofs.ListedLemmas.{LearnedTo}
use Rattle.gate_sessions.proofs.learned.learn_all.Given as goal

abbrev pub invariant-loop-one : goal.invariant-loop-one
invariant-loop-one l = LearnedTo l.host (peer l.host) l.initial.session l.session (take l.one-index l.named)
