use Rattle.gate_model.proofs.FrameRounds.{frame_rounds_few, frame_rounds_raise}
use Rattle.gate_model.proofs.GoingOnKept.{waits_are, goes_on}
use Rattle.gate_model.proofs.RememberedSessions.{run_holds}
use Rattle.gate_model.proofs.Through.{through}
use Rattle.gate_model.specs.Prelude.{remembered_after}
use Rattle.gate_model.proofs.laws.sessions_go_on.Goals as goal

pub returns-clause-waits : goal.returns-clause-waits
returns-clause-waits k = λ settings events. waits_are events settings

pub returns-clause-takes : goal.returns-clause-takes
returns-clause-takes k = λ settings events e t takes is. goes_on events settings e t takes is

pub returns-clause-through : goal.returns-clause-through
returns-clause-through k = through

pub returns-clause-rounds : goal.returns-clause-rounds
returns-clause-rounds k = λ settings events client t knows had rounds below acked all. (
  frame_rounds_raise client rounds (remembered_after settings events) t knows had
      (run_holds events settings) below acked all,
  frame_rounds_few client rounds (remembered_after settings events) t knows had
      (run_holds events settings) below acked all,
)
