use Rattle.gate_base.proofs.Options.{on_err}
use Rattle.file_audit.proofs.line.compare.Goals as goal

pub returns-in_err-made-clause-memory : goal.returns-in_err-made-clause-memory
returns-in_err-made-clause-memory c = on_err c.from_residual.result c.in_err-made.ensures.memory
