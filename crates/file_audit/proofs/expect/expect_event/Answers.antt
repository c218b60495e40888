use Rattle.frag_join.specs.Prelude.{Reaches}
use Rattle.gate_base.specs.Prelude.{event_of}
use Rattle.run_setup.proofs.Causes.{handed_on}
use Rattle.file_audit.specs.Inside.Events.{Expected}
use Rattle.file_audit.proofs.expect.expect_event.Goals as goal

pub returns-in_err-verdict : goal.returns-in_err-verdict
returns-in_err-verdict c =
    handed_on (λ r. Expected r c.args.number c.args.auditor.now c.expect.new.self (Reaches (event_of c.args.event))) c.from_residual.result
    c.in_err-verdict.field-0.0 c.from_residual.ensures.1 c.in_err-verdict.ensures.wants
