use Rattle.std.proofs.Common.{◌≡◌, MatchResult, refl}
use Rattle.run_setup.specs.declared.status.Status.TheVariants.{OutOfMemory}
use Rattle.gateway.specs.Prelude.{IsLineOf}
use Rattle.run_setup.proofs.Causes.{handed_on}
use Rattle.gateway.proofs.Makes.{holds_workload, rehearses}
use Rattle.gateway.proofs.making.rehearse.Goals as goal

pub returns-in_err-workload : goal.returns-in_err-workload
returns-in_err-workload c =
    handed_on
    (λ r. MatchResult r (λ line. IsLineOf line c.args.number c.args.count) (λ status. status ≡ OutOfMemory)) c.from_residual.result OutOfMemory
    c.from_residual.ensures.1 refl

pub returns : goal.returns
returns c =
    let holds =
    holds_workload c.args.number c.args.count c.in_ok-workload.workload c.new-desk.result c.into_vec.result.items c.into_vec-2.result.items
    c.into_vec-3.result.items c.in_ok-workload.ensures c.new-desk.ensures c.into_vec.ensures c.into_vec-2.ensures c.into_vec-3.ensures in
    rehearses c.run.result _ c.args.number c.args.count c.new-desk.result c.run.new.desk c.requires holds c.run.ensures.answer
