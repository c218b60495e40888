use Rattle.run_setup.specs.RunNames.{names_of}
use Rattle.gateway.specs.Prelude.{Runs}
use Rattle.run_setup.proofs.Causes.{handed_on}
use Rattle.gateway.proofs.Runs.{run_unwritten}
use Rattle.gateway.proofs.Took.{took_unwritten}
use Rattle.gateway.proofs.running.run.Goals as goal

pub returns-in_err-merge-clause-answer : goal.returns-in_err-merge-clause-answer
returns-in_err-merge-clause-answer g c =
    let old = g.D.Desk.outside c.args.desk.now in
    let new = g.D.Desk.outside c.prepare.new.desk in
    handed_on (λ r. Runs r (names_of c.args.names) old new) c.from_residual.result c.in_err-merge.field-0.0 c.from_residual.ensures.1
    (run_unwritten c.in_err-merge.field-0.0 (names_of c.args.names) old new c.in_err-merge.ensures.answer)

pub run_prepared-requires : goal.run_prepared-requires
run_prepared-requires g c = record { since = g.D.Desk.outside c.args.desk.now; prepared = c.in_ok-merge.ensures.answer }

pub returns-clause-answer : goal.returns-clause-answer
returns-clause-answer g c = c.run_prepared.ensures.answer (g.D.Desk.outside c.args.desk.now) c.in_ok-merge.ensures.answer

pub returns-clause-taken : goal.returns-clause-taken
returns-clause-taken g c = c.run_prepared.ensures.taken (g.D.Desk.outside c.args.desk.now) c.in_ok-merge.ensures.answer

pub returns-in_err-merge-clause-taken : goal.returns-in_err-merge-clause-taken
returns-in_err-merge-clause-taken g c =
    took_unwritten (g.D.Desk.outside c.args.desk.now) (g.D.Desk.outside c.prepare.new.desk) c.in_err-merge.ensures.taken c.prepare.ensures.inputs
