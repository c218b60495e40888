use Rattle.std.proofs.Common.{List, ℕ, subst}
use Rattle.run_setup.specs.declared.status.Status.TheVariants.{OutOfMemory}
use Rattle.run_setup.proofs.Causes.{handed_on}
use Rattle.file_audit.proofs.LeftCounts.{leaves_handed, leaves_same}
use Rattle.file_audit.specs.Inside.Lines.{IsLast, TakesLast}
use Rattle.file_audit.proofs.ReportAhead.{fewer_of, stops_at_report, takes_last}
use Rattle.file_audit.proofs.line.take_last.Goals as goal

pub returns-clause-takes : goal.returns-clause-takes
returns-clause-takes g c =
    let filled = c.in_ok-fill.ensures.ok in (
      (filled.count, filled.takes),
      takes_last c.in_ok-answer.answer c.args.form c.args.line.now c.args.report.now c.fill.new.self (g.D.Desk.outside c.args.desk.now)
          (g.D.Desk.outside c.fill.new.desk) c.requires.short filled
          (subst (λ (xs : List ℕ). IsLast c.in_ok-answer.answer c.args.form c.args.line.now xs) c.octets.ensures c.in_ok-answer.ensures.is),
    )

pub returns-in_err-fill : goal.returns-in_err-fill
returns-in_err-fill g c =
    let old = g.D.Desk.outside c.args.desk.now in
    let new = g.D.Desk.outside c.fill.new.desk in
    let stop = c.in_err-fill.field-0.0 in
    let is = c.from_residual.ensures.1 in
    record {
      takes = handed_on (λ r. TakesLast r c.args.form c.args.line.now c.args.report.now c.fill.new.self old new) c.from_residual.result stop is
          (fewer_of c.in_err-fill.ensures.err, stops_at_report stop c.args.form old new c.in_err-fill.ensures.cause);
      leaves = leaves_handed (Unit {0}) c.from_residual.result stop old new is c.in_err-fill.ensures.leaves;
    }

pub returns-in_err-answer : goal.returns-in_err-answer
returns-in_err-answer g c =
    let old = g.D.Desk.outside c.args.desk.now in
    let new = g.D.Desk.outside c.fill.new.desk in
    let is = c.from_residual-in_err-answer.ensures.1 in
    let filled = c.in_ok-fill.ensures.ok in
    record {
      takes = handed_on (λ r. TakesLast r c.args.form c.args.line.now c.args.report.now c.fill.new.self old new)
          c.from_residual-in_err-answer.result OutOfMemory is ((filled.count, filled.takes), c.in_err-answer.ensures.memory);
      leaves = leaves_same c.from_residual-in_err-answer.result old new c.in_ok-fill.ensures.leaves;
    }
