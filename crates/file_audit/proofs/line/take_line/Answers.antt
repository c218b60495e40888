use Rattle.std.proofs.Common.{Option, Some, None, List, ℕ, subst, arith}
use Rattle.file_audit.specs.declared.line.LineFound.{LineFound}
use Rattle.run_setup.specs.declared.status.Status.TheVariants.{OutOfMemory}
use Rattle.run_setup.proofs.Causes.{handed_on}
use Rattle.file_audit.proofs.LeftCounts.{leaves_handed, leaves_same}
use Rattle.file_audit.specs.Inside.Lines.{FindsLine, TakesLine}
use Rattle.file_audit.proofs.ReportAhead.{fewer_of, stops_at_report, takes_frames, takes_none}
use Rattle.file_audit.proofs.line.take_line.Goals as goal

pub returns-in-Some-clause-takes : goal.returns-in-Some-clause-takes
returns-in-Some-clause-takes g c =
    let found = c.in-Some.found in
    let line = subst (λ (o : Option LineFound). FindsLine o c.args.form c.args.head c.octets.result.now) c.in-Some.is c.in_ok-found.ensures.is in
    takes_frames found c.args.form c.args.head c.args.report.now c.fill.new.self c.skip.new.self (g.D.Desk.outside c.args.desk.now)
    (g.D.Desk.outside c.fill.new.desk) c.in_ok-fill.ensures.ok
    (subst (λ (xs : List ℕ). FindsLine (Some found) c.args.form c.args.head xs) c.octets.ensures line) c.skip.ensures

pub returns-in-None-clause-takes : goal.returns-in-None-clause-takes
returns-in-None-clause-takes g c =
    let none = subst (λ (o : Option LineFound). FindsLine o c.args.form c.args.head c.octets.result.now) c.in-None.is c.in_ok-found.ensures.is in
    let filled = c.in_ok-fill.ensures.ok in (
      (filled.count, filled.takes),
      takes_none c.args.form c.args.head c.args.report.now c.fill.new.self (g.D.Desk.outside c.args.desk.now)
          (g.D.Desk.outside c.fill.new.desk) c.requires.number (omega (arith, c.requires.moment)) filled
          (subst (λ (xs : List ℕ). FindsLine None c.args.form c.args.head xs) c.octets.ensures none),
    )

pub returns-in_err-fill : goal.returns-in_err-fill
returns-in_err-fill g c =
    let old = g.D.Desk.outside c.args.desk.now in
    let new = g.D.Desk.outside c.fill.new.desk in
    let stop = c.in_err-fill.field-0.0 in
    let is = c.from_residual.ensures.1 in
    record {
      takes = handed_on (λ r. TakesLine r c.args.form c.args.head c.args.report.now c.fill.new.self old new) c.from_residual.result stop is
          (fewer_of c.in_err-fill.ensures.err, stops_at_report stop c.args.form old new c.in_err-fill.ensures.cause);
      leaves = leaves_handed (Unit {0}) c.from_residual.result stop old new is c.in_err-fill.ensures.leaves;
    }

pub returns-in_err-found : goal.returns-in_err-found
returns-in_err-found g c =
    let old = g.D.Desk.outside c.args.desk.now in
    let new = g.D.Desk.outside c.fill.new.desk in
    let is = c.from_residual-in_err-found.ensures.1 in
    let filled = c.in_ok-fill.ensures.ok in
    record {
      takes = handed_on (λ r. TakesLine r c.args.form c.args.head c.args.report.now c.fill.new.self old new)
          c.from_residual-in_err-found.result OutOfMemory is ((filled.count, filled.takes), c.in_err-found.ensures.memory);
      leaves = leaves_same c.from_residual-in_err-found.result old new c.in_ok-fill.ensures.leaves;
    }
