use Rattle.std.proofs.Common.{[], ◌∷◌, Err, subst}
use Rattle.gate_report.specs.declared.line.Line.{Line}
use Rattle.gate_report.specs.Counts.{done_line}
use Rattle.gateway.specs.Prelude.{WritesAll, WritesLastLine, line_piece}
use Rattle.run_setup.proofs.Causes.{handed_on}
use Rattle.gateway.proofs.report.Reporter.finish.Goals as goal

pub returns-in_err-put_line : goal.returns-in_err-put_line
returns-in_err-put_line g c =
    let old = g.D.Desk.outside c.args.desk.now in
    let new = g.D.Desk.outside c.put_line.new.desk in
    handed_on
    (λ r. WritesLastLine r c.args.form (done_line c.args.self.now.totals c.args.pending) old new) c.from_residual.result
    c.in_err-put_line.field-0.0 c.from_residual.ensures.1
    (subst (λ (l : Line). WritesLastLine (Err c.in_err-put_line.field-0.0) c.args.form l old new) c.last_line-line.ensures
    c.in_err-put_line.ensures.answer)

pub returns : goal.returns
returns g c =
    let old = g.D.Desk.outside c.args.desk.now in
    let new = g.D.Desk.outside c.put_line.new.desk in (
      c.last_line-line.ensures,
      subst (λ (l : Line). WritesAll (line_piece c.args.form l ∷ []) old new) c.last_line-line.ensures c.in_ok-put_line.ensures.answer,
    )
