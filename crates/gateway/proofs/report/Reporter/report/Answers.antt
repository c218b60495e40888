use Rattle.std.proofs.Common.{◌+◌, [], ◌∷◌}
use Rattle.gateway.specs.Prelude.{event_piece, WritesReportLine}
use Rattle.run_setup.proofs.Causes.{handed_on}
use Rattle.gateway.proofs.report.Reporter.report.Goals as goal

pub returns-in_err-put_line-clause-answer : goal.returns-in_err-put_line-clause-answer
returns-in_err-put_line-clause-answer g c =
    let e = c.args.event.now in
    let old = g.D.Desk.outside c.args.desk.now in
    let new = g.D.Desk.outside c.put_line.new.desk in
    handed_on
    (λ r. WritesReportLine r c.args.form
    (event_piece c.args.form (c.args.self.now.totals.events + 1) e.side e.moment.0 c.args.verdict c.args.frames ∷ []) old new)
    c.from_residual.result c.in_err-put_line.field-0.0 c.from_residual.ensures.1 c.in_err-put_line.ensures.answer
