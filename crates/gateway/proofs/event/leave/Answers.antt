use Rattle.std.proofs.Common.{◌+◌, [], ◌∷◌, subst}
use Rattle.gate_base.specs.Prelude.{event_of}
use Rattle.gate_settings.specs.declared.settings.Settings.{Settings}
use Rattle.gateway.specs.Prelude.{event_piece, WritesReportLine}
use Rattle.gateway.proofs.Events.{leaves}
use Rattle.gateway.proofs.event.leave.Goals as goal

pub returns : goal.returns
returns g c =
    let e = event_of c.args.event in
    let old = g.D.Desk.outside c.args.desk.now in
    let new = g.D.Desk.outside c.report.new.desk in
    leaves c.report.result c.report.new.self.totals c.args.gate.now c.args.reporter.now.totals e c.args.verdict old new
    (subst (λ (settings : Settings). WritesReportLine c.report.result settings.report
    (event_piece settings.report (c.args.reporter.now.totals.events + 1) e.side e.moment c.args.verdict 0 ∷ []) old new) c.settings.ensures
    c.report.ensures.answer)
    c.report.ensures.counted
