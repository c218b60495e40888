use Rattle.std.proofs.Common.{Err, ℕ, Bool, Option, Ok, ap, sym, subst, ◌∙◌}
use Rattle.gate_settings.specs.declared.settings.Settings.{Settings}
use Rattle.file_audit.specs.declared.given.GivenFiles.{GivenFiles}
use Rattle.file_audit.specs.Inside.Frames.{TakesNext}
use Rattle.file_audit.specs.Inside.Lines.{TakesLine}
use Rattle.run_setup.proofs.Causes.{handed_on}
use Rattle.file_audit.specs.Inside.Events.{FindsAt}
use Rattle.file_audit.proofs.LeftCounts.{leaves_handed, leaves_on}
use Rattle.file_audit.proofs.FoundEvents.{found_line, found_missing, found_frame, found_lawful}
use Rattle.file_audit.proofs.TakenFiles.{line_some, reads_on}
use Rattle.file_audit.proofs.Wanting.{failed_later, line_stops, next_stops}
use Rattle.file_audit.proofs.event.take_event.Goals as goal

pub returns-in_default-clause-answer : goal.returns-in_default-clause-answer
returns-in_default-clause-answer g c = λ s x e.
    let form = c.settings.result.now.report in
    let is = ap (λ (t : Settings). t.report) c.settings.ensures.value in
    let line = subst (λ (o : Option ℕ). TakesLine (Ok o) form c.args.head c.args.given.now.report c.take_line.new.report
    (g.D.Desk.outside c.args.desk.now) (g.D.Desk.outside c.take_line.new.desk)) c.in_default.is c.in_ok-frames.ensures.takes in
    found_line form c.args.head c.args.totals c.args.auditor.now s x c.args.given.now (g.D.Desk.outside c.args.desk.now) is e line.1

pub returns-in_default-clause-reads : goal.returns-in_default-clause-reads
returns-in_default-clause-reads g c =
    line_some c.take_line.result c.settings.result.now.report c.args.head c.args.given.now.report c.take_line.new.report
    (g.D.Desk.outside c.args.desk.now) (g.D.Desk.outside c.take_line.new.desk) c.take_line.ensures.takes

pub returns-in_err-frames : goal.returns-in_err-frames
returns-in_err-frames g c =
    let old = g.D.Desk.outside c.args.desk.now in
    let new = g.D.Desk.outside c.take_line.new.desk in
    let stop = c.in_err-frames.field-0.0 in
    let middle : GivenFiles = record c.args.given.now { report = c.take_line.new.report } in
    let form = c.settings.result.now.report in
    record {
      answer = λ s x e. handed_on (λ r. FindsAt r s x c.args.given.now middle c.args.auditor.now c.args.auditor.now old new)
          c.from_residual.result stop c.from_residual.ensures.1
          (line_stops stop form s x _ _ _ _ old new (ap (λ (t : Settings). t.report) c.settings.ensures.value) c.in_err-frames.ensures.takes.1);
      reads = line_some c.take_line.result form c.args.head c.args.given.now.report c.take_line.new.report old new c.take_line.ensures.takes;
      leaves = leaves_handed (Option ℕ) c.from_residual.result stop old new c.from_residual.ensures.1 c.in_err-frames.ensures.leaves;
    }

pub returns-in_err-there : goal.returns-in_err-there
returns-in_err-there g c =
    let old = g.D.Desk.outside c.args.desk.now in
    let mid = g.D.Desk.outside c.take_line.new.desk in
    let new = g.D.Desk.outside c.take_next.new.desk in
    let stop = c.in_err-there.field-0.0 in
    let is = c.from_residual-in_err-there.ensures.1 in
    let line = line_some c.take_line.result c.settings.result.now.report c.args.head c.args.given.now.report c.take_line.new.report
    old mid c.take_line.ensures.takes in
    record {
      answer = λ s x e. handed_on (λ r. FindsAt r s x c.args.given.now c.take_next.new.given c.args.auditor.now c.take_next.new.auditor old new)
          c.from_residual-in_err-there.result stop is
          (next_stops stop s x _ _ _ _ old new (failed_later stop old mid new line.grows c.in_err-there.ensures.answer));
      reads = reads_on old mid new line c.take_next.ensures.reads;
      leaves = leaves_handed Bool c.from_residual-in_err-there.result stop old new is
          (leaves_on {A = Bool} (Err stop) old mid new c.in_ok-frames.ensures.leaves c.in_err-there.ensures.leaves);
    }

pub returns-then-not-there-clause-reads : goal.returns-then-not-there-clause-reads
returns-then-not-there-clause-reads g c =
    reads_on (g.D.Desk.outside c.args.desk.now) (g.D.Desk.outside c.take_line.new.desk) (g.D.Desk.outside c.take_next.new.desk)
    (line_some c.take_line.result c.settings.result.now.report c.args.head c.args.given.now.report c.take_line.new.report
    (g.D.Desk.outside c.args.desk.now) (g.D.Desk.outside c.take_line.new.desk) c.take_line.ensures.takes) c.take_next.ensures.reads

pub returns-then-not-closed-clause-reads : goal.returns-then-not-closed-clause-reads
returns-then-not-closed-clause-reads g c =
    reads_on (g.D.Desk.outside c.args.desk.now) (g.D.Desk.outside c.take_line.new.desk) (g.D.Desk.outside c.take_next.new.desk)
    (line_some c.take_line.result c.settings.result.now.report c.args.head c.args.given.now.report c.take_line.new.report
    (g.D.Desk.outside c.args.desk.now) (g.D.Desk.outside c.take_line.new.desk) c.take_line.ensures.takes) c.take_next.ensures.reads

pub returns-clause-reads : goal.returns-clause-reads
returns-clause-reads g c =
    reads_on (g.D.Desk.outside c.args.desk.now) (g.D.Desk.outside c.take_line.new.desk) (g.D.Desk.outside c.take_next.new.desk)
    (line_some c.take_line.result c.settings.result.now.report c.args.head c.args.given.now.report c.take_line.new.report
    (g.D.Desk.outside c.args.desk.now) (g.D.Desk.outside c.take_line.new.desk) c.take_line.ensures.takes) c.take_next.ensures.reads

pub returns-then-not-there-clause-answer : goal.returns-then-not-there-clause-answer
returns-then-not-there-clause-answer g c = λ s x e.
    let old = g.D.Desk.outside c.args.desk.now in
    let mid = g.D.Desk.outside c.take_line.new.desk in
    let new = g.D.Desk.outside c.take_next.new.desk in
    let form = c.settings.result.now.report in
    let is = ap (λ (t : Settings). t.report) c.settings.ensures.value in
    let frames = c.in-Some.frames in
    let middle : GivenFiles = record c.args.given.now { report = c.take_line.new.report } in
    let line = subst (λ (o : Option ℕ). TakesLine (Ok o) form c.args.head c.args.given.now.report c.take_line.new.report old mid) c.in-Some.is
    c.in_ok-frames.ensures.takes in
    let few = subst (λ (b : Bool). TakesNext (Ok b) frames c.args.head.side middle c.take_next.new.given c.args.auditor.now c.take_next.new.auditor
    mid new) c.if-not-there.true c.in_ok-there.ensures.answer in
    found_missing frames form c.args.head c.args.totals c.args.auditor.now s x c.args.given.now c.take_line.new.report old mid is e line few

pub returns-then-not-closed-clause-answer : goal.returns-then-not-closed-clause-answer
returns-then-not-closed-clause-answer g c = λ s x e.
    let old = g.D.Desk.outside c.args.desk.now in
    let mid = g.D.Desk.outside c.take_line.new.desk in
    let new = g.D.Desk.outside c.take_next.new.desk in
    let form = c.settings.result.now.report in
    let is = ap (λ (t : Settings). t.report) c.settings.ensures.value in
    let frames = c.in-Some.frames in
    let middle : GivenFiles = record c.args.given.now { report = c.take_line.new.report } in
    let line = subst (λ (o : Option ℕ). TakesLine (Ok o) form c.args.head c.args.given.now.report c.take_line.new.report old mid) c.in-Some.is
    c.in_ok-frames.ensures.takes in
    let took = subst (λ (b : Bool). TakesNext (Ok b) frames c.args.head.side middle c.take_next.new.given c.args.auditor.now c.take_next.new.auditor
    mid new) c.if-not-there.false c.in_ok-there.ensures.answer in
    found_frame frames form c.args.head c.args.totals c.args.auditor.now c.take_next.new.auditor s x c.args.given.now c.take_next.new.given
    c.take_line.new.report old mid new c.settings.ensures.macs is e line took (sym c.closed.ensures ∙ c.if-not-closed.true)

pub returns-clause-answer : goal.returns-clause-answer
returns-clause-answer g c = λ s x e.
    let old = g.D.Desk.outside c.args.desk.now in
    let mid = g.D.Desk.outside c.take_line.new.desk in
    let new = g.D.Desk.outside c.take_next.new.desk in
    let form = c.settings.result.now.report in
    let is = ap (λ (t : Settings). t.report) c.settings.ensures.value in
    let frames = c.in-Some.frames in
    let middle : GivenFiles = record c.args.given.now { report = c.take_line.new.report } in
    let line = subst (λ (o : Option ℕ). TakesLine (Ok o) form c.args.head c.args.given.now.report c.take_line.new.report old mid) c.in-Some.is
    c.in_ok-frames.ensures.takes in
    let took = subst (λ (b : Bool). TakesNext (Ok b) frames c.args.head.side middle c.take_next.new.given c.args.auditor.now c.take_next.new.auditor
    mid new) c.if-not-there.false c.in_ok-there.ensures.answer in (
      frames,
      found_lawful frames form c.args.head c.args.totals c.count.result c.args.auditor.now c.take_next.new.auditor s x c.args.given.now
          c.take_next.new.given c.take_line.new.report old mid new c.settings.ensures.macs is e c.requires.can.kept c.requires.can.fits line
          took (sym c.closed.ensures ∙ c.if-not-closed.false) c.count.ensures,
    )
