use Rattle.std.proofs.Common.{Err, Bool, true, false, Ok, ℕ, ap, refl, subst, ◌∙◌, ◌++◌, IfSome}
use Rattle.gate_desk.specs.declared.slot.Slot.TheVariants.{LeftGiven, RightGiven, ReportGiven}
use Rattle.gate_report.specs.Counts.{done_line}
use Rattle.gate_settings.specs.declared.settings.Settings.{Settings}
use Rattle.run_setup.proofs.Causes.{handed_on}
use Rattle.file_audit.specs.Inside.Events.{FindsLast, state_of}
use Rattle.file_audit.specs.Inside.Lines.{IsLast, TakesLast}
use Rattle.file_audit.specs.Inside.Records.{FindsEnd}
use Rattle.file_audit.specs.Inside.Stops.{FailsAt}
use Rattle.file_audit.proofs.FoundLast.{IsUsedUp, beside, done_short, last_is, left_over, not_used_up, nothing_left, report_over, right_over, used_up}
use Rattle.file_audit.proofs.LeftCounts.{leaves_handed, leaves_on}
use Rattle.file_audit.proofs.TakenFiles.{end_some, ends_read, last_some, reads_on, some_left}
use Rattle.file_audit.proofs.Wanting.{end_stops, failed_later, fails_in_audit, last_stops}
use Rattle.file_audit.proofs.event.take_rest.Goals as goal

-- ## The left capture

pub returns-in_err-left_ended : goal.returns-in_err-left_ended
returns-in_err-left_ended g c =
    let old = g.D.Desk.outside c.args.desk.now in
    let new = g.D.Desk.outside c.is_at_end.new.desk in
    let r = c.args.given.now in
    let stop = c.in_err-left_ended.field-0.0 in
    let is = c.from_residual.ensures.1 in
    let failed = subst (λ slot. FailsAt stop slot old new) c.requires.running.left_slot c.in_err-left_ended.ensures.finds.1 in
    record {
      answer = handed_on (λ x. FindsLast x c.args.auditor.now.settings (state_of c.args.auditor.now c.args.totals) r old new) c.from_residual.result
          stop is
          (end_stops stop _ _ r old new (fails_in_audit stop LeftGiven old new tt failed));
      reads = some_left r.left old new c.requires.running.left_slot (end_some c.is_at_end.result r.left old new c.is_at_end.ensures.finds);
      leaves = leaves_handed Bool c.from_residual.result stop old new is c.in_err-left_ended.ensures.leaves;
    }

pub returns-then-not-left_ended : goal.returns-then-not-left_ended
returns-then-not-left_ended g c =
    let old = g.D.Desk.outside c.args.desk.now in
    let new = g.D.Desk.outside c.is_at_end.new.desk in
    let r = c.args.given.now in
    let more = subst (λ (b : Bool). FindsEnd (Ok b) r.left old new) c.if-not-left_ended.true c.in_ok-left_ended.ensures.finds in
    record {
      answer = left_over c.args.auditor.now.settings (state_of c.args.auditor.now c.args.totals) r _ old.left refl
          (not_used_up LeftGiven r.left old new c.requires.running.left_slot more);
      reads = some_left r.left old new c.requires.running.left_slot (end_some c.is_at_end.result r.left old new c.is_at_end.ensures.finds);
      leaves = c.in_ok-left_ended.ensures.leaves;
    }

-- ## The right one

pub returns-in_err-right_ended : goal.returns-in_err-right_ended
returns-in_err-right_ended g c =
    let old = g.D.Desk.outside c.args.desk.now in
    let mid = g.D.Desk.outside c.is_at_end.new.desk in
    let new = g.D.Desk.outside c.is_at_end-2.new.desk in
    let r = c.args.given.now in
    let stop = c.in_err-right_ended.field-0.0 in
    let is = c.from_residual-in_err-right_ended.ensures.1 in
    let first = some_left r.left old mid c.requires.running.left_slot (end_some c.is_at_end.result r.left old mid c.is_at_end.ensures.finds) in
    let failed = subst (λ slot. FailsAt stop slot mid new) c.requires.running.right_slot c.in_err-right_ended.ensures.finds.1 in
    record {
      answer = handed_on (λ x. FindsLast x c.args.auditor.now.settings (state_of c.args.auditor.now c.args.totals) r old new)
          c.from_residual-in_err-right_ended.result stop is
          (end_stops stop _ _ r old new (failed_later stop old mid new first.grows (fails_in_audit stop RightGiven mid new tt failed)));
      reads = ends_read c.is_at_end.result c.is_at_end-2.result r old mid new c.requires.running c.is_at_end.ensures.finds
          c.is_at_end-2.ensures.finds;
      leaves = leaves_handed Bool c.from_residual-in_err-right_ended.result stop old new is
          (leaves_on {A = Bool} (Err stop) old mid new c.in_ok-left_ended.ensures.leaves c.in_err-right_ended.ensures.leaves);
    }

pub returns-then-not-right_ended : goal.returns-then-not-right_ended
returns-then-not-right_ended g c =
    let old = g.D.Desk.outside c.args.desk.now in
    let mid = g.D.Desk.outside c.is_at_end.new.desk in
    let new = g.D.Desk.outside c.is_at_end-2.new.desk in
    let r = c.args.given.now in
    let same = beside LeftGiven RightGiven r.left old mid c.requires.running.left_slot refl
    (end_some c.is_at_end.result r.left old mid c.is_at_end.ensures.finds) in
    let more = subst (λ (b : Bool). FindsEnd (Ok b) r.right mid new) c.if-not-right_ended.true c.in_ok-right_ended.ensures.finds in
    record {
      answer = right_over c.args.auditor.now.settings (state_of c.args.auditor.now c.args.totals) r _ old.left refl
          (subst (λ o. IfSome o (λ octets. IsUsedUp r.right octets
          → ⊥)) same (not_used_up RightGiven r.right mid new c.requires.running.right_slot more));
      reads = ends_read c.is_at_end.result c.is_at_end-2.result r old mid new c.requires.running c.is_at_end.ensures.finds
          c.is_at_end-2.ensures.finds;
      leaves = c.in_ok-right_ended.ensures.leaves ∙ c.in_ok-left_ended.ensures.leaves;
    }

-- ## The report

pub take_last-requires-clause-short : goal.take_last-requires-clause-short
take_last-requires-clause-short g c =
    done_short c.settings.result.now.report c.last_line-line.result c.args.totals c.pending.result c.args.given.now c.last_line-line.ensures
    c.requires.few c.requires.fits c.pending.type_inv

pub returns-in_err-alone : goal.returns-in_err-alone
returns-in_err-alone g c =
    let old = g.D.Desk.outside c.args.desk.now in
    let mid = g.D.Desk.outside c.is_at_end.new.desk in
    let end = g.D.Desk.outside c.is_at_end-2.new.desk in
    let new = g.D.Desk.outside c.take_last.new.desk in
    let r = c.args.given.now in
    let form = c.settings.result.now.report in
    let stop = c.in_err-alone.field-0.0 in
    let is = c.from_residual-in_err-alone.ensures.1 in
    let ends = ends_read c.is_at_end.result c.is_at_end-2.result r old mid end c.requires.running c.is_at_end.ensures.finds
    c.is_at_end-2.ensures.finds in
    record {
      answer = handed_on (λ x. FindsLast x c.args.auditor.now.settings (state_of c.args.auditor.now c.args.totals) r old new)
          c.from_residual-in_err-alone.result stop is
          (last_stops stop form _ _ r old end new (ap (λ (t : Settings). t.report) c.settings.ensures.value) ends.grows
          c.in_err-alone.ensures.takes.1);
      reads = reads_on old end new ends (last_some c.take_last.result form c.last_line-line.result _ _ end new c.take_last.ensures.takes);
      leaves = leaves_handed Bool c.from_residual-in_err-alone.result stop old new is
          (leaves_on {A = Bool} (Err stop) old end new (c.in_ok-right_ended.ensures.leaves
          ∙ c.in_ok-left_ended.ensures.leaves) c.in_err-alone.ensures.leaves);
    }

pub returns-else-alone : goal.returns-else-alone
returns-else-alone g c =
    let old = g.D.Desk.outside c.args.desk.now in
    let mid = g.D.Desk.outside c.is_at_end.new.desk in
    let end = g.D.Desk.outside c.is_at_end-2.new.desk in
    let new = g.D.Desk.outside c.take_last.new.desk in
    let r = c.args.given.now in
    let s = state_of c.args.auditor.now c.args.totals in
    let form = c.settings.result.now.report in
    let line = c.last_line-line.result in
    let is = last_is c.args.auditor.now.settings form s line (ap (λ (t : Settings). t.report) c.settings.ensures.value)
    (c.last_line-line.ensures ∙ ap (λ (n : ℕ). done_line c.args.totals n) c.pending.ensures) in
    let same = beside RightGiven ReportGiven r.right mid end c.requires.running.right_slot refl
    (end_some c.is_at_end-2.result r.right mid end c.is_at_end-2.ensures.finds)
    ∙ beside LeftGiven ReportGiven r.left old mid c.requires.running.left_slot refl
    (end_some c.is_at_end.result r.left old mid c.is_at_end.ensures.finds) in
    let other = subst (λ (b : Bool). TakesLast (Ok b) form line r.report c.take_last.new.report end new) c.if-alone.false
    c.in_ok-alone.ensures.takes in
    record {
      answer = report_over c.args.auditor.now.settings form line s r _ old.left refl is
          (subst (λ o. IfSome o (λ all. IsLast false form line (r.report ++ all))) same other.1);
      reads = reads_on old end new
          (ends_read c.is_at_end.result c.is_at_end-2.result r old mid end c.requires.running c.is_at_end.ensures.finds c.is_at_end-2.ensures.finds)
          (last_some c.take_last.result form line _ _ end new c.take_last.ensures.takes);
      leaves = c.in_ok-alone.ensures.leaves ∙ c.in_ok-right_ended.ensures.leaves ∙ c.in_ok-left_ended.ensures.leaves;
    }

pub returns-then-alone : goal.returns-then-alone
returns-then-alone g c =
    let old = g.D.Desk.outside c.args.desk.now in
    let mid = g.D.Desk.outside c.is_at_end.new.desk in
    let end = g.D.Desk.outside c.is_at_end-2.new.desk in
    let new = g.D.Desk.outside c.take_last.new.desk in
    let r = c.args.given.now in
    let s = state_of c.args.auditor.now c.args.totals in
    let form = c.settings.result.now.report in
    let line = c.last_line-line.result in
    let is = last_is c.args.auditor.now.settings form s line (ap (λ (t : Settings). t.report) c.settings.ensures.value)
    (c.last_line-line.ensures ∙ ap (λ (n : ℕ). done_line c.args.totals n) c.pending.ensures) in
    let left = end_some c.is_at_end.result r.left old mid c.is_at_end.ensures.finds in
    let right = end_some c.is_at_end-2.result r.right mid end c.is_at_end-2.ensures.finds in
    let behind = beside RightGiven ReportGiven r.right mid end c.requires.running.right_slot refl right
    ∙ beside LeftGiven ReportGiven r.left old mid c.requires.running.left_slot refl left in
    let none = subst (λ (b : Bool). FindsEnd (Ok b) r.left old mid) c.if-not-left_ended.false c.in_ok-left_ended.ensures.finds in
    let also = subst (λ (b : Bool). FindsEnd (Ok b) r.right mid end) c.if-not-right_ended.false c.in_ok-right_ended.ensures.finds in
    let last = subst (λ (b : Bool). TakesLast (Ok b) form line r.report c.take_last.new.report end new) c.if-alone.true c.in_ok-alone.ensures.takes in
    record {
      answer = nothing_left c.args.auditor.now.settings form line s r old.left is
          (used_up LeftGiven r.left old mid c.requires.running.left_slot none)
          (subst (λ o. IfSome o (IsUsedUp r.right)) (beside LeftGiven RightGiven r.left old mid c.requires.running.left_slot refl left)
          (used_up RightGiven r.right mid end c.requires.running.right_slot also))
          (subst (λ o. IfSome o (λ all. IsLast true form line (r.report ++ all))) behind last.1);
      reads = reads_on old end new
          (ends_read c.is_at_end.result c.is_at_end-2.result r old mid end c.requires.running c.is_at_end.ensures.finds c.is_at_end-2.ensures.finds)
          (last_some c.take_last.result form line _ _ end new c.take_last.ensures.takes);
      leaves = c.in_ok-alone.ensures.leaves ∙ c.in_ok-right_ended.ensures.leaves ∙ c.in_ok-left_ended.ensures.leaves;
    }
