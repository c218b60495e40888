use Rattle.std.proofs.Common.{◌≡◌, ◌∙◌, ℕ, ◌+◌, ◌^◌, ◌≤◌, Result, Ok, Err, refl, sym, subst, arith, rules}
use Rattle.gate_base.specs.Prelude.{event_of}
use Rattle.frag_join.specs.Prelude.{arrival, by_known}
use Rattle.gate_desk.proofs.Laws.{grows_not, grows_on}
use Rattle.gate_settings.specs.declared.settings.Settings.{Settings as GateSettings}
use Rattle.pcap_merge.specs.Prelude.{Advances, work}
use Rattle.pcap_merge.proofs.Steps.{came_to}
use Rattle.gate_model.specs.Prelude.{World}
use Rattle.gate_sessions.specs.Compact.{CompactSession}
use Rattle.gate_desk.specs.Outside.{Outside}
use Rattle.gate_report.specs.Counts.{nothing_counted, done_line}
use Rattle.gate_report.specs.declared.line.Line.{Line}
use Rattle.gate_report.specs.declared.totals.Totals.{Totals}
use Rattle.gateway.specs.Prelude.{WritesLastLine, Forwards, Handles, CanCount, state_of}
use Rattle.run_setup.specs.declared.status.Status.{Status}
use Rattle.run_setup.specs.Prelude.{status_of_merge}
use Rattle.run_setup.proofs.Causes.{handed_on}
use Rattle.gateway.proofs.Progress.{Progress, ends_kept, progress_none, progress_on, forwards_stop, forwards_done, forwards_fail, failed_only, counts, stop_grows}
use Rattle.gateway.proofs.Took.{took_stop, took_end, took_fail}
use Rattle.gateway.proofs.running.forward.Goals as goal

-- the last line, by the settings with which the events began and by what the gate says that ever waited
last_line : (r : Result Line Status) (s now first : GateSettings) (totals : Totals) (n pending : ℕ) (a b : Outside) → s ≡ now → now ≡ first
    → n ≡ pending
    → WritesLastLine r s.report (done_line totals n) a b → WritesLastLine r first.report (done_line totals pending) a b
last_line r s now first totals n pending a b same kept waited h =
    subst (λ (k : ℕ). WritesLastLine r first.report (done_line totals k) a b) waited
    (subst (λ (x : GateSettings). WritesLastLine r x.report (done_line totals n) a b) (same ∙ kept) h)

pub events-init : goal.events-init
events-init g c =
    let old = g.D.Desk.outside c.args.desk.now in
    record {
      stop = c.requires.stop;
      settings = refl;
      few = subst (λ (t : Totals). t.events + work c.args.merge.now ≤ 2 ^ 41) (sym c.new-reporter.ensures) (omega (arith, c.requires.work));
      counts =
          subst CanCount (sym c.new-reporter.ensures)
          (record { passed = omega arith; refused = omega arith; to_left = omega arith; to_right = omega arith });
      starts = refl;
      grows = grows_not old;
      ends = c.requires.ends;
      progress =
          subst (λ (t : Totals). Progress c.args.gate.now.settings c.args.merge.now old old c.args.merge.now
          (state_of c.args.gate.now t) c.args.joiner.now) (sym c.new-reporter.ensures)
          (subst (λ (w : World CompactSession). Progress c.args.gate.now.settings c.args.merge.now old old c.args.merge.now
          (record { world = w; totals = nothing_counted }) c.args.joiner.now) (sym c.requires.world)
          (progress_none c.args.gate.now.settings c.args.merge.now old c.args.joiner.now c.requires.joiner));
    }

pub returns-in_err-more : goal.returns-in_err-more
returns-in_err-more g c =
    let old = g.D.Desk.outside c.args.desk.now in
    let now = g.D.Desk.outside c.events.desk in
    let new = g.D.Desk.outside c.advance.new.desk in
    let stop = c.in_err-more.field-0.0 in
    let stopped = c.in_err-more.ensures.first c.events.invariant.stop in
    record {
      answer =
          handed_on (λ r. Forwards r c.args.gate.now.settings c.args.merge.now old new) c.from_residual.result
          (status_of_merge stop) c.from_residual.ensures.1
          (forwards_stop stop c.args.gate.now.settings c.args.merge.now c.events.merge old now new
          (state_of c.events.gate c.events.reporter.totals) c.events.joiner c.events.invariant.progress c.events.invariant.grows stopped.1
          c.in_err-more.ensures.leaves);
      taken = took_stop c.in_err-more.field-0.0 c.args.gate.now.settings c.args.merge.now c.events.merge old now new
          (state_of c.events.gate c.events.reporter.totals) c.events.joiner c.events.invariant.progress
          (c.in_err-more.ensures.first c.events.invariant.stop).1;
      starts = search rules;
      counts =
          grows_on old now new c.events.invariant.grows
          (stop_grows c.in_err-more.field-0.0 c.events.merge now new (c.in_err-more.ensures.first c.events.invariant.stop).1);
    }

pub returns-then-not-more-clause-answer : goal.returns-then-not-more-clause-answer
returns-then-not-more-clause-answer g c =
    let old = g.D.Desk.outside c.args.desk.now in
    let now = g.D.Desk.outside c.events.desk in
    let mid = g.D.Desk.outside c.advance.new.desk in
    let new = g.D.Desk.outside c.finish.new.desk in
    let finished =
    subst (λ b. Advances (Ok b) c.events.merge c.advance.new.self now mid) c.if-not-more.true
    (c.in_ok-more.ensures.first c.events.invariant.stop) in
    forwards_done c.finish.result c.args.gate.now.settings c.args.merge.now c.events.merge c.advance.new.self old now mid new
    (state_of c.events.gate c.events.reporter.totals) c.events.joiner c.events.invariant.progress c.events.invariant.grows finished
    c.in_ok-more.ensures.leaves c.events.invariant.ends
    (last_line c.finish.result c.settings.result.now c.events.gate.settings c.args.gate.now.settings c.events.reporter.totals c.pending.result
    c.events.gate.world.pending mid new
    c.settings.ensures c.events.invariant.settings c.pending.ensures c.finish.ensures)

pub returns-in_err-take : goal.returns-in_err-take
returns-in_err-take g c =
    let old = g.D.Desk.outside c.args.desk.now in
    let now = g.D.Desk.outside c.events.desk in
    let mid = g.D.Desk.outside c.advance.new.desk in
    let new = g.D.Desk.outside c.take.new.desk in
    let e = event_of c.event.result in
    let came =
    came_to c.in_ok-more.more e c.events.merge c.advance.new.self now mid c.if-not-more.false
    (c.in_ok-more.ensures.first c.events.invariant.stop) c.event.ensures in
    let failed =
    subst (λ s. Handles (Err c.in_err-take.field-0.0) (record c.events.gate { settings = s }) c.take.new.gate c.events.reporter.totals
    (arrival by_known c.events.joiner e) mid new) c.events.invariant.settings c.in_err-take.ensures.answer in
    record {
      answer =
          handed_on
          (λ r. Forwards r c.args.gate.now.settings c.args.merge.now old new) c.from_residual-in_err-take.result c.in_err-take.field-0.0
          c.from_residual-in_err-take.ensures.1
          (forwards_fail c.in_err-take.field-0.0 c.args.gate.now.settings c.take.new.gate c.args.merge.now c.events.merge c.advance.new.self old now
          mid new (state_of c.events.gate c.events.reporter.totals) c.events.joiner e c.events.invariant.progress c.events.invariant.grows came
          failed);
      taken = took_fail c.in_err-take.field-0.0 c.args.gate.now.settings c.events.gate c.take.new.gate c.events.reporter.totals c.args.merge.now
          c.events.merge c.advance.new.self old now mid new (state_of c.events.gate c.events.reporter.totals) c.events.joiner e
          (arrival by_known c.events.joiner e) c.events.invariant.progress came c.in_err-take.ensures.answer;
      starts =
          (failed_only c.in_err-take.field-0.0 c.events.gate c.take.new.gate c.events.reporter.totals
          (arrival by_known c.events.joiner e) mid new c.in_err-take.ensures.answer).starts ∙ came.reads.starts ∙ c.events.invariant.starts;
      counts =
          grows_on old now new c.events.invariant.grows
          (grows_on now mid new came.reads.grows
          (failed_only c.in_err-take.field-0.0 c.events.gate c.take.new.gate c.events.reporter.totals
          (arrival by_known c.events.joiner e) mid new c.in_err-take.ensures.answer).grows);
    }

pub events-preserved : goal.events-preserved
events-preserved g c =
    let old = g.D.Desk.outside c.args.desk.now in
    let now = g.D.Desk.outside c.events.desk in
    let mid = g.D.Desk.outside c.advance.new.desk in
    let new = g.D.Desk.outside c.take.new.desk in
    let e = event_of c.event.result in
    let came =
    came_to c.in_ok-more.more e c.events.merge c.advance.new.self now mid c.if-not-more.false
    (c.in_ok-more.ensures.first c.events.invariant.stop) c.event.ensures in
    let handled = c.in_ok-take.ensures.answer in
    let counted =
    counts c.events.gate c.take.new.gate c.events.reporter.totals c.take.new.reporter.totals
    (arrival by_known c.events.joiner e) mid new handled c.events.invariant.counts in
    record {
      stop = came.stop;
      settings = handled.settings ∙ c.events.invariant.settings;
      few = omega (arith, c.events.invariant.few, came.work, counted.1);
      counts = counted.0;
      starts = handled.gives.only.starts ∙ came.reads.starts ∙ c.events.invariant.starts;
      grows = grows_on old now new c.events.invariant.grows (grows_on now mid new came.reads.grows handled.gives.only.grows);
      ends = ends_kept c.advance.new.self mid new handled.gives.only.left (came.ends c.events.invariant.ends);
      progress =
          subst (λ s. Progress s c.args.merge.now old new c.advance.new.self (state_of c.take.new.gate c.take.new.reporter.totals) c.take.new.joiner)
          c.events.invariant.settings
          (progress_on c.events.gate.settings c.args.merge.now c.events.merge c.advance.new.self old now mid new
          (state_of c.events.gate c.events.reporter.totals)
          (state_of c.take.new.gate c.take.new.reporter.totals) c.events.joiner c.take.new.joiner e
          (subst (λ s. Progress s c.args.merge.now old now c.events.merge (state_of c.events.gate c.events.reporter.totals) c.events.joiner)
          (sym c.events.invariant.settings) c.events.invariant.progress) came c.in_ok-more.ensures.leaves handled.state
          c.in_ok-take.ensures.joiner handled.gives);
    }

pub returns-then-not-more-clause-taken : goal.returns-then-not-more-clause-taken
returns-then-not-more-clause-taken g c =
    let old = g.D.Desk.outside c.args.desk.now in
    let now = g.D.Desk.outside c.events.desk in
    let mid = g.D.Desk.outside c.advance.new.desk in
    let new = g.D.Desk.outside c.finish.new.desk in
    let finished =
    subst (λ b. Advances (Ok b) c.events.merge c.advance.new.self now mid) c.if-not-more.true
    (c.in_ok-more.ensures.first c.events.invariant.stop) in
    took_end c.finish.result c.args.gate.now.settings c.args.merge.now c.events.merge c.advance.new.self old now mid new
    (state_of c.events.gate c.events.reporter.totals) c.events.joiner _ c.events.invariant.progress finished
    (last_line c.finish.result c.settings.result.now c.events.gate.settings c.args.gate.now.settings c.events.reporter.totals c.pending.result
    c.events.gate.world.pending mid new
    c.settings.ensures c.events.invariant.settings c.pending.ensures c.finish.ensures)
