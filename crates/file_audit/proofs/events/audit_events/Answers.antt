use Rattle.std.proofs.Common.{◌≡◌, ◌≤◌, ◌+◌, ◌^◌, ℕ, List, Option, length, IfSome, Ok, Err, Bool, refl, sym, ap, subst, ◌∙◌, arith, rules}
use Rattle.frag_join.specs.Prelude.{arrival, by_known}
use Rattle.gate_base.specs.Prelude.{event_of}
use Rattle.gate_desk.proofs.Laws.{grows_on, grows_not}
use Rattle.gate_desk.specs.Outside.{Trace, told_at}
use Rattle.gate_desk.specs.declared.slot.Slot.TheVariants.{LeftIn, RightIn}
use Rattle.gate_report.specs.Counts.{nothing_counted}
use Rattle.gate_report.specs.declared.totals.Totals.{Totals}
use Rattle.gate_settings.specs.declared.settings.Settings.{Settings}
use Rattle.gate_model.specs.Prelude.{WholeSession, World}
use Rattle.pcap_merge.specs.Prelude.{Advances, work}
use Rattle.pcap_merge.proofs.Steps.{came_to}
use Rattle.lawful_files.specs.Prelude.{State}
use Rattle.run_setup.specs.declared.status.Status.TheVariants.{OutOfMemory}
use Rattle.run_setup.specs.Prelude.{status_of_merge}
use Rattle.run_setup.proofs.Causes.{handed_on}
use Rattle.file_audit.specs.Events.{Finds}
use Rattle.file_audit.specs.Inside.Events.{FindsLast, state_of}
use Rattle.file_audit.specs.Given.{Fits}
use Rattle.file_audit.specs.Stops.{LeavesCounts}
use Rattle.file_audit.proofs.IncomingEnds.{ends_kept, left_kept, right_kept}
use Rattle.file_audit.proofs.LeftCounts.{leaves_on, leaves_all, leaves_handed, leaves_same, stop_leaves, stops_at}
use Rattle.file_audit.proofs.Walked.{arrived_at, expecting, walked_none, finds_stop, finds_done, finds_left, finds_at, finds_expect, took_few, walked_event}
use Rattle.file_audit.proofs.Wanting.{few_still, few_stop}
use Rattle.file_audit.proofs.Files.{files_none, files_captures, files_on, files_stop, files_both, stop_reads}
use Rattle.file_audit.proofs.events.audit_events.Goals as goal

pub returns-in_err-more : goal.returns-in_err-more
returns-in_err-more g c =
    let old = g.D.Desk.outside c.args.desk.now in
    let now = g.D.Desk.outside c.events.desk in
    let new = g.D.Desk.outside c.advance.new.desk in
    let i = c.events.invariant in
    let stop = c.in_err-more.field-0.0 in
    let status = status_of_merge stop in
    let is = c.from_residual.ensures.1 in
    let stopped = c.in_err-more.ensures.first i.stop in
    let reads = stop_reads stop c.events.merge now new stopped.1 in
    let leaves = leaves_on {A = ℕ} (Err status) old now new i.faults (stop_leaves ℕ stop now new c.in_err-more.ensures.leaves) in
    record {
      answer = handed_on (λ r. Finds r c.args.auditor.now.settings c.args.merge.now c.args.given.now old new) c.from_residual.result status is
          (finds_stop stop c.args.auditor.now.settings c.args.merge.now c.events.merge c.args.given.now c.events.given old now new c.events.joiner
          (state_of c.events.auditor c.events.totals) i.walked i.grows stopped.1);
      taken = took_few c.args.auditor.now.settings c.args.merge.now c.events.merge c.args.given.now c.events.given old now new c.events.joiner
          (state_of c.events.auditor c.events.totals) i.walked
          (λ start given. few_stop stop c.events.merge now new stopped.1 start i.walked.done given)
          (files_stop stop c.events.merge old now new i.files stopped.1)
          (reads.starts ∙ i.starts) (reads.written ∙ i.written) (grows_on old now new i.grows reads.grows);
      left_end = search rules;
      right_end = search rules;
      leaves = handed_on (λ r. LeavesCounts r old new) c.from_residual.result status is
          (leaves_all {A = ℕ} (Err status) old new leaves (stops_at stop c.events.merge c.advance.new.self now new stopped ∙ i.start_faults));
    }

pub returns-then-not-more : goal.returns-then-not-more
returns-then-not-more g c =
    let old = g.D.Desk.outside c.args.desk.now in
    let now = g.D.Desk.outside c.events.desk in
    let mid = g.D.Desk.outside c.advance.new.desk in
    let new = g.D.Desk.outside c.take_rest.new.desk in
    let i = c.events.invariant in
    let finished = subst (λ (b : Bool). Advances (Ok b) c.events.merge c.advance.new.self now mid) c.if-not-more.true
    (c.in_ok-more.ensures.first i.stop) in
    let reads = c.take_rest.ensures.reads in
    record {
      answer =
          finds_done c.args.auditor.now.settings c.args.merge.now c.events.merge c.advance.new.self c.args.given.now c.events.given old now mid new
          c.events.joiner (state_of c.events.auditor c.events.totals) i.walked finished
          (subst (λ (s : Settings). FindsLast (Ok tt) s (state_of c.events.auditor c.events.totals) c.events.given mid new) i.settings
          c.in_ok-take_rest.ensures.answer);
      taken = took_few c.args.auditor.now.settings c.args.merge.now c.events.merge c.args.given.now c.events.given old now new c.events.joiner
          (state_of c.events.auditor c.events.totals) i.walked
          (λ start given. few_still start mid new i.walked.done c.take_rest.ensures.reads (finished.few start i.walked.done given))
          (files_both old now mid new i.files finished.reads reads)
          (reads.starts ∙ finished.reads.starts ∙ i.starts) (reads.written ∙ finished.reads.written ∙ i.written)
          (grows_on old now new i.grows (grows_on now mid new finished.reads.grows reads.grows));
      left_end = let same = ap (λ (t : Trace). told_at t LeftIn) reads.left
          ∙ left_kept reads.left_count reads.right_count reads.report_count mid.left in
          subst (λ (o : Option (List ℕ)). IfSome o (λ all. length all ≡ 0)) (sym same) (finished.left i.ends);
      right_end = let same = ap (λ (t : Trace). told_at t RightIn) reads.left
          ∙ right_kept reads.left_count reads.right_count reads.report_count mid.left in
          subst (λ (o : Option (List ℕ)). IfSome o (λ all. length all ≡ 0)) (sym same) (finished.right i.ends);
      leaves = record {
        faults = c.in_ok-take_rest.ensures.leaves ∙ c.in_ok-more.ensures.leaves
            ∙ i.faults;
        start_faults = c.take_rest.ensures.reads.start_faults ∙ finished.reads.start_faults ∙ i.start_faults;
      };
    }

pub returns-in_err-take_rest : goal.returns-in_err-take_rest
returns-in_err-take_rest g c =
    let old = g.D.Desk.outside c.args.desk.now in
    let now = g.D.Desk.outside c.events.desk in
    let mid = g.D.Desk.outside c.advance.new.desk in
    let new = g.D.Desk.outside c.take_rest.new.desk in
    let i = c.events.invariant in
    let finished = subst (λ (b : Bool). Advances (Ok b) c.events.merge c.advance.new.self now mid) c.if-not-more.true
    (c.in_ok-more.ensures.first i.stop) in
    let stop = c.in_err-take_rest.field-0.0 in
    let is = c.from_residual-in_err-take_rest.ensures.1 in
    let reads = c.take_rest.ensures.reads in
    record {
      answer = handed_on (λ r. Finds r c.args.auditor.now.settings c.args.merge.now c.args.given.now old new) c.from_residual-in_err-take_rest.result
          stop is
          (finds_left stop c.args.auditor.now.settings c.args.merge.now c.events.merge c.advance.new.self c.args.given.now c.events.given old now mid
          new c.events.joiner (state_of c.events.auditor c.events.totals) i.walked i.grows finished
          (subst (λ (s : Settings). FindsLast (Err stop) s (state_of c.events.auditor c.events.totals) c.events.given mid new) i.settings
          c.in_err-take_rest.ensures.answer));
      taken = took_few c.args.auditor.now.settings c.args.merge.now c.events.merge c.args.given.now c.events.given old now new c.events.joiner
          (state_of c.events.auditor c.events.totals) i.walked
          (λ start given. few_still start mid new i.walked.done c.take_rest.ensures.reads (finished.few start i.walked.done given))
          (files_both old now mid new i.files finished.reads reads)
          (reads.starts ∙ finished.reads.starts ∙ i.starts) (reads.written ∙ finished.reads.written ∙ i.written)
          (grows_on old now new i.grows (grows_on now mid new finished.reads.grows reads.grows));
      left_end = search rules;
      right_end = search rules;
      leaves = leaves_all c.from_residual-in_err-take_rest.result old new
          (leaves_handed (Unit {0}) c.from_residual-in_err-take_rest.result stop old new is
          (leaves_on {A = Unit {0}} (Err stop) old mid new (c.in_ok-more.ensures.leaves ∙ i.faults) c.in_err-take_rest.ensures.leaves))
          (reads.start_faults ∙ finished.reads.start_faults ∙ i.start_faults);
    }

pub take_event-requires-clause-moment : goal.take_event-requires-clause-moment
take_event-requires-clause-moment g c =
    let now = g.D.Desk.outside c.events.desk in
    let mid = g.D.Desk.outside c.advance.new.desk in
    let e = event_of c.event.result in
    let came = came_to c.in_ok-more.more e c.events.merge c.advance.new.self now mid c.if-not-more.false
    (c.in_ok-more.ensures.first c.events.invariant.stop) c.event.ensures in
    let head = c.in_ok-head.ensures.answer.0.moment in
    omega (arith, head, arrived_at c.events.joiner e, came.small.moment)

pub returns-in_err-counted : goal.returns-in_err-counted
returns-in_err-counted g c =
    let old = g.D.Desk.outside c.args.desk.now in
    let now = g.D.Desk.outside c.events.desk in
    let mid = g.D.Desk.outside c.advance.new.desk in
    let new = g.D.Desk.outside c.take_event.new.desk in
    let i = c.events.invariant in
    let e = event_of c.event.result in
    let s = state_of c.events.auditor c.events.totals in
    let x = arrival by_known c.events.joiner e in
    let expects = expecting c.in_ok-head.head c.events.totals c.events.auditor c.expect.new.auditor x c.in_ok-head.ensures.answer in
    let stop = c.in_err-counted.field-0.0 in
    let is = c.from_residual-in_err-counted.ensures.1 in
    let reads = c.take_event.ensures.reads in
    let came = came_to c.in_ok-more.more e c.events.merge c.advance.new.self now mid c.if-not-more.false (c.in_ok-more.ensures.first i.stop)
    c.event.ensures in
    record {
      answer = handed_on (λ r. Finds r c.args.auditor.now.settings c.args.merge.now c.args.given.now old new) c.from_residual-in_err-counted.result
          stop is
          (finds_at stop c.args.auditor.now.settings c.args.merge.now c.events.merge c.advance.new.self c.args.given.now c.events.given
          c.take_event.new.given c.expect.new.auditor c.take_event.new.auditor c.events.joiner s e old now mid new
          i.walked i.grows came (c.in_ok-head.ensures.answer.1.settings ∙ i.settings) (c.in_err-counted.ensures.answer s x expects));
      taken = took_few c.args.auditor.now.settings c.args.merge.now c.events.merge c.args.given.now c.events.given old now new c.events.joiner
          (state_of c.events.auditor c.events.totals) i.walked
          (λ start given. few_still start mid new i.walked.done c.take_event.ensures.reads (came.few start i.walked.done given))
          (files_both old now mid new i.files came.reads reads)
          (reads.starts ∙ came.reads.starts ∙ i.starts) (reads.written ∙ came.reads.written ∙ i.written)
          (grows_on old now new i.grows (grows_on now mid new came.reads.grows reads.grows));
      left_end = search rules;
      right_end = search rules;
      leaves = leaves_all c.from_residual-in_err-counted.result old new (leaves_handed Totals c.from_residual-in_err-counted.result stop old new is
          (leaves_on {A = Totals} (Err stop) old mid new (c.in_ok-more.ensures.leaves ∙ i.faults) c.in_err-counted.ensures.leaves))
          (reads.start_faults ∙ came.reads.start_faults ∙ i.start_faults);
    }

pub events-preserved : goal.events-preserved
events-preserved g c =
    let old = g.D.Desk.outside c.args.desk.now in
    let now = g.D.Desk.outside c.events.desk in
    let mid = g.D.Desk.outside c.advance.new.desk in
    let new = g.D.Desk.outside c.take_event.new.desk in
    let i = c.events.invariant in
    let e = event_of c.event.result in
    let came = came_to c.in_ok-more.more e c.events.merge c.advance.new.self now mid c.if-not-more.false (c.in_ok-more.ensures.first i.stop)
    c.event.ensures in
    let s = state_of c.events.auditor c.events.totals in
    let x = arrival by_known c.events.joiner e in
    let expected = c.in_ok-head.ensures.answer in
    let expects = expecting c.in_ok-head.head c.events.totals c.events.auditor c.expect.new.auditor x expected in
    let found = c.in_ok-counted.ensures.answer s x expects in
    let reads = c.take_event.ensures.reads in
    let events = ap (λ (k : State). k.totals.events) found.1.state_is in
    let settings = expected.1.settings ∙ i.settings in
    record {
      stop = came.stop;
      settings = found.1.settings_are ∙ settings;
      kept = found.1.kept;
      few = omega (arith, i.few, came.work, events);
      running = found.1.running;
      fits = found.1.fits;
      starts = reads.starts ∙ came.reads.starts ∙ i.starts;
      written = reads.written ∙ came.reads.written ∙ i.written;
      faults = c.in_ok-counted.ensures.leaves ∙ c.in_ok-more.ensures.leaves ∙ i.faults;
      start_faults = reads.start_faults ∙ came.reads.start_faults ∙ i.start_faults;
      grows = grows_on old now new i.grows (grows_on now mid new came.reads.grows reads.grows);
      files = files_both old now mid new i.files came.reads reads;
      ends = ends_kept c.advance.new.self reads.left_count reads.right_count reads.report_count mid new reads.left (came.ends i.ends);
      walked = walked_event c.args.auditor.now.settings c.args.merge.now c.events.merge c.advance.new.self c.args.given.now c.events.given
          c.take_event.new.given c.expect.new.auditor c.take_event.new.auditor c.in_ok-counted.counted c.events.joiner c.expect.new.joiner s
          (state_of c.take_event.new.auditor c.in_ok-counted.counted) e found.0 old now mid new
          i.walked came reads c.expect.ensures.joiner settings found.1.state_is found.1;
    }

pub events-init : goal.events-init
events-init g c =
    let old = g.D.Desk.outside c.args.desk.now in
    record {
      stop = c.requires.files.stop;
      settings = refl;
      kept = c.requires.opening.kept;
      few = subst (λ (t : Totals). t.events + work c.args.merge.now ≤ 2 ^ 41) (sym c.new-totals.ensures) (omega (arith, c.requires.files.work));
      running = c.requires.files.running;
      fits = subst (λ (t : Totals). Fits t c.args.given.now) (sym c.new-totals.ensures) c.requires.files.fits;
      starts = refl;
      written = refl;
      faults = refl;
      start_faults = refl;
      grows = grows_not old;
      files = files_none old old refl;
      ends = c.requires.files.ends;
      walked =
          walked_none c.args.auditor.now.settings c.args.merge.now c.args.given.now old c.args.joiner.now
          (state_of c.args.auditor.now c.new-totals.result)
          (ap (state_of c.args.auditor.now) c.new-totals.ensures
          ∙ ap (λ (w : World WholeSession). let k : State = record { world = w; totals = nothing_counted } in k) c.requires.opening.world_is)
          c.requires.joiner;
    }

pub returns-in_err-head : goal.returns-in_err-head
returns-in_err-head g c =
    let old = g.D.Desk.outside c.args.desk.now in
    let now = g.D.Desk.outside c.events.desk in
    let new = g.D.Desk.outside c.advance.new.desk in
    let i = c.events.invariant in
    let e = event_of c.event.result in
    let is = c.from_residual-in_err-head.ensures.1 in
    let came = came_to c.in_ok-more.more e c.events.merge c.advance.new.self now new c.if-not-more.false (c.in_ok-more.ensures.first i.stop)
    c.event.ensures in
    record {
      answer = handed_on (λ r. Finds r c.args.auditor.now.settings c.args.merge.now c.args.given.now old new) c.from_residual-in_err-head.result
          OutOfMemory is
          (finds_expect c.args.auditor.now.settings c.args.merge.now c.events.merge c.advance.new.self c.args.given.now c.events.given c.events.joiner
          (state_of c.events.auditor c.events.totals) e old now new i.walked came c.in_err-head.ensures.answer);
      taken = took_few c.args.auditor.now.settings c.args.merge.now c.events.merge c.args.given.now c.events.given old now new c.events.joiner
          (state_of c.events.auditor c.events.totals) i.walked
          (λ start given. came.few start i.walked.done given)
          (files_on old now new i.files (files_captures now new came.reads))
          (came.reads.starts ∙ i.starts) (came.reads.written ∙ i.written) (grows_on old now new i.grows came.reads.grows);
      left_end = search rules;
      right_end = search rules;
      leaves = leaves_all c.from_residual-in_err-head.result old new
          (leaves_same c.from_residual-in_err-head.result old new (c.in_ok-more.ensures.leaves ∙ i.faults)) (came.reads.start_faults
          ∙ i.start_faults);
    }

pub take_rest-requires : goal.take_rest-requires
take_rest-requires g c =
    let i = c.events.invariant in
    record {
      left = search rules;
      right = search rules;
      report = search rules;
      running = i.running;
      kept = i.kept;
      few = omega (
        arith,
        i.few,
      );
      fits = i.fits;
    }

pub take_event-requires-clause-can : goal.take_event-requires-clause-can
take_event-requires-clause-can g c =
    let i = c.events.invariant in
    let kept = c.in_ok-head.ensures.answer.1.kept in
    record {
      left = search rules;
      right = search rules;
      report = search rules;
      running = i.running;
      kept = kept;
      few = omega (
        arith,
        i.few,
      );
      fits = i.fits;
    }
