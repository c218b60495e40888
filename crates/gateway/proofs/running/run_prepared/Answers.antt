use Rattle.std.proofs.Common.{refl, subst, rules}
use Rattle.gate_desk.specs.declared.slot.Slot.TheVariants.{LeftIn, RightIn, LeftOut, RightOut, Report}
use Rattle.gate_desk.specs.declared.slot.Access.TheVariants.{Read, Write}
use Rattle.run_setup.specs.RunNames.{names_of, plan, first_starts, output_starts}
use Rattle.run_setup.specs.declared.status.Status.TheVariants.{OutOfMemory}
use Rattle.gateway.specs.Prelude.{Readied, StopsInFront, heads, Runs}
use Rattle.run_setup.proofs.Causes.{handed_on, access_of}
use Rattle.gateway.proofs.Runs.{run_no_memory, run_not_ready, run_forwards, whole}
use Rattle.gateway.proofs.Took.{took_prepared, took_events}
use Rattle.gateway.proofs.running.run_prepared.Goals as goal

pub returns-in_err-outbox-clause-answer : goal.returns-in_err-outbox-clause-answer
returns-in_err-outbox-clause-answer g c since prepared =
    let now = g.D.Desk.outside c.args.desk.now in
    handed_on (λ r. Runs r (names_of c.args.names) since now) c.from_residual.result OutOfMemory c.from_residual.ensures.1
    (run_no_memory c.args.gate.now c.args.merge.now (names_of c.args.names) since now prepared)

pub returns-in_err-outbox-clause-taken : goal.returns-in_err-outbox-clause-taken
returns-in_err-outbox-clause-taken g c since prepared =
    let now = g.D.Desk.outside c.args.desk.now in
    took_prepared c.args.gate.now c.args.merge.now (first_starts (names_of c.args.names)) since now now prepared refl

pub returns-in_err-joiner-clause-answer : goal.returns-in_err-joiner-clause-answer
returns-in_err-joiner-clause-answer g c since prepared =
    let now = g.D.Desk.outside c.args.desk.now in
    handed_on (λ r. Runs r (names_of c.args.names) since now) c.from_residual-in_err-joiner.result OutOfMemory c.from_residual-in_err-joiner.ensures.1
    (run_no_memory c.args.gate.now c.args.merge.now (names_of c.args.names) since now prepared)

pub returns-in_err-joiner-clause-taken : goal.returns-in_err-joiner-clause-taken
returns-in_err-joiner-clause-taken g c since prepared =
    let now = g.D.Desk.outside c.args.desk.now in
    took_prepared c.args.gate.now c.args.merge.now (first_starts (names_of c.args.names)) since now now prepared refl

pub returns-in_err-ready-clause-answer : goal.returns-in_err-ready-clause-answer
returns-in_err-ready-clause-answer g c since prepared =
    let mid = g.D.Desk.outside c.args.desk.now in
    let new = g.D.Desk.outside c.ready.new.desk in
    let stopped =
    subst (λ s. StopsInFront c.in_err-ready.field-0.0 (output_starts (names_of c.args.names)) (heads s) mid new) c.settings-2.ensures
    c.in_err-ready.ensures.answer in
    handed_on
    (λ r. Runs r (names_of c.args.names) since new) c.from_residual-in_err-ready.result c.in_err-ready.field-0.0
    c.from_residual-in_err-ready.ensures.1
    (run_not_ready c.in_err-ready.field-0.0 c.args.gate.now c.args.merge.now (names_of c.args.names) since mid new prepared stopped)

pub returns-in_err-ready-clause-taken : goal.returns-in_err-ready-clause-taken
returns-in_err-ready-clause-taken g c since prepared =
    let mid = g.D.Desk.outside c.args.desk.now in
    let new = g.D.Desk.outside c.ready.new.desk in
    took_prepared c.args.gate.now c.args.merge.now (first_starts (names_of c.args.names)) since mid new prepared c.ready.ensures.left

pub forward-requires : goal.forward-requires
forward-requires g c =
    let mid = g.D.Desk.outside c.args.desk.now in
    let new = g.D.Desk.outside c.ready.new.desk in
    let ready = subst (λ s. Readied s (output_starts (names_of c.args.names)) mid new) c.settings-2.ensures c.in_ok-ready.ensures.answer in
    record {
      left_in =
          access_of LeftIn Read (plan (names_of c.args.names)) c.requires.since new
          (whole c.args.gate.now c.args.merge.now (names_of c.args.names) c.requires.since mid new new c.requires.prepared ready refl)
          (λ w. refl);
      right_in =
          access_of RightIn Read (plan (names_of c.args.names)) c.requires.since new
          (whole c.args.gate.now c.args.merge.now (names_of c.args.names) c.requires.since mid new new c.requires.prepared ready refl)
          (λ w. refl);
      left_out =
          access_of LeftOut Write (plan (names_of c.args.names)) c.requires.since new
          (whole c.args.gate.now c.args.merge.now (names_of c.args.names) c.requires.since mid new new c.requires.prepared ready refl)
          (λ w. refl);
      right_out =
          access_of RightOut Write (plan (names_of c.args.names)) c.requires.since new
          (whole c.args.gate.now c.args.merge.now (names_of c.args.names) c.requires.since mid new new c.requires.prepared ready refl)
          (λ w. refl);
      report =
          access_of Report Write (plan (names_of c.args.names)) c.requires.since new
          (whole c.args.gate.now c.args.merge.now (names_of c.args.names) c.requires.since mid new new c.requires.prepared ready refl)
          (λ w. refl);
      stop = search rules;
      work = search rules;
      ends = search rules;
      joiner = search rules;
      world = search rules;
    }

pub returns-clause-answer : goal.returns-clause-answer
returns-clause-answer g c since prepared =
    let mid = g.D.Desk.outside c.args.desk.now in
    let new = g.D.Desk.outside c.ready.new.desk in
    let ready = subst (λ s. Readied s (output_starts (names_of c.args.names)) mid new) c.settings-2.ensures c.in_ok-ready.ensures.answer in
    run_forwards c.forward.result c.args.gate.now c.args.merge.now (names_of c.args.names) since mid new
    (g.D.Desk.outside c.forward.new.desk) prepared ready c.forward.ensures.starts c.forward.ensures.counts c.forward.ensures.answer

pub returns-clause-taken : goal.returns-clause-taken
returns-clause-taken g c since prepared =
    let mid = g.D.Desk.outside c.args.desk.now in
    let new = g.D.Desk.outside c.ready.new.desk in
    let ready = subst (λ s. Readied s (output_starts (names_of c.args.names)) mid new) c.settings-2.ensures c.in_ok-ready.ensures.answer in
    took_events c.args.gate.now c.args.merge.now (names_of c.args.names) since mid new
    (g.D.Desk.outside c.forward.new.desk) prepared ready c.forward.ensures.taken
