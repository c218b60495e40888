use Rattle.std.proofs.Common.{Err, arith, refl, sym, ap, subst, ◌∙◌, [], ◌∷◌, ◌++◌, Bool, Ok, length-append}
use Rattle.gate_desk.specs.Outside.{CanRead}
use Rattle.gate_desk.proofs.Laws.{can_read_same}
use Rattle.lawful_files.specs.Prelude.{Progress}
use Rattle.run_setup.proofs.Causes.{handed_on}
use Rattle.file_audit.specs.Inside.Records.{TakesRecord, TakesRecords}
use Rattle.file_audit.proofs.LeftCounts.{leaves_handed, leaves_on}
use Rattle.file_audit.proofs.TakenRecords.{took_none, took_on, took_fewer, took_failed, counted_one}
use Rattle.file_audit.proofs.records.take_records.Goals as goal

pub loop-taken-init : goal.loop-taken-init
loop-taken-init g c = record {
  bound = omega arith;
  packets = [];
  count = refl;
  took = took_none c.args.reader.now c.args.auditor.now (g.D.Desk.outside c.args.desk.now) c.requires.running;
  leaves = refl;
  can = c.requires.can;
  kept = c.requires.kept;
  so_far = ap (λ (p : Progress). p.count) c.requires.begun;
  carried = omega (arith, ap (λ (p : Progress). p.carried) c.requires.begun);
}

pub returns-then-not-branch-clause-takes : goal.returns-then-not-branch-clause-takes
returns-then-not-branch-clause-takes g c =
    let old = g.D.Desk.outside c.args.desk.now in
    let mid = g.D.Desk.outside c.loop-taken.desk in
    let new = g.D.Desk.outside c.take_record.new.desk in
    let one =
    subst (λ b. TakesRecord (Ok b) c.loop-taken.reader c.take_record.new.reader c.loop-taken.auditor c.take_record.new.auditor mid new)
    c.if-not-branch.true c.in_ok-take_record.ensures.takes in
    took_fewer c.loop-taken.invariant.packets c.args.frames c.args.reader.now c.loop-taken.reader c.take_record.new.reader c.args.auditor.now
    c.loop-taken.auditor c.take_record.new.auditor c.take_record.new.auditor old mid new
    (omega (arith, c.loop-taken.invariant.count, c.loop-taken-test.true)) c.loop-taken.invariant.took one

pub loop-taken-preserved : goal.loop-taken-preserved
loop-taken-preserved g c =
    let old = g.D.Desk.outside c.args.desk.now in
    let mid = g.D.Desk.outside c.loop-taken.desk in
    let new = g.D.Desk.outside c.take_record.new.desk in
    let i = c.loop-taken.invariant in
    let one =
    subst (λ b. TakesRecord (Ok b) c.loop-taken.reader c.take_record.new.reader c.loop-taken.auditor c.take_record.new.auditor mid new)
    c.if-not-branch.false c.in_ok-take_record.ensures.takes in
    let counted = counted_one one.0 c.loop-taken.auditor c.take_record.new.auditor c.loop-taken.taken one.1 one.2.audited i.kept i.so_far i.carried in
    record {
      bound = omega (arith, c.loop-taken-test.true);
      packets = i.packets ++ one.0 ∷ [];
      count = omega (arith, i.count, length-append i.packets (one.0 ∷ []));
      took = took_on i.packets
          (one.0 ∷ []) c.args.reader.now c.loop-taken.reader c.take_record.new.reader c.args.auditor.now c.loop-taken.auditor
          c.take_record.new.auditor old mid new i.took one.2;
      leaves = c.in_ok-take_record.ensures.leaves ∙ i.leaves;
      can = subst (CanRead new) (sym one.2.slot) (can_read_same c.loop-taken.reader.slot mid new one.2.takes.starts i.can);
      kept = counted.0;
      so_far = counted.1;
      carried = counted.2;
    }

pub returns-in_err-take_record : goal.returns-in_err-take_record
returns-in_err-take_record g c =
    let old = g.D.Desk.outside c.args.desk.now in
    let mid = g.D.Desk.outside c.loop-taken.desk in
    let new = g.D.Desk.outside c.take_record.new.desk in
    let i = c.loop-taken.invariant in
    let stop = c.in_err-take_record.field-0.0 in
    let is = c.from_residual.ensures.1 in
    record {
      takes = handed_on (λ r. TakesRecords r c.args.frames c.args.reader.now c.take_record.new.reader c.args.auditor.now c.take_record.new.auditor old
          new)
          c.from_residual.result stop is
          (took_failed i.packets c.args.frames stop c.args.reader.now c.loop-taken.reader c.take_record.new.reader c.args.auditor.now
          c.loop-taken.auditor c.take_record.new.auditor c.take_record.new.auditor old mid new i.took c.in_err-take_record.ensures.takes);
      leaves = leaves_handed Bool c.from_residual.result stop old new is
          (leaves_on {A = Bool} (Err stop) old mid new i.leaves c.in_err-take_record.ensures.leaves);
    }

pub returns-then-not-branch-clause-leaves : goal.returns-then-not-branch-clause-leaves
returns-then-not-branch-clause-leaves g c = c.in_ok-take_record.ensures.leaves ∙ c.loop-taken.invariant.leaves

pub returns-clause-leaves : goal.returns-clause-leaves
returns-clause-leaves g c = c.loop-taken.invariant.leaves
