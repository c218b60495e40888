use Rattle.std.proofs.Common.{Err}
use Rattle.pcap_files.specs.Prelude.{Reading}
use Rattle.run_setup.proofs.Causes.{handed_on}
use Rattle.file_audit.specs.Events.{BeginsGiven}
use Rattle.file_audit.proofs.LeftCounts.{leaves_all, leaves_handed, leaves_on}
use Rattle.file_audit.proofs.BegunCaptures.{both_begin, head_left, head_right, left_fails, right_fails}
use Rattle.file_audit.proofs.TakenFiles.{reads_on}
use Rattle.file_audit.proofs.given.GivenFiles.begin.Goals as goal

pub returns-in_err-left : goal.returns-in_err-left
returns-in_err-left g c =
    let old = g.D.Desk.outside c.args.desk.now in
    let new = g.D.Desk.outside c.begin_capture.new.desk in
    let stop = c.in_err-left.field-0.0 in
    let is = c.from_residual.ensures.1 in
    let reads = head_left c.begin_capture.result c.args.settings.now.left.link old new c.begin_capture.ensures.begins in
    record {
      answer = handed_on (λ r. BeginsGiven r c.args.settings.now old new) c.from_residual.result stop is
          (left_fails stop c.args.settings.now old new c.in_err-left.ensures.begins.1);
      reads = reads;
      leaves = leaves_all _ old new (leaves_handed Reading c.from_residual.result stop old new is c.in_err-left.ensures.leaves) reads.start_faults;
    }

pub returns-in_err-right : goal.returns-in_err-right
returns-in_err-right g c =
    let old = g.D.Desk.outside c.args.desk.now in
    let mid = g.D.Desk.outside c.begin_capture.new.desk in
    let new = g.D.Desk.outside c.begin_capture-2.new.desk in
    let stop = c.in_err-right.field-0.0 in
    let is = c.from_residual-in_err-right.ensures.1 in
    let reads = reads_on old mid new (head_left c.begin_capture.result c.args.settings.now.left.link old mid c.begin_capture.ensures.begins)
    (head_right c.begin_capture-2.result c.args.settings.now.right.link mid new c.begin_capture-2.ensures.begins) in
    record {
      answer = handed_on (λ r. BeginsGiven r c.args.settings.now old new) c.from_residual-in_err-right.result stop is
          (right_fails stop c.in_ok-left.left c.args.settings.now old mid new c.in_ok-left.ensures.begins c.in_err-right.ensures.begins.1);
      reads = reads;
      leaves = leaves_all _ old new (leaves_handed Reading c.from_residual-in_err-right.result stop old new is
          (leaves_on {A = Reading} (Err stop) old mid new c.in_ok-left.ensures.leaves c.in_err-right.ensures.leaves)) reads.start_faults;
    }

pub returns-clause-reads : goal.returns-clause-reads
returns-clause-reads g c =
    reads_on (g.D.Desk.outside c.args.desk.now) (g.D.Desk.outside c.begin_capture.new.desk) (g.D.Desk.outside c.begin_capture-2.new.desk)
    (head_left c.begin_capture.result c.args.settings.now.left.link (g.D.Desk.outside c.args.desk.now)
    (g.D.Desk.outside c.begin_capture.new.desk) c.begin_capture.ensures.begins)
    (head_right c.begin_capture-2.result c.args.settings.now.right.link (g.D.Desk.outside c.begin_capture.new.desk)
    (g.D.Desk.outside c.begin_capture-2.new.desk) c.begin_capture-2.ensures.begins)

pub returns-clause-answer : goal.returns-clause-answer
returns-clause-answer g c =
    both_begin c.args.settings.now c.in_ok-left.left c.in_ok-right.right c.new.result (g.D.Desk.outside c.args.desk.now)
    (g.D.Desk.outside c.begin_capture.new.desk) (g.D.Desk.outside c.begin_capture-2.new.desk) c.new.ensures c.in_ok-left.ensures.begins
    c.in_ok-right.ensures.begins
