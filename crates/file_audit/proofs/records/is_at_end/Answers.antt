use Rattle.std.proofs.Common.{Ok, Err, subst}
use Rattle.pcap_files.specs.Prelude.{Advances}
use Rattle.file_audit.proofs.TakenRecords.{end_more, end_ended, end_broken}
use Rattle.file_audit.proofs.records.is_at_end.Goals as goal

pub returns-then-more-clause-finds : goal.returns-then-more-clause-finds
returns-then-more-clause-finds g c =
    let old = g.D.Desk.outside c.args.desk.now in
    let new = g.D.Desk.outside c.advance.new.desk in
    end_more c.args.reader.now c.advance.new.self old new
    (subst (λ b. Advances (Ok b) c.args.reader.now c.advance.new.self old new) c.if-more.true (c.in-Ok.ensures.first c.requires.running))

pub returns-else-more-clause-finds : goal.returns-else-more-clause-finds
returns-else-more-clause-finds g c =
    let old = g.D.Desk.outside c.args.desk.now in
    let new = g.D.Desk.outside c.advance.new.desk in
    end_ended c.args.reader.now c.advance.new.self old new
    (subst (λ b. Advances (Ok b) c.args.reader.now c.advance.new.self old new) c.if-more.false (c.in-Ok.ensures.first c.requires.running))

pub returns-in-Err-Fault-clause-finds : goal.returns-in-Err-Fault-clause-finds
returns-in-Err-Fault-clause-finds g c =
    let old = g.D.Desk.outside c.args.desk.now in
    let new = g.D.Desk.outside c.advance.new.desk in
    end_broken c.in-Err-Fault.field-0-0 c.in-Err-Fault.field-0-1 c.args.reader.now c.advance.new.self old new
    (subst (λ e. Advances (Err e) c.args.reader.now c.advance.new.self old new) c.in-Err-Fault.field-0-is
    (c.in-Err-Fault.ensures.first c.requires.running))
