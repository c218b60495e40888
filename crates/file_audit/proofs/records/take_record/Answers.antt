use Rattle.std.proofs.Common.{Ok, Err, subst}
use Rattle.pcap_files.specs.Packets.{packet_of}
use Rattle.pcap_files.specs.Prelude.{Advances}
use Rattle.file_audit.proofs.TakenRecords.{take_one, take_end, take_fault}
use Rattle.file_audit.proofs.records.take_record.Goals as goal

pub returns-else-not-more-clause-takes : goal.returns-else-not-more-clause-takes
returns-else-not-more-clause-takes g c =
    let old = g.D.Desk.outside c.args.desk.now in
    let new = g.D.Desk.outside c.advance.new.desk in
    take_one c.args.reader.now c.advance.new.self (packet_of c.packet.result) c.args.auditor.now c.frame.new.self old new c.requires.running
    (subst (λ b. Advances (Ok b) c.args.reader.now c.advance.new.self old new) c.if-not-more.false (c.in-Ok.ensures.first c.requires.running))
    c.packet.ensures c.frame.ensures.next

pub returns-then-not-more-clause-takes : goal.returns-then-not-more-clause-takes
returns-then-not-more-clause-takes g c =
    let old = g.D.Desk.outside c.args.desk.now in
    let new = g.D.Desk.outside c.advance.new.desk in
    take_end c.args.reader.now c.advance.new.self c.args.auditor.now c.args.auditor.now old new
    (subst (λ b. Advances (Ok b) c.args.reader.now c.advance.new.self old new) c.if-not-more.true (c.in-Ok.ensures.first c.requires.running))

pub returns-in-Err-Fault-clause-takes : goal.returns-in-Err-Fault-clause-takes
returns-in-Err-Fault-clause-takes g c =
    let old = g.D.Desk.outside c.args.desk.now in
    let new = g.D.Desk.outside c.advance.new.desk in
    take_fault c.in-Err-Fault.field-0-0 c.in-Err-Fault.field-0-1 c.args.reader.now c.advance.new.self c.args.auditor.now c.args.auditor.now old new
    (subst (λ e. Advances (Err e) c.args.reader.now c.advance.new.self old new) c.in-Err-Fault.field-0-is
    (c.in-Err-Fault.ensures.first c.requires.running))
