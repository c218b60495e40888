use Rattle.std.proofs.Common.{Err, subst, sym}
use Rattle.pcap_merge.specs.Prelude.{Readies, ReadsSide, StopLeavesCounts, stop_of}
use Rattle.pcap_merge.proofs.Counts.{leaves_stopped}
use Rattle.pcap_merge.proofs.Reading.{not_read, was_read, has_stopped}
use Rattle.pcap_merge.proofs.sides.read_side.Goals as goal

pub returns-then-not-unread-clause-reads : goal.returns-then-not-unread-clause-reads
returns-then-not-unread-clause-reads g c =
    let old = g.D.Desk.outside c.args.desk.now in
    subst (λ unread. Readies c.args.side unread c.args.reader.now c.args.reader.now old old) (sym c.if-not-unread.true)
    (not_read c.args.side c.args.reader.now old c.requires.running)

pub returns-in-Ok-clause-reads : goal.returns-in-Ok-clause-reads
returns-in-Ok-clause-reads g c =
    let old = g.D.Desk.outside c.args.desk.now in
    let new = g.D.Desk.outside c.advance.new.desk in
    subst (λ unread. Readies c.args.side unread c.args.reader.now c.advance.new.self old new) (sym c.if-not-unread.false)
    (was_read c.args.side c.in-Ok.field-0 _ _ _ _ c.requires.running c.requires.slot (c.in-Ok.ensures.first c.requires.running))

pub returns-in-Err-clause-reads : goal.returns-in-Err-clause-reads
returns-in-Err-clause-reads g c =
    let old = g.D.Desk.outside c.args.desk.now in
    let new = g.D.Desk.outside c.advance.new.desk in
    let stopped = has_stopped c.args.side c.in-Err.stop _ _ old new c.requires.slot (c.in-Err.ensures.first c.requires.running) in
    subst (λ stop. ReadsSide (Err stop) c.args.side c.args.unread c.args.reader.now c.advance.new.self old new) (sym c.stop_of.ensures)
    (subst (λ unread. ReadsSide (Err (stop_of c.args.side c.in-Err.stop)) c.args.side unread c.args.reader.now c.advance.new.self old new)
    (sym c.if-not-unread.false) stopped)

pub returns-in-Err-clause-leaves : goal.returns-in-Err-clause-leaves
returns-in-Err-clause-leaves g c =
    let old = g.D.Desk.outside c.args.desk.now in
    let new = g.D.Desk.outside c.advance.new.desk in
    subst (λ stop. StopLeavesCounts stop old new) (sym c.stop_of.ensures) (leaves_stopped c.args.side c.in-Err.stop old new c.in-Err.ensures.leaves)
