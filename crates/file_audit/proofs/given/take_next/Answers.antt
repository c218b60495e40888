use Rattle.file_audit.proofs.TakenFiles.{next_left, next_right, records_some, some_left, some_right}
use Rattle.file_audit.proofs.given.take_next.Goals as goal

pub returns-in-Left-clause-answer : goal.returns-in-Left-clause-answer
returns-in-Left-clause-answer g c =
    rw c.in-Left.is (next_right c.take_records.result c.args.frames c.args.given.now c.take_records.new.reader c.args.auditor.now
    c.take_records.new.auditor
    (g.D.Desk.outside c.args.desk.now) (g.D.Desk.outside c.take_records.new.desk) c.requires.running c.take_records.ensures.takes)

pub returns-in-Left-clause-reads : goal.returns-in-Left-clause-reads
returns-in-Left-clause-reads g c =
    some_right c.args.given.now.right _ _ c.requires.running.right_slot (records_some c.take_records.result c.args.frames c.args.given.now.right
    c.take_records.new.reader c.args.auditor.now c.take_records.new.auditor (g.D.Desk.outside c.args.desk.now)
    (g.D.Desk.outside c.take_records.new.desk)
    c.take_records.ensures.takes)

pub returns-in-Right-clause-answer : goal.returns-in-Right-clause-answer
returns-in-Right-clause-answer g c =
    rw c.in-Right.is (next_left c.take_records-in-Right.result c.args.frames c.args.given.now c.take_records-in-Right.new.reader c.args.auditor.now
    c.take_records-in-Right.new.auditor (g.D.Desk.outside c.args.desk.now) (g.D.Desk.outside c.take_records-in-Right.new.desk) c.requires.running
    c.take_records-in-Right.ensures.takes)

pub returns-in-Right-clause-reads : goal.returns-in-Right-clause-reads
returns-in-Right-clause-reads g c =
    some_left c.args.given.now.left _ _ c.requires.running.left_slot (records_some c.take_records-in-Right.result c.args.frames c.args.given.now.left
    c.take_records-in-Right.new.reader c.args.auditor.now c.take_records-in-Right.new.auditor (g.D.Desk.outside c.args.desk.now)
    (g.D.Desk.outside c.take_records-in-Right.new.desk) c.take_records-in-Right.ensures.takes)
