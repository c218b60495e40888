use Rattle.std.proofs.Common.{Err, subst, sym}
use Rattle.gate_base.specs.declared.side.Side.TheVariants.{Left, Right}
use Rattle.pcap_merge.specs.Prelude.{Begins, StopLeavesCounts, stop_of}
use Rattle.pcap_merge.proofs.Counts.{leaves_stopped, stop_leaves_on}
use Rattle.pcap_merge.proofs.Starts.{stops_left, stops_right, begins}
use Rattle.pcap_merge.proofs.merge.Merge.begin.Goals as goal

pub returns-in-Err-clause-begins : goal.returns-in-Err-clause-begins
returns-in-Err-clause-begins g c =
    let old = g.D.Desk.outside c.args.desk.now in
    let new = g.D.Desk.outside c.begin.new.desk in
    subst (λ stop. Begins (Err stop) old new) (sym c.stop_of.ensures) (stops_left c.in-Err.stop old new c.in-Err.ensures.begins)

pub returns-in-Err-begin-clause-begins : goal.returns-in-Err-begin-clause-begins
returns-in-Err-begin-clause-begins g c =
    let old = g.D.Desk.outside c.args.desk.now in
    let new = g.D.Desk.outside c.begin-2.new.desk in
    subst (λ stop. Begins (Err stop) old new) (sym c.stop_of-in-Err-begin.ensures)
    (stops_right c.in-Err-begin.stop c.in-Ok.left old (g.D.Desk.outside c.begin.new.desk) new c.in-Ok.ensures.begins c.in-Err-begin.ensures.begins)

pub returns-clause-begins : goal.returns-clause-begins
returns-clause-begins g c =
    begins c.in-Ok.left c.in-Ok-begin.right (g.D.Desk.outside c.args.desk.now) (g.D.Desk.outside c.begin.new.desk)
    (g.D.Desk.outside c.begin-2.new.desk) c.in-Ok.ensures.begins c.in-Ok-begin.ensures.begins

pub returns-in-Err-clause-leaves : goal.returns-in-Err-clause-leaves
returns-in-Err-clause-leaves g c =
    let old = g.D.Desk.outside c.args.desk.now in
    let new = g.D.Desk.outside c.begin.new.desk in
    subst (λ stop. StopLeavesCounts stop old new) (sym c.stop_of.ensures) (leaves_stopped Left c.in-Err.stop old new c.in-Err.ensures.leaves)

pub returns-in-Err-begin-clause-leaves : goal.returns-in-Err-begin-clause-leaves
returns-in-Err-begin-clause-leaves g c =
    let old = g.D.Desk.outside c.args.desk.now in
    let mid = g.D.Desk.outside c.begin.new.desk in
    let new = g.D.Desk.outside c.begin-2.new.desk in
    subst (λ stop. StopLeavesCounts stop old new) (sym c.stop_of-in-Err-begin.ensures)
    (stop_leaves_on (stop_of Right c.in-Err-begin.stop) old mid new c.in-Ok.ensures.leaves
    (leaves_stopped Right c.in-Err-begin.stop mid new c.in-Err-begin.ensures.leaves))
