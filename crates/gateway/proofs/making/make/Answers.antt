use Rattle.gate_desk.specs.declared.slot.Slot.TheVariants.{Report}
use Rattle.gate_desk.specs.declared.slot.Access.TheVariants.{Write}
use Rattle.gate_desk.proofs.Laws.{can_write_started}
use Rattle.run_setup.proofs.Causes.{opens_one}
use Rattle.gateway.proofs.Makes.{not_made, made, not_written}
use Rattle.gateway.proofs.making.make.Goals as goal

pub returns-in-Err-rehearse : goal.returns-in-Err-rehearse
returns-in-Err-rehearse g c =
    let old = g.D.Desk.outside c.args.desk.now in
    let mid = g.D.Desk.outside c.start.new.self in
    not_made c.in-Err-rehearse.status c.args.number c.args.count c.args.report.now old mid c.in-Err-rehearse.ensures
    (opens_one Report c.args.report.now Write old mid c.in-Ok.ensures.ok c.in-Ok.ensures.leaves)

pub put_line-requires : goal.put_line-requires
put_line-requires g c =
    can_write_started Report c.args.report.now (g.D.Desk.outside c.args.desk.now) (g.D.Desk.outside c.start.new.self) c.in-Ok.ensures.ok

pub returns-in-Ok-put_line : goal.returns-in-Ok-put_line
returns-in-Ok-put_line g c =
    let old = g.D.Desk.outside c.args.desk.now in
    let mid = g.D.Desk.outside c.start.new.self in
    made c.in-Ok-rehearse.line c.args.number c.args.count c.args.report.now old mid (g.D.Desk.outside c.put_line.new.desk)
    (opens_one Report c.args.report.now Write old mid c.in-Ok.ensures.ok c.in-Ok.ensures.leaves) c.in-Ok-rehearse.ensures
    c.in-Ok-put_line.ensures.answer

pub returns : goal.returns
returns g c =
    let old = g.D.Desk.outside c.args.desk.now in
    let mid = g.D.Desk.outside c.start.new.self in
    not_written c.in-Err-put_line.status c.in-Ok-rehearse.line c.args.number c.args.count c.args.report.now old mid
    (g.D.Desk.outside c.put_line.new.desk) (opens_one Report c.args.report.now Write old mid c.in-Ok.ensures.ok c.in-Ok.ensures.leaves)
    c.in-Ok-rehearse.ensures c.in-Err-put_line.ensures.status c.in-Err-put_line.ensures.answer
