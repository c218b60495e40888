use Rattle.std.proofs.Common.{refl, inr, subst}
use Rattle.gate_desk.specs.declared.slot.Slot.TheVariants.{Report}
use Rattle.gate_desk.specs.Outside.{Writes, WritesPart}
use Rattle.gateway.proofs.Causes.{gives_one, give_fails}
use Rattle.gateway.proofs.report.put_line.Goals as goal

pub returns-in-Ok-write_whole : goal.returns-in-Ok-write_whole
returns-in-Ok-write_whole g c =
    let old = g.D.Desk.outside c.args.desk.now in
    let new = g.D.Desk.outside c.write_whole.new.desk in
    record {
      answer =
          gives_one Report _ old new
          (subst (λ xs. Writes Report xs old new) c.in-Ok.ensures.line c.in-Ok-write_whole.ensures.ok) c.in-Ok-write_whole.ensures.leaves;
      status = tt;
    }

pub returns-in-Err-write_whole : goal.returns-in-Err-write_whole
returns-in-Err-write_whole g c =
    let old = g.D.Desk.outside c.args.desk.now in
    let new = g.D.Desk.outside c.write_whole.new.desk in
    record {
      answer =
          give_fails Report _ old new refl
          (subst (λ xs. WritesPart Report xs old new) c.in-Ok.ensures.line c.in-Err-write_whole.ensures.err) c.in-Err-write_whole.ensures.cause;
      status = inr refl;
    }
