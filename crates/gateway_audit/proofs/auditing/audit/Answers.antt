use Rattle.std.proofs.Common.{refl}
use Rattle.gate_desk.specs.declared.slot.Slot.TheVariants.{Report}
use Rattle.gate_desk.specs.declared.slot.Access.TheVariants.{Write}
use Rattle.run_setup.proofs.Causes.{access_of}
use Rattle.run_setup.specs.AuditNames.{names_of, plan}
use Rattle.gateway_audit.proofs.Judging.{said, took_said}
use Rattle.gateway_audit.proofs.auditing.audit.Goals as goal

pub write_verdict-requires : goal.write_verdict-requires
write_verdict-requires g c =
    access_of Report Write (plan (names_of c.args.names)) (g.D.Desk.outside c.args.desk.now)
    (g.D.Desk.outside c.audit_files.new.desk) c.in-Ok.ensures.answer.starts (λ w. refl)

pub returns-in-Ok-clause-answer : goal.returns-in-Ok-clause-answer
returns-in-Ok-clause-answer g c =
    said c.write_verdict.result c.in-Ok.verdict (names_of c.args.names) (g.D.Desk.outside c.args.desk.now) (g.D.Desk.outside c.audit_files.new.desk)
    (g.D.Desk.outside c.write_verdict.new.desk) c.in-Ok.ensures.answer c.write_verdict.ensures

pub returns-in-Ok-clause-taken : goal.returns-in-Ok-clause-taken
returns-in-Ok-clause-taken g c =
    took_said c.write_verdict.result c.in-Ok.verdict (g.D.Desk.outside c.args.desk.now) (g.D.Desk.outside c.audit_files.new.desk)
    (g.D.Desk.outside c.write_verdict.new.desk) c.write_verdict.ensures c.in-Ok.ensures.taken
