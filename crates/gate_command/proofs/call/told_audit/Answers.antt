use Rattle.run_setup.specs.AuditNames.{names_of as audit_names_of}
use Rattle.gate_command.proofs.Audited.{answers_audit}
use Rattle.gate_command.proofs.call.told_audit.Goals as goal

pub returns-in_default : goal.returns-in_default
returns-in_default g c =
    answers_audit c.audit.result c.write_error_line.result (audit_names_of c.args.names) (g.D.Desk.outside c.args.desk.now)
    (g.D.Desk.outside c.audit.new.desk) (g.D.Desk.outside c.write_error_line.new.desk) c.in_default.not-Done c.in_default.not-Unlawful
    c.audit.ensures.answer c.audit.ensures.taken c.write_error_line.ensures

pub returns-in-Done : goal.returns-in-Done
returns-in-Done g c = record { audit = c.in-Done.ensures.answer; taken = c.in-Done.ensures.taken }

pub returns-in-Unlawful : goal.returns-in-Unlawful
returns-in-Unlawful g c = record { audit = c.in-Unlawful.ensures.answer; taken = c.in-Unlawful.ensures.taken }
