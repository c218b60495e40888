use Rattle.gate_command.proofs.Makes.{answers_make}
use Rattle.gate_command.proofs.call.told_make.Goals as goal

pub returns-in_default : goal.returns-in_default
returns-in_default g c =
    answers_make c.make.result c.write_error_line.result c.args.number c.args.count c.args.report.now (g.D.Desk.outside c.args.desk.now)
    (g.D.Desk.outside c.make.new.desk)
    (g.D.Desk.outside c.write_error_line.new.desk) c.in_default.not-Done c.make.ensures c.write_error_line.ensures
