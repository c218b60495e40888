use Rattle.run_setup.specs.RunNames.{names_of}
use Rattle.gate_command.proofs.Answered.{done_run, answers_run}
use Rattle.gate_command.proofs.call.told_run.Goals as goal

pub returns-in-Ok : goal.returns-in-Ok
returns-in-Ok g c =
    done_run c.in-Ok.field-0 (names_of c.args.names) (g.D.Desk.outside c.args.desk.now)
    (g.D.Desk.outside c.run.new.desk) c.in-Ok.ensures.answer c.run.ensures.taken

pub returns-in-Err : goal.returns-in-Err
returns-in-Err g c =
    answers_run c.in-Err.status c.write_error_line.result (names_of c.args.names) (g.D.Desk.outside c.args.desk.now) (g.D.Desk.outside c.run.new.desk)
    (g.D.Desk.outside c.write_error_line.new.desk) c.in-Err.ensures.answer c.run.ensures.taken c.write_error_line.ensures
