use Rattle.std.proofs.Common.{map, string_bytes}
use Rattle.run_setup.specs.Prelude.{command_of}
use Rattle.file_desk.specs.Untold.{told_by}
use Rattle.gate_command.proofs.Codes.{finished_code}
use Rattle.gate_command.proofs.program.carry_out.Goals as goal

pub returns-clause-code : goal.returns-clause-code
returns-clause-code g c =
    finished_code c.exit_status-code.result c.finish.result (command_of (map string_bytes c.args.words.now)) (told_by c.args.desk.now)
    (told_by c.exit_status-code.new.desk) c.exit_status-code.new.desk c.finish.new.desk c.exit_status-code.ensures c.finish.ensures
