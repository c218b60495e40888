use Rattle.runs_are_lawful.proofs.Outputs.{done, faulty, stands_written}
use Rattle.runs_are_lawful.proofs.laws.own_files_are_lawful.Goals as goal

pub returns-clause-done : goal.returns-clause-done
returns-clause-done c = done

pub returns-clause-faulty : goal.returns-clause-faulty
returns-clause-faulty c = faulty

pub returns-clause-written : goal.returns-clause-written
returns-clause-written c = stands_written
