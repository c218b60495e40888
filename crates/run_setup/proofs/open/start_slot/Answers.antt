use Rattle.run_setup.proofs.Causes.{opens_one, open_fails}
use Rattle.run_setup.proofs.open.start_slot.Goals as goal

pub returns-in-Ok-clause-answer : goal.returns-in-Ok-clause-answer
returns-in-Ok-clause-answer g c =
    opens_one c.args.slot c.args.name.now c.args.access (g.D.Desk.outside c.args.desk.now)
    (g.D.Desk.outside c.start.new.self) c.in-Ok.ensures.ok c.in-Ok.ensures.leaves

pub returns-in-Err-clause-answer : goal.returns-in-Err-clause-answer
returns-in-Err-clause-answer g c =
    open_fails c.args.slot c.args.name.now c.args.access (g.D.Desk.outside c.args.desk.now)
    (g.D.Desk.outside c.start.new.self) c.requires c.in-Err.ensures.err
