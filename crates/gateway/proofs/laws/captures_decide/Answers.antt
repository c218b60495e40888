use Rattle.gateway.proofs.Decided.{settings_decide, ends_decide, fault_decides, make_decided}
use Rattle.gateway.proofs.laws.captures_decide.Goals as goal

pub returns-clause-settings : goal.returns-clause-settings
returns-clause-settings c = settings_decide

pub returns-clause-ended : goal.returns-clause-ended
returns-clause-ended c = ends_decide

pub returns-clause-refused : goal.returns-clause-refused
returns-clause-refused c = fault_decides

pub returns-clause-make : goal.returns-clause-make
returns-clause-make c = make_decided
