use Rattle.gateway_audit.proofs.Decided.{settings_decide, lawful_decides, reason_decides, fault_decides}
use Rattle.gateway_audit.proofs.laws.files_decide.Goals as goal

pub returns-clause-settings : goal.returns-clause-settings
returns-clause-settings c = settings_decide

pub returns-clause-lawful : goal.returns-clause-lawful
returns-clause-lawful c = lawful_decides

pub returns-clause-unlawful : goal.returns-clause-unlawful
returns-clause-unlawful c = reason_decides

pub returns-clause-refused : goal.returns-clause-refused
returns-clause-refused c = fault_decides
