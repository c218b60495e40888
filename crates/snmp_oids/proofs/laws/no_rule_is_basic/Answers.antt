use Rattle.snmp_oids.proofs.Messages.{no_rule}
use Rattle.snmp_oids.proofs.laws.no_rule_is_basic.Goals as goal

pub returns : goal.returns
returns c = no_rule
