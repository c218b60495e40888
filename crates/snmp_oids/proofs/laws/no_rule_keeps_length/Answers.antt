use Rattle.snmp_oids.proofs.Lengths.{message_length}
use Rattle.snmp_oids.proofs.laws.no_rule_keeps_length.Goals as goal

pub returns : goal.returns
returns c = message_length
