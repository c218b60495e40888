use Rattle.snmp_gateway.proofs.Whole.{places_apart}
use Rattle.snmp_gateway.proofs.message.addresses.Goals as goal

pub returns-in_default-clause-apart : goal.returns-in_default-clause-apart
returns-in_default-clause-apart c = places_apart c.args.octets.now

pub returns-in-Ok-clause-apart : goal.returns-in-Ok-clause-apart
returns-in-Ok-clause-apart c = places_apart c.args.octets.now

pub returns-in-Err-clause-apart : goal.returns-in-Err-clause-apart
returns-in-Err-clause-apart c = places_apart c.args.octets.now
