use Rattle.std.proofs.Common.{sym, ◌∙◌}
use Rattle.snmp_gateway.proofs.Reading.{no_outline}
use Rattle.snmp_gateway.proofs.Walk.{checks_first}
use Rattle.snmp_gateway.proofs.message.check.Goals as goal

pub returns-in_err-ahead : goal.returns-in_err-ahead
returns-in_err-ahead c = c.from_residual.ensures ∙ sym (no_outline c.args.octets.now (sym c.outline_of.ensures ∙ c.in_err-ahead.was))

pub loop-init : goal.loop-init
loop-init c = checks_first c.args.octets.now c.in_ok-ahead.ahead (sym c.outline_of.ensures ∙ c.in_ok-ahead.was)
