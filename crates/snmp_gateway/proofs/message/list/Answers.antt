use Rattle.std.proofs.Common.{sym, ◌∙◌}
use Rattle.snmp_gateway.proofs.Whole.{no_message, some_kind}
use Rattle.snmp_gateway.proofs.Walk.{lists_first}
use Rattle.snmp_gateway.proofs.message.list.Goals as goal

pub returns-in_default-clause-all : goal.returns-in_default-clause-all
returns-in_default-clause-all c =
    absurd (no_message c.args.octets.now (sym c.outline_of.ensures ∙ c.in_default.is) (some_kind c.args.octets.now c.requires.message))

pub loop-place-init : goal.loop-place-init
loop-place-init c = lists_first c.args.octets.now c.args.places.now.items c.in-Some.ahead (sym c.outline_of.ensures ∙ c.in-Some.is)
    (some_kind c.args.octets.now c.requires.message)
