use Rattle.std.proofs.Common.{sym, ◌∙◌}
use Rattle.snmp_oids.proofs.SubIdentifiers.{one_octet, numbers_stop, numbers_go, numbers_past, number_found, never_none, at_end}
use Rattle.snmp_oids.proofs.arcs.next_number.Goals as goal

pub returns-in_err-number-clause-none : goal.returns-in_err-number-clause-none
returns-in_err-number-clause-none c =
    never_none _ _ (sym c.loop-place.invariant ∙ numbers_stop c.loop-place.number c.args.octets.now c.loop-place.place c.joined.result
    c.loop-place-test.true c.joined.ensures c.in_err-number.was)

pub returns-then-octet-lt128-2-clause-found : goal.returns-then-octet-lt128-2-clause-found
returns-then-octet-lt128-2-clause-found c =
    number_found c.loop-place.number c.args.octets.now c.loop-place.place c.joined.result c.in_ok-number.number c.loop-place-test.true
    c.joined.ensures c.in_ok-number.was c.if-octet-lt128-2.true c.loop-place.invariant

pub loop-place-preserved : goal.loop-place-preserved
loop-place-preserved c =
    sym (numbers_go c.loop-place.number c.args.octets.now c.loop-place.place c.joined.result c.in_ok-number.number c.loop-place-test.true
    c.joined.ensures c.in_ok-number.was c.if-octet-lt128-2.false)
    ∙ c.loop-place.invariant

pub returns-2-clause-none : goal.returns-2-clause-none
returns-2-clause-none c =
    at_end c.loop-place.number _
    (sym c.loop-place.invariant ∙ numbers_past c.loop-place.number c.args.octets.now c.loop-place.place c.loop-place-test.false)

pub returns-clause-found : goal.returns-clause-found
returns-clause-found c = one_octet c.in-Some.octet.now c.from.result c.args.octets.now c.in-Some.rest.now c.in-Some.ensures.cases.0 c.from.ensures
    c.if-octet-lt128.true
