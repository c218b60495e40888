use Rattle.std.proofs.Common.{arith, ◌∙◌, sym}
use Rattle.snmp_gateway.specs.declared.part.TheConstants.{INTEGER}
use Rattle.snmp_gateway.proofs.Reading.{field_cut}
use Rattle.snmp_gateway.proofs.outline.outline_of.Goals as goal

pub overflow_sub-version : goal.overflow_sub-version
overflow_sub-version c =
    (field_cut c.args.octets.now INTEGER c.in_ok-content.content c.in_ok-version.version (sym c.field.ensures ∙ c.in_ok-version.was)).content

pub bounds-octets-version : goal.bounds-octets-version
bounds-octets-version c =
    let cut = field_cut c.args.octets.now INTEGER c.in_ok-content.content c.in_ok-version.version (sym c.field.ensures ∙ c.in_ok-version.was) in
    omega (arith, cut.content, cut.next, cut.rest, cut.end, cut.within, c.if-version-ne1.false)
