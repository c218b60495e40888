use Rattle.std.proofs.Common.{◌∙◌, sym}
use Rattle.snmp_gateway.proofs.Reading.{behind_next, behind_fails, behind_none}
use Rattle.snmp_gateway.proofs.part.behind_fields.Goals as goal

pub returns-in_err-rest : goal.returns-in_err-rest
returns-in_err-rest c =
    c.from_residual.ensures
    ∙ sym (behind_fails c.args.octets.now c.args.tags.now c.loop-tag.rest c.loop-tag.tag-index c.field.result c.loop-tag-test.true c.field.ensures
    c.in_err-rest.was)
    ∙ c.loop-tag.invariant

pub loop-tag-preserved : goal.loop-tag-preserved
loop-tag-preserved c =
    sym (behind_next c.args.octets.now c.args.tags.now c.loop-tag.rest c.loop-tag.tag-index c.field.result c.in_ok-rest.field-0 c.loop-tag-test.true
    c.field.ensures c.in_ok-rest.was)
    ∙ c.loop-tag.invariant

pub returns : goal.returns
returns c =
    sym (behind_none c.args.octets.now c.args.tags.now c.loop-tag.rest c.loop-tag.tag-index c.loop-tag-test.false)
    ∙ c.loop-tag.invariant
