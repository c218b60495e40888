use Rattle.std.proofs.Common.{List, subst, arith}
use Rattle.std.proofs.lemmas.Result.{err_from_is_err_and}
use Rattle.dns_messages.specs.declared.message.Resource.{Resource}
use Rattle.dns_messages.proofs.Wrote.{Left, Left-stops, resources-item}
use Rattle.dns_messages.proofs.writing.put_resources.Goals as goal

pub returns-in_err-put_resource-clause-text : goal.returns-in_err-put_resource-clause-text
returns-in_err-put_resource-clause-text c =
    let p = err_from_is_err_and c.from_residual.result c.from_residual.ensures.1 in
    let item = resources-item c.args.resources.now c.loop-resource.resource-index c.resource-item.result (omega arith) c.resource-item.is in
    let left = subst (λ (rs : List Resource). Left c.args.writer.now c.loop-resource.writer rs c.args.resources.now) item
    c.loop-resource.invariant.0 in
    rw (p.1, p.2) (Left-stops c.in_err-put_resource.field-0.0 c.args.writer.now c.loop-resource.writer _ _ _ left c.in_err-put_resource.ensures.text)
