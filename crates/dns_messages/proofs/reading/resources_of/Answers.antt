use Rattle.std.proofs.Common.{◌≡◌, ◌∙◌, Some, ℕ, List, subst}
use Rattle.std.proofs.lemmas.Result.{err_from_is_err_and}
use Rattle.dns_names.specs.Prelude.{Fails}
use Rattle.dns_messages.specs.Reading.{resource_at, resources_at}
use Rattle.dns_messages.proofs.Loop.{goes_on, ends, is_done}
use Rattle.dns_messages.proofs.reading.resources_of.Goals as goal

pub returns-in_err-resource-clause-reads : goal.returns-in_err-resource-clause-reads
returns-in_err-resource-clause-reads c =
    let m = c.args.reader.now in
    let p = err_from_is_err_and c.from_residual.result c.from_residual.ensures.1 in
    let stopped = subst (λ (o : List ℕ). Fails c.in_err-resource.field-0.0 (resource_at o c.loop.at)) c.loop.invariant.1
    c.in_err-resource.ensures.reads in
    rw (p.1, p.2) (ends c.in_err-resource.field-0.0 c.loop.resources.items c.args.count c.loop.counter m c.loop.at
    (resources_at c.args.count m c.args.place) c.loop-test.true stopped c.loop.invariant.0)

pub loop-preserved : goal.loop-preserved
loop-preserved c =
    let m = c.args.reader.now in
    let read = subst (λ (o : List ℕ). resource_at o c.loop.at ≡ Some (c.in_ok-resource.resource, c.in_ok-resource.after)) c.loop.invariant.1
    c.in_ok-resource.ensures.reads in (
      rw c.in_ok-push.ensures.items
          (goes_on c.loop.resources.items c.args.count c.loop.counter m c.loop.at c.in_ok-resource.resource c.in_ok-resource.after
          (resources_at c.args.count m c.args.place) c.loop-test.true read c.loop.invariant.0),
      c.in_ok-resource.ensures.stays ∙ c.loop.invariant.1,
    )

pub returns-clause-reads : goal.returns-clause-reads
returns-clause-reads c =
    is_done c.loop.resources.items c.args.count c.loop.counter c.args.reader.now c.loop.at (resources_at c.args.count c.args.reader.now c.args.place)
    c.loop-test.false c.loop.invariant.0
