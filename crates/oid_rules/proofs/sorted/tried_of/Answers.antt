use Rattle.std.proofs.Common.{ap, sym, arith, length, length-append, subst, [], ◌∷◌}
use Rattle.oid_rules.specs.Inside.Sorted.{AreTried, IsTried}
use Rattle.oid_rules.proofs.Tried.{one_more_tried}
use Rattle.oid_rules.proofs.sorted.tried_of.Goals as goal

pub tried_at-requires-clause-tried : goal.tried_at-requires-clause-tried
tried_at-requires-clause-tried c = subst (AreTried c.args.sorted.now) (sym c.deref.ensures.value) c.loop-at.invariant.tried

pub loop-at-preserved : goal.loop-at-preserved
loop-at-preserved c =
    let tried = c.loop-at.tried.items in
    record {
      tried = subst (AreTried c.args.sorted.now) (sym c.in_ok-push.ensures.items)
          (one_more_tried c.args.sorted.now tried c.in_ok-tried_at.field-0 c.loop-at.invariant.tried
          (subst (λ n. IsTried c.args.sorted.now n c.in_ok-tried_at.field-0) (sym c.loop-at.invariant.every) c.in_ok-tried_at.ensures));
      every = omega (arith, ap length c.in_ok-push.ensures.items, length-append tried (c.in_ok-tried_at.field-0 ∷ []), c.loop-at.invariant.every);
    }
