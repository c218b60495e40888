use Rattle.std.proofs.Common.{◌≡◌, ◌∙◌, ap, arith, refl, subst}
use Rattle.oid_rules.specs.declared.sorted.Compared.TheVariants.{Begins}
use Rattle.oid_rules.specs.declared.sorted.Numbered.{Numbered}
use Rattle.oid_rules.specs.Sorted.{compared}
use Rattle.oid_rules.specs.Inside.Sorted.{Halves}
use Rattle.oid_rules.proofs.Halving.{at_rule, half_above, half_below}
use Rattle.oid_rules.proofs.sorted.halved.Goals as goal

pub loop-low-preserved-in-Before : goal.loop-low-preserved-in-Before
loop-low-preserved-in-Before g c =
    let one = at_rule c.args.sorted.now _ c.index-sorted-middle.result (omega arith) in
    record {
      low = omega arith;
      high = omega arith;
      halves = λ arcs is. half_above c.args.sorted.now c.args.count c.loop-low.low c.loop-low.high _ arcs c.loop-low.begins c.requires.order
          c.requires.within
          (c.in-Before.ensures arcs is ∙ ap (λ (n : Numbered). compared arcs n.rule.prefix) one) (c.loop-low.invariant.halves arcs is);
    }

pub loop-low-preserved-in-Begins : goal.loop-low-preserved-in-Begins
loop-low-preserved-in-Begins g c =
    let one = at_rule c.args.sorted.now _ c.index-sorted-middle.result (omega arith) in
    record {
      low = omega arith;
      high = c.loop-low.invariant.high;
      halves = λ arcs is. half_below c.args.sorted.now c.args.count c.loop-low.low c.loop-low.high _ arcs c.loop-low.begins _ _ c.requires.order
          (omega arith) c.loop-low.invariant.high c.requires.within
          (c.in-Begins.ensures arcs is ∙ ap (λ (n : Numbered). compared arcs n.rule.prefix) one) (λ e. cc)
          (λ e. let same : Begins ≡ Begins = refl in same) (λ e. cc) (c.loop-low.invariant.halves arcs is);
    }

pub loop-low-preserved : goal.loop-low-preserved
loop-low-preserved g c =
    let one = at_rule c.args.sorted.now _ c.index-sorted-middle.result (omega arith) in
    record {
      low = omega arith;
      high = c.loop-low.invariant.high;
      halves = λ arcs is. half_below c.args.sorted.now c.args.count c.loop-low.low c.loop-low.high _ arcs c.loop-low.begins _ _ c.requires.order
          (omega arith) c.loop-low.invariant.high c.requires.within
          (c.in-Behind.ensures arcs is ∙ ap (λ (n : Numbered). compared arcs n.rule.prefix) one) (λ e. cc) (λ e. cc) (λ e b. cc)
          (c.loop-low.invariant.halves arcs is);
    }

pub returns-clause-halved : goal.returns-clause-halved
returns-clause-halved g c = λ arcs is. subst (λ n. Halves c.args.count c.loop-low.low n c.args.sorted.now arcs c.loop-low.begins)
    (let e : c.loop-low.high ≡ c.loop-low.low = omega arith in e) (c.loop-low.invariant.halves arcs is)
