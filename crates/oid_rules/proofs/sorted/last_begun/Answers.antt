use Rattle.std.proofs.Common.{◌<◌, ℕ, ◌∙◌, Option, IfSome, length, ap, sym, arith, subst}
use Rattle.oid_rules.specs.declared.sorted.Numbered.{Numbered}
use Rattle.oid_rules.specs.Sorted.{compared}
use Rattle.oid_rules.specs.Inside.Sorted.{Halves, IsLast}
use Rattle.oid_rules.proofs.Halving.{at_rule, beneath_last, beneath_outer, last_is, nothing_begun, outer_within, Beneath}
use Rattle.oid_rules.proofs.sorted.last_begun.Goals as goal

pub returns-in_err-last-clause-last : goal.returns-in_err-last-clause-last
returns-in_err-last-clause-last g c = λ arcs is.
    subst (IsLast (length c.args.outer.now) c.args.sorted.now arcs) (sym c.from_residual.ensures)
    (nothing_begun c.args.sorted.now (length c.args.outer.now) c.halved-count.result.0 arcs c.halved-count.result.1
    (omega (arith, c.in_err-last.ensures)) (c.halved-count.ensures.halved arcs is))

pub returns-then-begins-clause-last : goal.returns-then-begins-clause-last
returns-then-begins-clause-last g c = λ arcs is.
    let last = c.in_ok-last.ensures in
    let h = subst (Halves _ _ _ _ arcs) c.if-begins.true (c.halved-count.ensures.halved arcs is) in
    last_is c.args.sorted.now _ _ c.in_ok-last.last arcs (omega (arith, last)) c.halved-count.ensures.within h

pub loop-place-init : goal.loop-place-init
loop-place-init g c =
    let last = c.in_ok-last.ensures in
    let outer = c.requires.outer c.in_ok-last.last (omega (arith, last)) in
    record {
      within = outer_within c.args.sorted.now _ c.in_ok-last.last _ (omega (arith, last)) outer;
      beneath = λ arcs is. beneath_last c.args.sorted.now _ _ _ c.in_ok-last.last arcs (omega (arith, last)) c.halved-count.ensures.within
          c.requires.within c.requires.order outer (subst (Halves _ _ _ _ arcs) c.if-begins.false (c.halved-count.ensures.halved arcs is));
    }

pub loop-place-preserved : goal.loop-place-preserved
loop-place-preserved g c =
    let here = subst (λ (p : Option ℕ). IfSome p (λ at. at < length c.args.outer.now)) c.in-Some.is c.loop-place.invariant.within in
    let outer = c.requires.outer c.in-Some.at here in
    record {
      within = outer_within c.args.sorted.now _ c.in-Some.at _ here outer;
      beneath = λ arcs is.
          let old = subst (Beneath c.args.sorted.now (length c.args.outer.now) arcs) c.in-Some.is (c.loop-place.invariant.beneath arcs is) in
          let asked = c.compare.ensures arcs is ∙ ap (λ (n : Numbered). compared arcs n.rule.prefix)
          (at_rule c.args.sorted.now c.in-Some.at c.index-sorted-at.result (omega arith)) in
          beneath_outer c.args.sorted.now _ c.in-Some.at (length c.args.outer.now) arcs c.requires.order here c.requires.within outer old.below
          (λ b. c.in_default-compare.not-Begins (asked ∙ b)) (λ k m o. old.others k o m);
    }

pub returns-in-Begins-clause-last : goal.returns-in-Begins-clause-last
returns-in-Begins-clause-last g c = λ arcs is.
    let here = subst (λ (p : Option ℕ). IfSome p (λ at. at < length c.args.outer.now)) c.in-Some.is c.loop-place.invariant.within in
    let old = subst (Beneath c.args.sorted.now (length c.args.outer.now) arcs) c.in-Some.is (c.loop-place.invariant.beneath arcs is) in
    let asked = c.in-Begins.ensures arcs is ∙ ap (λ (n : Numbered). compared arcs n.rule.prefix)
    (at_rule c.args.sorted.now c.in-Some.at c.index-sorted-at.result (omega arith)) in
    (here, sym asked, λ k m o. old.others k o m)

pub returns-clause-last : goal.returns-clause-last
returns-clause-last g c = λ arcs is k l.
    let old = subst (Beneath c.args.sorted.now (length c.args.outer.now) arcs) c.in_default.is (c.loop-place.invariant.beneath arcs is) in
    old.others k l tt
