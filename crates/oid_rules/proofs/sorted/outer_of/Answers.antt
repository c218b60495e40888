use Rattle.std.proofs.Common.{◌≡◌, ◌∙◌, ap, sym, arith, length, length-append, subst, List, [], ◌∷◌, ℕ, Option, refl}
use Rattle.oid_rules.specs.declared.sorted.Numbered.{Numbered}
use Rattle.oid_rules.specs.Inside.Sorted.{AreOuter, IsLast}
use Rattle.oid_rules.proofs.Halving.{at_rule, arcs_at, one_more}
use Rattle.oid_rules.proofs.sorted.outer_of.Goals as goal

pub loop-one-preserved : goal.loop-one-preserved
loop-one-preserved c =
    let sorted = c.args.sorted.now in
    let outer = c.loop-one.outer.items in
    let all : length outer ≡ c.loop-one.one-index = c.loop-one.invariant.all in
    let arcs = c.items.ensures ∙ ap (λ (n : Numbered). n.rule.prefix)
    (c.one-item.is ∙ at_rule sorted c.loop-one.one-index c.one-item.result (omega arith)) ∙ ap (arcs_at sorted) (sym all) in
    let last = subst (λ (xs : List (Option ℕ)). IsLast (length xs) sorted (arcs_at sorted (length outer)) c.last_begun.result) c.deref.ensures.value
    (subst (λ (xs : List ℕ). IsLast (length c.deref.result.now) sorted xs c.last_begun.result) arcs (c.last_begun.ensures.last _ refl)) in
    record {
      outer = subst (AreOuter sorted) (sym c.in_ok-push.ensures.items) (one_more sorted outer c.last_begun.result c.loop-one.invariant.outer last);
      all = omega (arith, ap length c.in_ok-push.ensures.items, length-append outer (c.last_begun.result ∷ []));
    }
