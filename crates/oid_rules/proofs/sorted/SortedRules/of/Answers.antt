use Rattle.std.proofs.Common.{◌∙◌, ap, length, List, subst, sym}
use Rattle.gate_base.specs.declared.rule.OidRule.{OidRule}
use Rattle.oid_rules.specs.declared.sorted.Numbered.{Numbered}
use Rattle.oid_rules.specs.Inside.Sorted.{AreOuter, AreSorted, AreTried}
use Rattle.oid_rules.proofs.sorted.SortedRules.of.Goals as goal

pub invariant_of-result : goal.invariant_of-result
invariant_of-result c = record {
  sorted = subst (λ (rules : List OidRule). AreSorted rules c.in_ok-sorted.sorted.items) (sym c.in_ok-copied.ensures) c.in_ok-sorted.ensures;
  outer = subst (λ (sorted : List Numbered). AreOuter sorted c.in_ok-outer.outer.items) c.deref.ensures.value c.in_ok-outer.ensures.outer;
  all = c.in_ok-outer.ensures.all ∙ ap length c.deref.ensures.value;
  tried = subst (λ (sorted : List Numbered). AreTried sorted c.in_ok-tried.tried.items) c.deref-2.ensures.value c.in_ok-tried.ensures.tried;
  every = c.in_ok-tried.ensures.every ∙ ap length c.deref-2.ensures.value;
}
