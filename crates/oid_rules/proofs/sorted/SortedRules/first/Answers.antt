use Rattle.std.proofs.Common.{List, subst, sym}
use Rattle.oid_rules.specs.declared.sorted.Numbered.{Numbered}
use Rattle.oid_rules.specs.Inside.Sorted.{AreTried}
use Rattle.oid_rules.proofs.sorted.SortedRules.first.Goals as goal

pub first_of-requires-clause-tried : goal.first_of-requires-clause-tried
first_of-requires-clause-tried g c = subst (λ (sorted : List Numbered). AreTried sorted c.deref-3.result.now) (sym c.deref.ensures.value)
    (subst (AreTried c.self.inside.sorted.items) (sym c.deref-3.ensures.value) c.self.invariant.tried)
