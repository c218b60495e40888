-- What sorted rules keep.
use Rattle.std.specs.Prelude.{◌≡◌, length}
use Rattle.oid_rules.specs.declared.sorted.SortedRules.TheInside.{Inside}
use Rattle.oid_rules.specs.Inside.Sorted.{AreSorted, AreOuter, AreTried}

-- the list in order, with the outer rules and what is tried
pub record IsSorted (rules : Inside) : Type 0 where
  pub sorted : AreSorted rules.items.items rules.sorted.items
  pub outer : AreOuter rules.sorted.items rules.outer.items
  pub all : length rules.outer.items ≡ length rules.sorted.items
  pub tried : AreTried rules.sorted.items rules.tried.items
  pub every : length rules.tried.items ≡ length rules.sorted.items
