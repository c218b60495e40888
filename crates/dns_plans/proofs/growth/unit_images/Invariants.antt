use Rattle.std.specs.Prelude.{◌++◌}
use Rattle.std.specs.Vec.Iter.{into_iter_items}
use Rattle.dns_plans.proofs.ImageLemmas.{ImagedSoFar}
use Rattle.dns_plans.proofs.growth.unit_images.Given as goal

abbrev pub invariant-loop-read : goal.invariant-loop-read
invariant-loop-read g l =
    (goal.iterator-loop-read g).can_next l.read-iterator ×
    (goal.iterator-loop-read g).is_finite l.read-iterator ×
    ImagedSoFar (g.S.Session.rules.listed l.sender.host l.sender.session.now ++ l.new) l.fn.units.items
    (into_iter_items l.read-iterator) l.images.items
