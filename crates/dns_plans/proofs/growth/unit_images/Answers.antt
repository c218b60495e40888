use Rattle.std.proofs.Common.{◌≡◌, ◌++◌, List, sym, ◌∙◌, ap, subst, Option, is_none, IfSome}
use Rattle.std.specs.Vec.Iter.{into_iter_items}
use Rattle.dialogue.specs.Prelude.{Entry}
use Rattle.dialogue.specs.declared.learns.UnitImage.{UnitImage}
use Rattle.dns_stream.specs.Prelude.{dns_units}
use Rattle.dns_plans.specs.Prelude.{unit_of}
use Rattle.dns_plans.proofs.ImageLemmas.{images_on}
use Rattle.dns_plans.proofs.growth.unit_images.Goals as goal

pub loop-read-preserved : goal.loop-read-preserved
loop-read-preserved g c =
    let es : List Entry = g.S.Session.rules.listed c.args.sender.now.host c.args.sender.now.session.now ++ c.args.new.now in
    let unit =
    subst (λ (o : Option UnitImage). IfSome o (λ one. one.unit.items ≡ unit_of c.in-Some.read)) c.in-Some-2.is c.in_ok-image.ensures.unit in
    let right =
    subst (λ (o : Option UnitImage). IfSome o (λ one. one.image.items ≡ (dns_units es).image one.unit.items)) c.in-Some-2.is
    c.in_ok-image.ensures.image in (
      tt,
      tt,
      images_on es c.args.units.items (into_iter_items c.loop-read.read-iterator)
          (into_iter_items c.next.new.self) c.in-Some.read c.loop-read.images.items c.push.new.self.items c.in-Some-2.image c.in-Some.ensures.steps.0
          c.loop-read.invariant.2
          (ap is_none (sym c.in-Some-2.is) ∙ c.in_ok-image.ensures.grows) c.in_ok-push-in-Some-2.ensures.items unit right,
    )
