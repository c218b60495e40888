use Rattle.std.specs.Prelude.{◌≡◌, ◌++◌, map, take}
use Rattle.dns_stream.specs.Prelude.{image_in}
use Rattle.dns_plans.proofs.growth.images_in.Given as goal

abbrev pub invariant-loop-address : goal.invariant-loop-address
invariant-loop-address g l =
    l.images.items ≡ map (image_in (g.S.Session.rules.listed l.sender.host l.sender.session.now ++ l.new))
    (map (λ a. a.0) (take l.address-index l.addresses))
