use Rattle.std.proofs.Common.{◌∙◌, ap, sym, None, unwrap_or}
use Rattle.dns_plans.proofs.ImageLemmas.{image_of_first, image_of_new}
use Rattle.dns_plans.proofs.growth.image_in.Goals as goal

pub returns-in-Some : goal.returns-in-Some
returns-in-Some g c =
    let es = g.S.Session.rules.listed c.args.sender.now.host c.args.sender.now.session.now in
    sym (image_of_first es c.args.new.now c.args.address.0 c.in-Some.image (sym c.image_of.ensures ∙ c.in-Some.is))

pub returns-in-None : goal.returns-in-None
returns-in-None g c =
    let es = g.S.Session.rules.listed c.args.sender.now.host c.args.sender.now.session.now in
    c.unwrap_or.ensures ∙ ap (λ o. unwrap_or o None) c.image_of-in-None.ensures
    ∙ sym (image_of_new es c.args.new.now c.args.address.0 (sym c.image_of.ensures ∙ c.in-None.is))
