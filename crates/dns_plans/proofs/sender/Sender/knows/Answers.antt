use Rattle.std.proofs.Common.{◌∙◌, ap, is_some}
use Rattle.dialogue.proofs.ListedImages.{image_of_listed}
use Rattle.dns_plans.proofs.sender.Sender.knows.Goals as goal

pub returns : goal.returns
returns g c = c.is_some.ensures ∙ ap is_some c.image_of.ensures
    ∙ image_of_listed (g.S.Session.rules.listed c.args.self.now.host c.args.self.now.session.now) c.args.address.0
