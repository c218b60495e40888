use Rattle.std.proofs.Common.{◌∙◌, ap, is_some}
use Rattle.dialogue.proofs.ListedImages.{image_of_listed}
use Rattle.audit_sessions.specs.Inside.Sessions.{listed_of}
use Rattle.audit_sessions.proofs.learned.knows.Goals as goal

pub returns : goal.returns
returns c = c.is_some.ensures ∙ ap is_some c.image_of.ensures ∙ image_of_listed (listed_of c.args.host c.args.session.now) c.args.address.0
