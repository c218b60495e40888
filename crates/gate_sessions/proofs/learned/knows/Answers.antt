use Rattle.std.proofs.Common.{◌∙◌, ap, is_some}
use Rattle.dialogue.proofs.ListedImages.{image_of_listed}
use Rattle.gate_sessions.specs.Inside.Directions.{listed_of}
use Rattle.gate_sessions.proofs.learned.knows.Goals as goal

pub returns : goal.returns
returns c = c.is_some.ensures ∙ ap is_some c.image_of.ensures ∙ image_of_listed (listed_of c.args.host c.args.session.now) c.args.address.0
