use Rattle.std.proofs.Common.{not, sym, ◌∙◌, ap, is_some}
use Rattle.dialogue.proofs.ListedImages.{image_of_listed}
use Rattle.message_tests.proofs.units.learn_all.Goals as goal

pub learn-requires-clause-unknown : goal.learn-requires-clause-unknown
learn-requires-clause-unknown c =
    sym (image_of_listed c.loop-address.units c.in-Some.address.now.0)
    ∙ ap is_some (sym c.image_of.ensures)
    ∙ c.is_none.ensures
    ∙ ap not c.if-is_none.true
