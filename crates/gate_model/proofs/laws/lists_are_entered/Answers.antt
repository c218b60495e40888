use Rattle.gate_model.proofs.NewEntries.{entered_new, entered_count, entered_image}
use Rattle.gate_model.proofs.laws.lists_are_entered.Goals as goal

pub returns : goal.returns
returns c = record { new = entered_new; count = entered_count; image = entered_image }
