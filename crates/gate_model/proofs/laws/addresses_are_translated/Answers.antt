use Rattle.gate_model.proofs.Transparency.{translated_are}
use Rattle.gate_model.proofs.laws.addresses_are_translated.Goals as goal

pub returns : goal.returns
returns g k = λ rules w e lawful passes. translated_are rules w e lawful passes
