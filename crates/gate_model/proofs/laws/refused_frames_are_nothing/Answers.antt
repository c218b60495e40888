use Rattle.gate_model.proofs.Sifting.{sifted}
use Rattle.gate_model.proofs.laws.refused_frames_are_nothing.Goals as goal

pub returns : goal.returns
returns g k = λ rules w moment events rise. sifted rules events w moment rise
