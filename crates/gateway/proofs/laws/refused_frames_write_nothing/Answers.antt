use Rattle.gateway.proofs.Sifting.{only_passing}
use Rattle.gateway.proofs.laws.refused_frames_write_nothing.Goals as goal

pub returns : goal.returns
returns k = only_passing
