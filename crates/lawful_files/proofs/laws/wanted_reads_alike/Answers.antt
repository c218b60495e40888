use Rattle.lawful_files.proofs.ReadWanted.{wanted_as}
use Rattle.lawful_files.proofs.laws.wanted_reads_alike.Goals as goal

pub returns : goal.returns
returns g c = λ h rules sends reads alike w e. wanted_as h rules sends reads alike w e
