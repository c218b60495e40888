use Rattle.binding_table.proofs.Used.{known_after}
use Rattle.binding_table.proofs.laws.keeps_known.Goals as goal

pub returns : goal.returns
returns c = λ table uses side host alias until h. known_after uses table side host alias until h
