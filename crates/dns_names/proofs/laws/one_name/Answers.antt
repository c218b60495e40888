use Rattle.dns_names.proofs.Reading.{same_name}
use Rattle.dns_names.proofs.laws.one_name.Goals as goal

pub returns : goal.returns
returns c = λ m place ls ks after past a b. same_name m place place ls ks after past a.stands b.stands
