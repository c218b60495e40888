use Rattle.dns_names.proofs.Items.{found-is_lowest}
use Rattle.dns_names.proofs.laws.found_is_lowest.Goals as goal

pub returns : goal.returns
returns c = found-is_lowest
