use Rattle.dns_names.proofs.Items.{names-read_back}
use Rattle.dns_names.proofs.laws.names_read_back.Goals as goal

pub returns : goal.returns
returns c = names-read_back
