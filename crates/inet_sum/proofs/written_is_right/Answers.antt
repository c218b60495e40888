use Rattle.inet_sum.proofs.Words.{right_again}
use Rattle.inet_sum.proofs.written_is_right.Goals as goal

pub returns : goal.returns
returns c = right_again c.args.place c.args.octets.now c.requires.even c.requires.within c.requires.empty
