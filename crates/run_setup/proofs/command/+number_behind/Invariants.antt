use Rattle.std.proofs.Common.{length}
use Rattle.run_setup.proofs.command.+number_behind.Given as goal

abbrev pub decreases-number_behind : goal.decreases-number_behind
decreases-number_behind c = length c.digits.now
