use Rattle.std.proofs.Common.{length}
use Rattle.dns_names.proofs.ending.+longest.Given as goal

abbrev pub decreases-longest : goal.decreases-longest
decreases-longest l = length l.name.now
