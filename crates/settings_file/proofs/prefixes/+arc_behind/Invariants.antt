use Rattle.std.proofs.Common.{length}
use Rattle.settings_file.proofs.prefixes.+arc_behind.Given as goal

abbrev pub decreases-arc_behind : goal.decreases-arc_behind
decreases-arc_behind l = length l.digits.now
