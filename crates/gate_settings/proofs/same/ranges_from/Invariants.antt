use Rattle.std.proofs.Common.{◌≡◌, ◌++◌, drop}
use Rattle.gate_settings.specs.Prelude.{ranges_from}
use Rattle.gate_settings.proofs.same.ranges_from.Given as goal

abbrev pub invariant-loop-block : goal.invariant-loop-block
invariant-loop-block l = l.ranges.items ++ ranges_from l.last (drop l.block-index l.sorted) ≡ ranges_from 0 l.sorted
