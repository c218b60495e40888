use Rattle.std.proofs.Common.{take, drop}
use Rattle.std.specs.List.{AllByRecursion}
use Rattle.dns_messages.specs.Inside.Suits.{ResourceFits}
use Rattle.dns_messages.proofs.Wrote.{Left}
use Rattle.dns_messages.proofs.writing.put_resources.Given as goal

abbrev pub invariant-loop-resource : goal.invariant-loop-resource
invariant-loop-resource l = Left l.fn.writer l.writer (drop l.resource-index l.resources) l.resources
    × AllByRecursion ResourceFits (take l.resource-index l.resources)
