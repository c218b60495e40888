use Rattle.std.specs.Prelude.{take, drop}
use Rattle.dns_gateway.proofs.Lists.{Renames}
use Rattle.dns_gateway.proofs.renaming.rename_resources.Given as goal

abbrev pub invariant-loop-resource : goal.invariant-loop-resource
invariant-loop-resource l = Renames l.images l.start l.initial.resources (take l.resource-index l.resources) (drop l.resource-index l.resources)
    l.place
