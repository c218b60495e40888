use Rattle.std.proofs.Common.{◌≡◌, ◌++◌, map, take}
use Rattle.dns_gateway.specs.Addresses.{resources_addresses}
use Rattle.dns_gateway.proofs.addresses.add_resources.Given as goal

abbrev pub invariant-loop-resource : goal.invariant-loop-resource
invariant-loop-resource l = map (λ a. a.0) l.addresses.items ≡ map (λ a. a.0) l.fn.addresses.items ++ resources_addresses
    (take l.resource-index l.resources)
