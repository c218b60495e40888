-- Records one after the other.
use Rattle.std.proofs.Common.{◌≡◌, ℕ, ◌+◌, List, ◌++◌, length, Option}
use Rattle.gate_base.specs.declared.address.Addr.{Addr}
use Rattle.dns_messages.specs.declared.message.Resource.{Resource}
use Rattle.dns_gateway.specs.Addresses.{resources_addresses}
use Rattle.dns_gateway.specs.Renaming.{resources_renamed}

-- So far some records were renamed, and the rest makes the whole.
pub record Renames (images : List (Option Addr)) (start : ℕ) (all done rest : List Resource) (place : ℕ) : Type 0 where
  pub renamed : done ++ resources_renamed images place rest ≡ resources_renamed images start all
  pub places : place + length (resources_addresses rest) ≡ start + length (resources_addresses all)
