-- Suffixes that were met in a message.
use Rattle.std.specs.Prelude.{◌≡◌, ◌⊎◌, List, [], Some, All}
use Rattle.dns_names.specs.declared.met.MetSuffix.{MetSuffix}
use Rattle.dns_names.specs.declared.met.MetSuffixes.{MetSuffixes}
use Rattle.dns_names.specs.Spelling.{Start, found}

-- its octets stand written at its place, the lowest one, or it has none
abbrev pub IsMet : List Start → MetSuffix → Type 0
IsMet starts suffix = (suffix.octets.now ≡ []) ⊎ (found starts suffix.octets.now ≡ Some suffix.place)

pub record AreMet (starts : List Start) (met : MetSuffixes) : Type 0 where
  pub short : IsMet starts met.short
  pub long : All (IsMet starts) met.long.items
