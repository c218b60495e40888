-- What hosts read in the octets that go out, and how they answer them.
use Rattle.std.specs.Prelude.{◌≡◌, ◌<◌, ◌⊎◌, ℕ, All, List, Ok}
use Rattle.gate_base.specs.Prelude.{Event, other}
use Rattle.ipv4_frames.specs.Ipv4.{Datagram, read_datagram}
use Rattle.twice_translate.specs.Content.{read_content}
use Rattle.twice_translate.specs.Renamed.{with_addresses}
use Rattle.gate_model.specs.Frame.{datagram_in, kind_of}
use Rattle.gate_model.specs.Transparent.{IsPlainKind, IsUntracked}
use Rattle.gate_model.specs.World.{World}

-- numbers of eight bits, as a capture has them
abbrev pub AreOctets : List ℕ → Type 0
AreOctets octets = All (λ octet. octet < 256) octets

-- nothing behind a frame's headers is looked at, so that what it carries goes on as it came
abbrev pub GoesAsItCame : {S : Type 0} → World S → Event → Type 0
GoesAsItCame w e = IsPlainKind (kind_of (datagram_in e)) ⊎ IsUntracked w e

-- whoever gets these octets reads a datagram between these addresses with a lifetime less by 1, and in it what was read between the old ones
pub record IsReadAs (octets : List ℕ) (d : Datagram) (source destination : ℕ) : Type 0 where
  pub header : read_datagram octets ≡ Ok (with_addresses d source destination)
  pub content : read_content d.protocol source destination (with_addresses d source destination).payload
      ≡ read_content d.protocol d.source d.destination d.payload

-- a frame of the other realm answers what is read in octets: it goes between the same addresses, swapped
pub record IsAnswer (octets : List ℕ) (e r : Event) : Type 0 where
  pub side : r.side ≡ other e.side
  pub read : Datagram
  pub is_read : read_datagram octets ≡ Ok read
  pub source : (datagram_in r).source ≡ read.destination
  pub destination : (datagram_in r).destination ≡ read.source
