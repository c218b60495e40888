-- UDP (RFC 768).
use Rattle.std.specs.Prelude.{ℕ, Bool, not, ◌&&◌, ◌||◌, ◌==◌, nat_lt, if◌then◌else◌, List, [], ◌∷◌, ◌++◌, drop, length, Result}
use Rattle.gate_base.specs.Prelude.{u16_at, with_u16}
use Rattle.gate_base.specs.declared.protocol.TheConstants.{UDP}
use Rattle.inet_sum.specs.Sum.{is_right, checksum, pseudo_header}
use Rattle.ipv4_frames.specs.declared.fault.TransportFault.{TransportFault}
use Rattle.ipv4_frames.specs.declared.fault.TransportFault.TheVariants.{BadTransport, BadSum}
use Rattle.ipv4_frames.specs.Judged.{first_fault_or}

-- a UDP datagram: its ports, whether the sender made a checksum, and its payload
pub record Udp : Type 0 where
  pub source_port : ℕ
  pub destination_port : ℕ
  pub has_sum : Bool
  pub payload : List ℕ

-- the fields by their places; a checksum field of 0 says that there is no checksum
abbrev pub udp_fields_of : List ℕ → Udp
udp_fields_of segment = record {
  source_port = u16_at 0 segment;
  destination_port = u16_at 2 segment;
  has_sum = not (u16_at 6 segment == 0);
  payload = drop 8 segment;
}

-- what the checksum covers: the pseudo header, and the segment
abbrev pub udp_covered : ℕ → ℕ → List ℕ → List ℕ
udp_covered source destination segment = pseudo_header source destination UDP (length segment) ++ segment

-- fewer than 8 octets, or a length field that isn't their number
abbrev pub has_bad_length : List ℕ → Bool
has_bad_length segment = nat_lt (length segment) 8 || not (u16_at 4 segment == length segment)

-- there is a checksum, and it is wrong
abbrev pub has_bad_sum : ℕ → ℕ → List ℕ → Bool
has_bad_sum source destination segment = not (u16_at 6 segment == 0) && not (is_right (udp_covered source destination segment))

-- the UDP datagram that a payload between these addresses is, or the first fault
unfoldable pub read_udp : List ℕ → ℕ → ℕ → Result Udp TransportFault
read_udp segment source destination = first_fault_or
    (
    (has_bad_length segment, BadTransport)
    ∷ (has_bad_sum source destination segment, BadSum)
    ∷ []
    )
    (udp_fields_of segment)

-- a checksum as UDP writes it: FFFF in the place of 0
abbrev pub udp_sum_of : ℕ → ℕ
udp_sum_of checksum = if checksum == 0 then 65535 else checksum

-- the segment with its checksum made right for these addresses; where there is none, none is made
unfoldable pub sealed_udp : ℕ → ℕ → List ℕ → List ℕ
sealed_udp source destination segment =
    let empty = with_u16 6 0 segment in
    if u16_at 6 segment == 0 then segment else with_u16 6 (udp_sum_of (checksum (udp_covered source destination empty))) empty
