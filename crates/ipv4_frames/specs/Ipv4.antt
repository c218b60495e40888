-- IPv4 datagrams (RFC 791, 3.1).
use Rattle.std.specs.Prelude.{◌≡◌, ℕ, ◌*◌, ◌/◌, ◌%◌, ◌^◌, Bool, not, ◌||◌, ◌==◌, nat_lt, List, [], ◌∷◌, take, length, slice_index, slice_range, slice_set, Result}
use Rattle.gate_base.specs.Prelude.{u16_at, u32_at, with_u16, with_u32}
use Rattle.inet_sum.specs.Sum.{is_right, checksum}
use Rattle.ipv4_frames.specs.declared.fault.IpFault.{IpFault}
use Rattle.ipv4_frames.specs.declared.fault.IpFault.TheVariants.{NotIpv4, BadHeader, BadHeaderSum, Fragment, IpOptions}
use Rattle.ipv4_frames.specs.Judged.{first_fault_or}

-- a datagram without options: its addresses, its protocol, its lifetime, its header of 20 octets, and its payload
pub record Datagram : Type 0 where
  pub source : ℕ
  pub destination : ℕ
  pub protocol : ℕ
  pub lifetime : ℕ
  pub header : List ℕ
  pub payload : List ℕ

-- the datagram of a header and a payload
abbrev pub fields_of : List ℕ → List ℕ → Datagram
fields_of header payload = record {
  source = u32_at 12 header;
  destination = u32_at 16 header;
  protocol = slice_index header 9;
  lifetime = slice_index header 8;
  header = header;
  payload = payload;
}

-- the header's length in octets, which stands as a number of 32-bit words
abbrev pub header_length_of : List ℕ → ℕ
header_length_of octets = slice_index octets 0 % 16 * 4

-- the length of header and payload together
abbrev pub total_length_of : List ℕ → ℕ
total_length_of octets = u16_at 2 octets

-- there are no octets, or the version isn't 4
abbrev pub is_not_ipv4 : List ℕ → Bool
is_not_ipv4 octets = length octets == 0 || not (slice_index octets 0 / 16 == 4)

-- fewer than 20 octets, a header of fewer than 20, a total length below the header's or above the octets present
abbrev pub has_bad_header : List ℕ → Bool
has_bad_header octets =
    ((nat_lt (length octets) 20 || nat_lt (header_length_of octets) 20) || nat_lt (total_length_of octets) (header_length_of octets))
    || nat_lt (length octets) (total_length_of octets)

-- the header's words don't sum to FFFF
abbrev pub has_bad_header_sum : List ℕ → Bool
has_bad_header_sum octets = not (is_right (take (header_length_of octets) octets))

-- more fragments follow (the flag MF), or the fragment offset isn't 0
abbrev pub is_fragment : List ℕ → Bool
is_fragment octets = u16_at 6 octets / 2 ^ 13 % 2 == 1 || not (u16_at 6 octets % 2 ^ 13 == 0)

-- the header is longer than its fixed part
abbrev pub has_options : List ℕ → Bool
has_options octets = not (header_length_of octets == 20)

-- the datagram at the front of octets, or the first fault
unfoldable pub read_datagram : List ℕ → Result Datagram IpFault
read_datagram octets = first_fault_or
    (
    (is_not_ipv4 octets, NotIpv4)
    ∷ (has_bad_header octets, BadHeader)
    ∷ (has_bad_header_sum octets, BadHeaderSum)
    ∷ (is_fragment octets, Fragment)
    ∷ (has_options octets, IpOptions)
    ∷ []
    )
    (fields_of (take 20 octets) (slice_range octets 20 (total_length_of octets)))

-- a header with this total length, lifetime, source and destination, and a checksum field of 0
unfoldable pub head_with : List ℕ → ℕ → ℕ → ℕ → ℕ → List ℕ
head_with model total lifetime source destination = with_u32 16 destination
    (with_u32 12 source (with_u16 10 0 (slice_set (with_u16 2 total model) 8 lifetime)))

-- the same with its right checksum
abbrev pub spelled_head : List ℕ → ℕ → ℕ → ℕ → ℕ → List ℕ
spelled_head model total lifetime source destination = let head = head_with model total lifetime source destination in
    with_u16 10 (checksum head) head

-- version 4, a header of 20 octets, no fragment
abbrev pub IsPlainHead : List ℕ → Type 0
IsPlainHead head = (slice_index head 0 ≡ 0x45) × (u16_at 6 head % 2 ^ 14 ≡ 0)
