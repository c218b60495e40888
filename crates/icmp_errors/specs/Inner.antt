-- The front of a datagram inside an ICMP error (RFC 792).
use Rattle.std.specs.Prelude.{ℕ, ◌/◌, ◌%◌, ◌^◌, Bool, ◌&&◌, ◌==◌, nat_le, if◌then◌else◌, List, take, length, slice_index, Option, Some, None, unwrap_or, Result, Ok, Err}
use Rattle.gate_base.specs.Prelude.{u16_at, u32_at, with_u16, with_u32}
use Rattle.inet_sum.specs.Sum.{checksum}
use Rattle.icmp_errors.specs.declared.BadInner.{BadInner}
use Rattle.icmp_errors.specs.declared.Inner.{Inner}

-- version 4, a header of 5 words, a fragment offset of 0 (MF may be set), and 8 octets behind the header
abbrev pub is_inner : List ℕ → Bool
is_inner octets = ((nat_le 28 (length octets) && slice_index octets 0 / 16 == 4) && slice_index octets 0 % 16 == 5) && u16_at 6 octets % 2 ^ 13 == 0

-- the fields by their places; those behind the header are TCP's and UDP's
abbrev pub inner_fields : List ℕ → Inner
inner_fields octets = record {
  source = record { 0 = u32_at 12 octets };
  destination = record { 0 = u32_at 16 octets };
  protocol = slice_index octets 9;
  ports = (u16_at 20 octets, u16_at 22 octets);
  sequence = u32_at 24 octets;
}

-- the datagram inside, where there is one
abbrev pub read_inner : List ℕ → Result Inner BadInner
read_inner octets = if is_inner octets then Ok (inner_fields octets) else Err (record {})

-- the octets with these addresses, and a header checksum field of 0
abbrev pub addressed : List ℕ → ℕ → ℕ → List ℕ
addressed octets source destination = with_u32 16 destination (with_u32 12 source (with_u16 10 0 octets))

-- the octets with a sequence number, if one is given
abbrev pub numbered : Option ℕ → List ℕ → List ℕ
numbered None octets = octets
numbered (Some sequence) octets = with_u32 24 sequence octets

-- the octets with their right header checksum
abbrev pub summed : List ℕ → List ℕ
summed octets = with_u16 10 (checksum (take 20 octets)) octets

-- the octets with these addresses, this sequence number, if one is given, and a right header checksum
unfoldable pub inner_with : List ℕ → ℕ → ℕ → Option ℕ → List ℕ
inner_with octets source destination sequence = summed (numbered sequence (addressed octets source destination))

-- the fields with these addresses, and this sequence number, if one is given
abbrev pub fields_with : Inner → ℕ → ℕ → Option ℕ → Inner
fields_with inner source destination sequence = record inner {
  source = record { 0 = source };
  destination = record { 0 = destination };
  sequence = unwrap_or sequence inner.sequence;
}
