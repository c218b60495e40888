-- Fragments of datagrams (RFC 791, 2.3 and 3.2).
use Rattle.std.specs.Prelude.{ℕ, ◌+◌, ◌-◌, ◌*◌, ◌/◌, ◌%◌, ◌^◌, Bool, true, false, ◌&&◌, ◌==◌, nat_lt, nat_le, if◌then◌else◌, List, take, length, slice_index, slice_range, Option, Some, None, Result, Ok, Err}
use Rattle.gate_base.specs.Prelude.{Event, u16_at, u32_at, same_side}
use Rattle.gate_base.specs.declared.side.Side.{Side}
use Rattle.ether_frames.specs.Ether.{octets_in}
use Rattle.ipv4_frames.specs.Ipv4.{Datagram, read_datagram, total_length_of}
use Rattle.ipv4_frames.specs.declared.fault.IpFault.{IpFault}
use Rattle.ipv4_frames.specs.declared.fault.IpFault.TheVariants.{NotIpv4, BadHeader, BadHeaderSum, Fragment as IsFragment, IpOptions}
use Rattle.frag_join.specs.declared.part.Name.{Name}

-- ## In a frame

abbrev pub octets_of : Event → List ℕ
octets_of e = octets_in e.link e.octets

-- the first fault of a datagram is that it is a fragment
abbrev pub is_fragment_fault : Result Datagram IpFault → Bool
is_fragment_fault (Ok datagram) = false
is_fragment_fault (Err NotIpv4) = false
is_fragment_fault (Err BadHeader) = false
is_fragment_fault (Err BadHeaderSum) = false
is_fragment_fault (Err IsFragment) = true
is_fragment_fault (Err IpOptions) = false

abbrev pub is_fragment_at : List ℕ → Bool
is_fragment_at octets = is_fragment_fault (read_datagram octets)

-- the first reason to refuse the frame is that it is a fragment: the capture kept all of it, it has a good IPv4 header, and it is a part of a
-- datagram
abbrev pub is_fragment : Event → Bool
is_fragment e = e.whole && is_fragment_at (octets_of e)

-- ## By its header

-- what the fragments of one datagram have in common (RFC 791, 3.2), and the realm from which they come
abbrev pub name_of : Side → List ℕ → Name
name_of side octets = record {
  side = side;
  source = record { 0 = u32_at 12 octets };
  destination = record { 0 = u32_at 16 octets };
  protocol = slice_index octets 9;
  identification = u16_at 4 octets;
}

abbrev pub name_in : Event → Name
name_in e = name_of e.side (octets_of e)

abbrev pub same_name : Name → Name → Bool
same_name one other =
    (((same_side one.side other.side && one.source.0 == other.source.0) && one.destination.0 == other.destination.0)
    && one.protocol == other.protocol)
    && one.identification == other.identification

-- a fragment: its header of 20 octets, the place in the datagram's payload at which its own starts, its payload, and whether more follow behind it
-- (the flag MF)
pub record Fragment : Type 0 where
  pub header : List ℕ
  pub start : ℕ
  pub payload : List ℕ
  pub more : Bool

-- the fragment at the front of octets: its start is counted in units of 8 octets
abbrev pub fragment_of : List ℕ → Fragment
fragment_of octets = record {
  header = take 20 octets;
  start = u16_at 6 octets % 2 ^ 13 * 8;
  payload = slice_range octets 20 (total_length_of octets);
  more = u16_at 6 octets / 2 ^ 13 % 2 == 1;
}

abbrev pub fragment_in : Event → Fragment
fragment_in e = fragment_of (octets_of e)

-- ## The places that it covers

-- the place behind its last octet
abbrev pub end_of : Fragment → ℕ
end_of f = f.start + length f.payload

abbrev pub covers : Fragment → ℕ → Bool
covers f place = nat_le f.start place && nat_lt place (end_of f)

-- its octet at a place of the datagram's payload
abbrev pub octet_in : Fragment → ℕ → Option ℕ
octet_in f place = if covers f place then Some (slice_index f.payload (place - f.start)) else None
