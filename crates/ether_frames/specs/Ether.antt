-- Ethernet frames (RFC 894).
use Rattle.std.specs.Prelude.{ℕ, ◌==◌, nat_lt, if◌then◌else◌, List, [], ◌++◌, drop, length, Option, Some, None}
use Rattle.byteorder.specs.Endian.{big_bytes}
use Rattle.gate_base.specs.Prelude.{u16_at}
use Rattle.gate_base.specs.declared.side.Link.{Link}
use Rattle.gate_base.specs.declared.side.Link.TheVariants.{Ethernet, Raw}
use Rattle.ether_frames.specs.declared.head.TheConstants.{IPV4}

-- an Ethernet frame: what it carries, and what stands behind its head of 14 octets
pub record Ether : Type 0 where
  pub kind : ℕ
  pub payload : List ℕ

-- the fields by their places
abbrev pub fields_of : List ℕ → Ether
fields_of octets = record { kind = u16_at 12 octets; payload = drop 14 octets }

-- the frame that octets are, if they are enough for a head
unfoldable pub read_frame : List ℕ → Option Ether
read_frame octets = if nat_lt (length octets) 14 then None else Some (fields_of octets)

-- the payload of a frame that carries IPv4, and else nothing
abbrev pub carried : Option Ether → List ℕ
carried None = []
carried (Some frame) = if frame.kind == IPV4 then frame.payload else []

-- the octets in which the datagram of a frame of this link stands
abbrev pub octets_in : Link → List ℕ → List ℕ
octets_in Raw octets = octets
octets_in Ethernet octets = carried (read_frame octets)

-- the head of a frame that carries IPv4: the receiver's address, the sender's, and the type
abbrev pub ipv4_head : List ℕ → List ℕ → List ℕ
ipv4_head destination source = (destination ++ source) ++ big_bytes 2 IPV4

-- the frame of a datagram on a link: on Ethernet from one address to another, without padding
abbrev pub framed_on : Link → List ℕ → List ℕ → List ℕ → List ℕ
framed_on Raw destination source datagram = datagram
framed_on Ethernet destination source datagram = ipv4_head destination source ++ datagram
