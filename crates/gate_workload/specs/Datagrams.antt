-- The datagrams of the workload: identification 0, DF, lifetime 64, right sums.
use Rattle.std.specs.Prelude.{◌≡◌, ℕ, ◌+◌, ◌*◌, ◌/◌, ◌%◌, ◌≤◌, IsTrue, List, [], ◌∷◌, ◌++◌, length, true, Ok}
use Rattle.byteorder.specs.Endian.{big_bytes}
use Rattle.gate_base.specs.declared.protocol.TheConstants.{TCP, UDP}
use Rattle.ipv4_frames.specs.Ipv4.{Datagram, read_datagram}
use Rattle.udp_icmp.specs.Udp.{sealed_udp, read_udp}
use Rattle.tcp_segments.specs.Prelude.{are_options, spelled_segment, datagram_of}
use Rattle.gate_workload.specs.declared.flow.Flow.{Flow}

-- an IPv4 header without options of this protocol, whose other fields are still to come
abbrev pub ip_model : ℕ → List ℕ
ip_model protocol = 0x45 ∷ 0 ∷ 0 ∷ 0 ∷ 0 ∷ 0 ∷ 0x40 ∷ 0 ∷ 0 ∷ protocol ∷ 0 ∷ 0 ∷ 0 ∷ 0 ∷ 0 ∷ 0 ∷ 0 ∷ 0 ∷ 0 ∷ 0 ∷ []

-- the datagram that carries a payload of a protocol
abbrev pub carrying : ℕ → Flow → List ℕ → List ℕ
carrying protocol flow payload = datagram_of (ip_model protocol) flow.source.0 flow.destination.0 64 payload

-- a UDP header: the ports, the length of header and payload, and a checksum that is still to come
abbrev pub udp_header : Flow → ℕ → List ℕ
udp_header flow len = big_bytes 2 flow.source_port ++ (big_bytes 2 flow.destination_port ++ (big_bytes 2 len ++ (0xff ∷ 0xff ∷ [])))

-- a UDP datagram with this payload
unfoldable pub udp_datagram : Flow → List ℕ → List ℕ
udp_datagram flow payload = carrying UDP flow (sealed_udp flow.source.0 flow.destination.0 (udp_header flow (8 + length payload) ++ payload))

-- such a datagram reads back with its addresses, ports and payload, and both its checksums are right
pub record ReadsBack (flow : Flow) (payload : List ℕ) : Type 0 where
  pub datagram : Datagram
  pub source : datagram.source ≡ flow.source.0
  pub destination : datagram.destination ≡ flow.destination.0
  pub header : read_datagram (udp_datagram flow payload) ≡ Ok datagram
  pub content : read_udp datagram.payload flow.source.0 flow.destination.0
      ≡ Ok (record { source_port = flow.source_port; destination_port = flow.destination_port; has_sum = true; payload = payload })

-- a TCP header with these options: the ports, a data offset in words, and a window of 8192; its other fields are still to come
abbrev pub tcp_model : Flow → List ℕ → List ℕ
tcp_model flow options =
    big_bytes 2 flow.source_port
    ++ (big_bytes 2 flow.destination_port ++ (0 ∷ 0 ∷ 0 ∷ 0 ∷ 0 ∷ 0 ∷ 0 ∷ 0 ∷ (5 + length options / 4) * 16 ∷ 0 ∷ 0x20 ∷ 0 ∷ 0 ∷ 0 ∷ 0 ∷ 0 ∷ options))

-- no options, or four octets of them
pub record AreShortOptions (options : List ℕ) : Type 0 where
  pub whole : length options % 4 ≡ 0
  pub few : length options ≤ 4
  pub right : IsTrue (are_options options)

-- a TCP datagram with these options, numbers, flags and octets
unfoldable pub tcp_datagram : Flow → List ℕ → ℕ → ℕ → ℕ → List ℕ → List ℕ
tcp_datagram flow options sequence acknowledgement flags octets =
    carrying TCP flow (spelled_segment (tcp_model flow options) flow.source.0 flow.destination.0 sequence acknowledgement flags octets)
