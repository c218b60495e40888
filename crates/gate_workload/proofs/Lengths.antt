-- The frames of the workload are short.
use Rattle.std.proofs.Common.{◌≡◌, ℕ, ◌+◌, ◌^◌, ◌≤◌, ◌<◌, List, [], ◌++◌, length, codes, decimal, refl, arith, length-append}
use Rattle.std.proofs.lemmas.Fmt.{length-decimal-le}
use Rattle.ipv4_frames.specs.Ipv4.{spelled_head, head_with}
use Rattle.udp_icmp.specs.Udp.{sealed_udp}
use Rattle.tcp_segments.specs.Options.{options_within}
use Rattle.tcp_segments.specs.Prelude.{spelled_segment}
use Rattle.tcp_segments.specs.Tcp.{sealed_tcp, tcp_header_with}
use Rattle.gate_workload.specs.declared.flow.Flow.{Flow}
use Rattle.gate_workload.specs.Datagrams.{ip_model, udp_header, udp_datagram, tcp_model, tcp_datagram}
use Rattle.gate_workload.specs.Payloads.{segment_size, port_line}
use Rattle.gate_workload.proofs.ReadBack.{sealed_long}

head_long : (protocol total source destination : ℕ) → length (spelled_head (ip_model protocol) total 64 source destination) ≡ 20
unfolding head_with
head_long protocol total source destination = refl

carried_long : (protocol : ℕ) (flow : Flow) (segment : List ℕ) (count : ℕ) → length segment ≡ count
    → length (spelled_head (ip_model protocol) (20 + length segment) 64 flow.source.0 flow.destination.0 ++ segment) ≡ 20 + count
carried_long protocol flow segment count long =
    let head = spelled_head (ip_model protocol) (20 + length segment) 64 flow.source.0 flow.destination.0 in
    let both : length (head ++ segment) ≡ length head + length segment = length-append head segment in
    let first : length head ≡ 20 = head_long protocol (20 + length segment) flow.source.0 flow.destination.0 in
    omega (arith, both, first, long)

pub udp_long : (flow : Flow) (payload : List ℕ) → length (udp_datagram flow payload) ≡ 20 + (8 + length payload)
unfolding udp_datagram
udp_long flow payload = carried_long 17 flow (sealed_udp flow.source.0 flow.destination.0 (udp_header flow (8 + length payload) ++ payload))
    (8 + length payload) (sealed_long flow payload)

segment_long : (flow : Flow) (sequence acknowledgement flags : ℕ) (octets : List ℕ)
    → length (spelled_segment (tcp_model flow []) flow.source.0 flow.destination.0 sequence acknowledgement flags octets) ≡ 20 + length octets
unfolding sealed_tcp tcp_header_with options_within
segment_long flow sequence acknowledgement flags octets = omega arith

pub tcp_long : (flow : Flow) (sequence acknowledgement flags : ℕ) (octets : List ℕ)
    → length (tcp_datagram flow [] sequence acknowledgement flags octets) ≡ 20 + (20 + length octets)
unfolding tcp_datagram
tcp_long flow sequence acknowledgement flags octets =
    carried_long 6 flow (spelled_segment (tcp_model flow []) flow.source.0 flow.destination.0 sequence acknowledgement flags octets)
    (20 + length octets) (segment_long flow sequence acknowledgement flags octets)

opening_long : (flow : Flow) (sequence acknowledgement flags : ℕ)
    → length (spelled_segment (tcp_model flow segment_size) flow.source.0 flow.destination.0 sequence acknowledgement flags []) ≡ 24
unfolding sealed_tcp tcp_header_with options_within
opening_long flow sequence acknowledgement flags = refl

pub syn_long : (flow : Flow) (sequence acknowledgement flags : ℕ) → length (tcp_datagram flow segment_size sequence acknowledgement flags []) ≡ 44
unfolding tcp_datagram
syn_long flow sequence acknowledgement flags =
    carried_long 6 flow (spelled_segment (tcp_model flow segment_size) flow.source.0 flow.destination.0 sequence acknowledgement flags []) 24
    (opening_long flow sequence acknowledgement flags)

pub line_short : (number : ℕ) → number < 2 ^ 32 → length (port_line number) ≤ 40
line_short number small =
    omega (arith, length-append (decimal number) (codes "\r\n"), length-decimal-le 20 number (omega arith) (omega arith) (omega (arith, small)))
