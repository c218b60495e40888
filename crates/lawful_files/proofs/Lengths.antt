-- How long a segment of a session is as a datagram.
use Rattle.std.proofs.Common.{◌≡◌, ◌+◌, ◌-◌, ℕ, List, ◌++◌, length, arith, length-append}
use Rattle.byteorder.specs.Endian.{big_bytes}
use Rattle.ether_frames.specs.Ether.{framed_on}
use Rattle.gate_base.specs.declared.side.Link.{Link}
use Rattle.gate_base.specs.declared.side.Link.TheVariants.{Ethernet, Raw}
use Rattle.gate_settings.specs.Prelude.{HasMacAddresses}
use Rattle.gate_settings.specs.declared.settings.SideSettings.{SideSettings}
use Rattle.ipv4_frames.specs.Ipv4.{Datagram, spelled_head}
use Rattle.ipv4_frames.proofs.Heads.{head_long}
use Rattle.stream_model.specs.Prelude.{Outgoing}
use Rattle.tcp_segments.specs.Prelude.{flags_octet, spelled_segment}
use Rattle.tcp_segments.proofs.Written.{segment_long}
use Rattle.gate_model.specs.Prelude.{tcp_of, sent_as}
use Rattle.lawful_files.specs.Progress.{HasHeads, head_length}

pub sent_long : (d : Datagram) (source destination : ℕ) (o : Outgoing) → HasHeads d
    → length (sent_as d source destination o) ≡ 20 + (length (tcp_of d).header + length o.octets)
sent_long d source destination o h =
    let segment = spelled_segment (tcp_of d).header source destination o.sequence o.acknowledgement (flags_octet o.flags) o.octets in
    let size : length segment ≡ length (tcp_of d).header + length o.octets =
    segment_long (tcp_of d).header o.octets source destination o.sequence o.acknowledgement (flags_octet o.flags) h.tcp in
    let head = spelled_head d.header (20 + length segment) (d.lifetime - 1) source destination in
    let front : length head ≡ 20 = head_long d.header (20 + length segment) (d.lifetime - 1) source destination h.ip in
    omega (arith, length-append head segment, front, size)

pub framed_long : (link : Link) (side : SideSettings) (datagram : List ℕ) → HasMacAddresses side
    → length (framed_on link side.next_mac side.gateway_mac datagram) ≡ head_length link + length datagram
framed_long Raw side datagram h = omega arith
framed_long Ethernet side datagram h =
    omega (
      arith,
      h.gateway,
      h.next,
      length-append ((side.next_mac ++ side.gateway_mac) ++ big_bytes 2 0x0800) datagram,
      length-append (side.next_mac ++ side.gateway_mac) (big_bytes 2 0x0800),
      length-append side.next_mac side.gateway_mac,
    )
