-- No datagram that goes out is longer than a record may be.
use Rattle.std.proofs.Common.{◌≡◌, ◌≤◌, ◌<◌, ◌+◌, ◌-◌, ℕ, Bool, true, false, List, [], ◌++◌, length, take, drop, Option, Some, None, arith, inl, inr, length-append, length-drop, length-take, ◌==◌, slice_set, unwrap_or, if◌then◌else◌, is_some, flat_map, length-set}
use Rattle.std.proofs.lemmas.Bool.{cases_Bool, true≢false}
use Rattle.std.proofs.lemmas.List.Elements.{All-drop}
use Rattle.byteorder.specs.Endian.{big_bytes}
use Rattle.byteorder.specs.Numbers.{big_from-lt}
use Rattle.gate_base.specs.Prelude.{u16_at, with_u16, with_u32, Event}
use Rattle.inet_sum.specs.Sum.{checksum}
use Rattle.ether_frames.specs.Ether.{octets_in}
use Rattle.ipv4_frames.specs.Ipv4.{Datagram, total_length_of, head_with, spelled_head}
use Rattle.udp_icmp.specs.Udp.{sealed_udp, udp_sum_of, udp_covered}
use Rattle.udp_icmp.specs.Icmp.{sealed_icmp}
use Rattle.tcp_segments.specs.Prelude.{tcp_covered, spelled_segment, tcp_header_length_of, options_of, are_options, blank, blanked, flags_octet}
use Rattle.tcp_segments.specs.Tcp.{sealed_tcp, tcp_header_with}
use Rattle.tcp_segments.proofs.Blanking.{blanks}
use Rattle.twice_translate.specs.Renamed.{with_addresses, renamed, sealed_payload, with_payload, datagram_of}
use Rattle.icmp_errors.specs.Inner.{addressed, numbered, inner_with}
use Rattle.stream_model.specs.Prelude.{Outgoing}
use Rattle.gate_model.specs.Prelude.{datagram_in, tcp_of, sent_as}
use Rattle.lawful_files.proofs.SentLists.{AreOctets, octet_at, in_octets, payload_octets}

-- ## Fields that are put in their places

u16_long : (place value : ℕ) (xs : List ℕ) → length (with_u16 place value xs) ≤ length xs + 2
u16_long place value xs =
    omega (
      arith,
      length-append (take place xs ++ big_bytes 2 value) (drop (place + 2) xs),
      length-append (take place xs) (big_bytes 2 value),
      length-take place xs,
      length-drop (place + 2) xs,
    )

u32_long : (place value : ℕ) (xs : List ℕ) → length (with_u32 place value xs) ≤ length xs + 4
u32_long place value xs =
    omega (
      arith,
      length-append (take place xs ++ big_bytes 4 value) (drop (place + 4) xs),
      length-append (take place xs) (big_bytes 4 value),
      length-take place xs,
      length-drop (place + 4) xs,
    )

head_with_long : (model : List ℕ) (total lifetime source destination : ℕ)
    → length (head_with model total lifetime source destination) ≤ length model + 12
unfolding head_with
head_with_long model total lifetime source destination =
    let a = with_u16 2 total model in
    let b = slice_set a 8 lifetime in
    let c = with_u16 10 0 b in
    let d = with_u32 12 source c in
    omega (arith, u16_long 2 total model, length-set a 8 lifetime, u16_long 10 0 b, u32_long 12 source c, u32_long 16 destination d)

head_long : (model : List ℕ) (total lifetime source destination : ℕ)
    → length (spelled_head model total lifetime source destination) ≤ length model + 14
head_long model total lifetime source destination =
    let head = head_with model total lifetime source destination in
    omega (arith, head_with_long model total lifetime source destination, u16_long 10 (checksum head) head)

sealed_tcp_long : (source destination : ℕ) (segment : List ℕ) → length (sealed_tcp source destination segment) ≤ length segment + 4
unfolding sealed_tcp
sealed_tcp_long source destination segment = let empty = with_u16 16 0 segment in
    omega (arith, u16_long 16 0 segment, u16_long 16 (checksum (tcp_covered source destination empty)) empty)

sealed_icmp_long : (message : List ℕ) → length (sealed_icmp message) ≤ length message + 4
unfolding sealed_icmp
sealed_icmp_long message = let empty = with_u16 2 0 message in omega (arith, u16_long 2 0 message, u16_long 2 (checksum empty) empty)

sealed_udp_long : (source destination : ℕ) (segment : List ℕ) → length (sealed_udp source destination segment) ≤ length segment + 4
unfolding sealed_udp
sealed_udp_long source destination segment = by_sum (u16_at 6 segment == 0)
  where
    by_sum : (none : Bool)
        → length
        (if none then segment else with_u16 6 (udp_sum_of (checksum (udp_covered source destination (with_u16 6 0 segment)))) (with_u16 6 0 segment))
        ≤ length segment + 4
    by_sum true = omega arith
    by_sum false =
        omega (
          arith,
          u16_long 6 0 segment,
          u16_long 6 (udp_sum_of (checksum (udp_covered source destination (with_u16 6 0 segment)))) (with_u16 6 0 segment),
        )

sealed_long : (protocol source destination : ℕ) (payload : List ℕ) → length (sealed_payload protocol source destination payload) ≤ length payload + 4
unfolding sealed_payload
sealed_long protocol source destination payload = by_protocol (protocol == 17) (protocol == 6) (protocol == 1)
  where
    by_protocol : (udp tcp icmp : Bool)
        → length
        (if udp then sealed_udp source destination payload else if tcp then sealed_tcp source destination payload else if icmp then sealed_icmp
        payload else payload) ≤ length payload + 4
    by_protocol true tcp icmp = sealed_udp_long source destination payload
    by_protocol false true icmp = sealed_tcp_long source destination payload
    by_protocol false false true = sealed_icmp_long payload
    by_protocol false false false = omega arith

-- ## A datagram with other addresses

renamed_long : (d : Datagram) (source destination : ℕ) → length (renamed d source destination) ≤ length d.header + length d.payload + 18
unfolding renamed
renamed_long d source destination =
    let next = with_addresses d source destination in
    omega (
      arith,
      length-append next.header next.payload,
      head_long d.header (20 + length d.payload) (d.lifetime - 1) source destination,
      sealed_long d.protocol source destination d.payload,
    )

header_short : (octets : List ℕ) → length (datagram_of octets).header ≤ 20
header_short octets = omega (arith, length-take 20 octets)

total_short : (octets : List ℕ) → AreOctets octets → total_length_of octets < 65536
total_short octets h = big_from-lt 0 2 (drop 2 octets) (λ k. octet_at (drop 2 octets) k (All-drop (λ octet. octet < 256) 2 octets h))

payload_short : (octets : List ℕ) → AreOctets octets → length (datagram_of octets).payload ≤ 65535
payload_short octets h = omega (arith, total_short octets h, length-take (total_length_of octets - 20) (drop 20 octets))

-- a datagram whose header and payload are short
pub record IsShort (d : Datagram) : Type 0 where
  pub header : length d.header ≤ 20
  pub payload : length d.payload ≤ 65535
  pub octets : AreOctets d.payload

pub event_short : (e : Event) → AreOctets e.octets → IsShort (datagram_in e)
event_short e h =
    let inside = in_octets e.link e.octets h in
    record {
      header = header_short (octets_in e.link e.octets);
      payload = payload_short (octets_in e.link e.octets) inside;
      octets =
          payload_octets (octets_in e.link e.octets) inside;
    }

pub renamed_short : (d : Datagram) (payload : List ℕ) (source destination : ℕ) → length d.header ≤ 20 → length payload ≤ 65535 + 2000
    → length (renamed (record d { payload = payload }) source destination) ≤ 131072
renamed_short d payload source destination header few = omega (arith, renamed_long (record d { payload = payload }) source destination, header, few)

-- ## Segments of sessions

blanked_long : (xs : List ℕ) → length (blanked xs) ≤ length xs
blanked_long xs =
    elim (cases_Bool (are_options xs)) [
      | inl e ↦ omega (arith, (blanks xs e).count)
      | inr e ↦ omega (arith, none (options_of xs) e)
    ]
  where
    none : (o : Option (List (List ℕ))) → is_some o ≡ false → length (flat_map blank (unwrap_or o [])) ≤ 0
    none None e = omega arith
    none (Some x) e = absurd (true≢false e)

tcp_head_long : (model : List ℕ) (sequence acknowledgement flags : ℕ)
    → length (tcp_header_with model sequence acknowledgement flags) ≤ length model + 10
unfolding tcp_header_with
tcp_head_long model sequence acknowledgement flags =
    let a = with_u32 4 sequence (take 20 model) in
    let b = with_u32 8 acknowledgement a in
    let c = slice_set b 13 flags in
    omega (
      arith,
      u32_long 4 sequence (take 20 model),
      u32_long 8 acknowledgement a,
      length-set b 13 flags,
      u16_long 18 0 c,
      blanked_long (drop 20 model),
      length-append (with_u16 18 0 c) (blanked (drop 20 model)),
      length-take 20 model,
      length-drop 20 model,
    )

tcp_long : (d : Datagram) → AreOctets d.payload → length (tcp_of d).header ≤ 60
tcp_long d h = let one = octet_at d.payload 12 h in omega (arith, one, length-take (tcp_header_length_of d.payload) d.payload)

pub sent_short : (d : Datagram) (source destination : ℕ) (o : Outgoing) → IsShort d → length o.octets ≤ 65495
    → length (sent_as d source destination o) ≤ 131072
sent_short d source destination o h few =
    let model = (tcp_of d).header in
    let head = tcp_header_with model o.sequence o.acknowledgement (flags_octet o.flags) in
    let segment = spelled_segment model source destination o.sequence o.acknowledgement (flags_octet o.flags) o.octets in
    let front = spelled_head d.header (20 + length segment) (d.lifetime - 1) source destination in
    omega (
      arith,
      few,
      h.header,
      tcp_long d h.octets,
      tcp_head_long model o.sequence o.acknowledgement (flags_octet o.flags),
      length-append head o.octets,
      sealed_tcp_long source destination (head ++ o.octets),
      head_long d.header (20 + length segment) (d.lifetime - 1) source destination,
      length-append front segment,
    )

-- ## ICMP errors

inner_long : (octets : List ℕ) (source destination : ℕ) (sequence : Option ℕ)
    → length (inner_with octets source destination sequence) ≤ length octets + 16
unfolding inner_with
inner_long octets source destination sequence =
    let a = addressed octets source destination in
    let b = numbered sequence a in
    omega (
      arith,
      u16_long 10 0 octets,
      u32_long 12 source (with_u16 10 0 octets),
      u32_long 16 destination (with_u32 12 source (with_u16 10 0 octets)),
      numbered_long sequence a,
      u16_long 10 (checksum (take 20 b)) b,
    )
  where
    numbered_long : (o : Option ℕ) (xs : List ℕ) → length (numbered o xs) ≤ length xs + 4
    numbered_long None xs = omega arith
    numbered_long (Some n) xs = u32_long 24 n xs

pub error_short : (d : Datagram) (source destination : ℕ) (sequence : Option ℕ) → length d.payload ≤ 65535
    → length (take 8 d.payload ++ inner_with (drop 8 d.payload) source destination sequence) ≤ 65535 + 2000
error_short d source destination sequence few =
    let inner = inner_with (drop 8 d.payload) source destination sequence in
    omega (
      arith,
      few,
      length-append (take 8 d.payload) inner,
      length-take 8 d.payload,
      length-drop 8 d.payload,
      inner_long (drop 8 d.payload) source destination sequence,
    )

-- ## Payloads of UDP

pub rebuilt_short : (d : Datagram) (payload : List ℕ) → length payload ≤ 66000 → length (with_payload d payload).payload ≤ 65535 + 2000
rebuilt_short d payload few =
    omega (
      arith,
      few,
      u16_long 4 (8 + length payload) (take 8 d.payload ++ payload),
      length-append (take 8 d.payload) payload,
      length-take 8 d.payload,
    )
