-- What is wanted of an event has headers, and its pieces may have octets.
use Rattle.std.proofs.Common.{◌≡◌, ◌≤◌, ◌*◌, ◌/◌, ℕ, Bool, true, false, List, [], ◌∷◌, ◌++◌, length, take, drop, Option, Some, None, refl, sym, ◌∙◌, ap, arith, not, ◌||◌, ◌==◌, nat_lt, slice_index, if◌then◌else◌, get_or-take, length-take-le}
use Rattle.std.proofs.lemmas.Bool.{or_parts, not-false}
use Rattle.std.proofs.lemmas.Bool.Decides.{nat_tests}
use Rattle.gate_base.specs.Prelude.{Event}
use Rattle.verdicts.specs.Prelude.{first_that_holds}
use Rattle.verdicts.specs.declared.verdict.Verdict.{Verdict}
use Rattle.gate_base.specs.declared.address.Addr.{Addr}
use Rattle.verdicts.specs.declared.verdict.Verdict.TheVariants.{Pass, Refused, Held}
use Rattle.verdicts.specs.declared.refusal.Refusal.{Refusal}
use Rattle.verdicts.specs.declared.refusal.Refusal.TheVariants.{Snapped, NotIpv4, BadHeader, BadHeaderSum, Fragment, IpOptions, BadTransport, BadSum}
use Rattle.gate_base.specs.declared.side.Side.{Side}
use Rattle.ether_frames.specs.Ether.{octets_in}
use Rattle.ipv4_frames.specs.Ipv4.{Datagram, header_length_of, total_length_of, is_not_ipv4, has_bad_header, has_bad_header_sum, is_fragment, has_options}
use Rattle.stream_model.specs.Prelude.{other}
use Rattle.tcp_segments.specs.Prelude.{are_options, IsTcpHeader, tcp_header_length_of, has_bad_offset, has_bad_options}
use Rattle.udp_icmp.specs.Udp.{has_bad_length}
use Rattle.gate_model.specs.Prelude.{Whole, Kind, Stream, datagram_in, kind_of, udp_payload, icmp_payload, header_tests, datagram_tests, transport_tests, whole_rules, WholeSession, whole_learned, taker_in, segment_of, tests, world_tests, World, Tracked, at_moment, host_on}
use Rattle.gate_model.specs.Frame.{is_bad_transport, is_bad_sum}
use Rattle.gate_model.specs.Verdict.{verdict}
use Rattle.gate_model.proofs.Passing.{NoneHolds, none_head, none_tail, none_left, none_right, pass_is}
use Rattle.lawful_files.specs.Wanted.{whole_sent, wanted_segment, wanted_kind, wanted_by, wanted}
use Rattle.lawful_files.specs.Progress.{HasHeads, IsSound}
use Rattle.lawful_files.proofs.SentLists.{AreOctets, event_options, limit_some}
use Rattle.stream_model.proofs.Ways.{session_limit}

-- ## What a frame that passes is like

record IsRight (e : Event) : Type 0 where
  header : has_bad_header (octets_in e.link e.octets) ≡ false
  transport : is_bad_transport (datagram_in e) ≡ false

right_of : (w : World WholeSession) (e : Event) → verdict whole_rules w e ≡ Pass → IsRight e
unfolding verdict
right_of w e h =
    let live = at_moment w e.moment in
    let octets = octets_in e.link e.octets in
    let d = datagram_in e in
    let rest = world_tests whole_rules live e.side e.moment d (kind_of d) in
    let all : NoneHolds (tests whole_rules live e) = record { none = pass_is (first_that_holds (tests whole_rules live e)) h } in
    let head : NoneHolds (header_tests e) = none_left (header_tests e) (datagram_tests d ++ (transport_tests d ++ rest)) all in
    let more : List (Bool × Refusal) =
    (has_bad_header_sum octets, BadHeaderSum) ∷ (is_fragment octets, Fragment) ∷ (has_options octets, IpOptions) ∷ [] in
    let one = none_tail {test = (not e.whole, Snapped)} {more = (is_not_ipv4 octets, NotIpv4) ∷ (has_bad_header octets, BadHeader) ∷ more} head in
    let two = none_tail {test = (is_not_ipv4 octets, NotIpv4)} {more = (has_bad_header octets, BadHeader) ∷ more} one in
    let behind : NoneHolds (transport_tests d ++ rest) =
    none_right (datagram_tests d) (transport_tests d ++ rest)
    (none_right (header_tests e) (datagram_tests d ++ (transport_tests d ++ rest)) all) in
    let transport : NoneHolds (transport_tests d) = none_left (transport_tests d) rest behind in
    record {
      header = none_head {test = (has_bad_header octets, BadHeader)} {more = more} two;
      transport = none_head {test = (is_bad_transport d, BadTransport)} {more = (is_bad_sum d, BadSum) ∷ []} transport;
    }

-- ## Its headers

header_is : (octets : List ℕ) → has_bad_header octets ≡ false → length (take 20 octets) ≡ 20
header_is octets h =
    let a = or_parts ((nat_lt (length octets) 20 || nat_lt (header_length_of octets) 20) || nat_lt (total_length_of octets) (header_length_of octets))
    (nat_lt (length octets) (total_length_of octets)) h in
    let b = or_parts (nat_lt (length octets) 20 || nat_lt (header_length_of octets) 20)
    (nat_lt (total_length_of octets) (header_length_of octets)) a.0 in
    let c = or_parts (nat_lt (length octets) 20) (nat_lt (header_length_of octets) 20) b.0 in
    let long : 20 ≤ length octets = let t = c.0 in grind (arith, nat_tests) in
    length-take-le 20 octets long

transport_is : (d : Datagram) → kind_of d ≡ Stream → is_bad_transport d ≡ false → (has_bad_offset d.payload || has_bad_options d.payload) ≡ false
transport_is d e h = by_protocol (d.protocol == 17) (d.protocol == 6) e h
  where
    by_protocol : (udp tcp : Bool) → (if udp then Whole (udp_payload d) else if tcp then Stream else Whole (icmp_payload d)) ≡ Stream
        → (if udp then has_bad_length d.payload else if tcp then has_bad_offset d.payload || has_bad_options d.payload else nat_lt
        (length d.payload) 8) ≡ false → (has_bad_offset d.payload || has_bad_options d.payload) ≡ false
    by_protocol true tcp f i = absurd (cc)
    by_protocol false true f i = i
    by_protocol false false f i = absurd (cc)

tcp_is : (payload : List ℕ) → (has_bad_offset payload || has_bad_options payload) ≡ false → IsTcpHeader (take (tcp_header_length_of payload) payload)
tcp_is payload h =
    let count = tcp_header_length_of payload in
    let both = or_parts (has_bad_offset payload) (has_bad_options payload) h in
    let a = or_parts (nat_lt (length payload) 20 || nat_lt count 20) (nat_lt (length payload) count) both.0 in
    let b = or_parts (nat_lt (length payload) 20) (nat_lt count 20) a.0 in
    let least : 20 ≤ count = let t = b.1 in grind (arith, nat_tests) in
    let within : count ≤ length payload = let t = a.1 in grind (arith, nat_tests) in
    let long : length (take count payload) ≡ count = length-take-le count payload within in
    let same : slice_index (take count payload) 12 ≡ slice_index payload 12 = get_or-take count payload 12 0 (omega (arith, least)) in
    (omega (arith, long, least), ap (λ (n : ℕ). n / 16 * 4) same ∙ sym long, not-false (are_options (drop 20 (take count payload))) both.1)

heads_of : (w : World WholeSession) (e : Event) → verdict whole_rules w e ≡ Pass → kind_of (datagram_in e) ≡ Stream → HasHeads (datagram_in e)
heads_of w e passed stream =
    let right = right_of w e passed in
    record {
      ip = header_is (octets_in e.link e.octets) right.header;
      tcp =
          tcp_is (datagram_in e).payload (transport_is (datagram_in e) stream right.transport);
    }

-- ## What is wanted

segment_sound : (image : Addr → Option Addr) (side : Side) (d : Datagram) (source destination : ℕ) (t : Option (Tracked WholeSession)) → HasHeads d
    → (segment_of d).options ≤ 40 → IsSound (wanted_segment whole_sent image side d source destination t)
segment_sound image side d source destination None heads few = tt
segment_sound image side d source destination (Some t) heads few =
    let host = host_on side t in
    let g = segment_of d in
    let x = (whole_learned image host t.session g).session in
    (heads, omega (arith, session_limit host x g, limit_some (other host x) g few))

pub wanted_sound : (w : World WholeSession) (e : Event) → AreOctets e.octets → IsSound (wanted w e)
wanted_sound w e h = by_verdict (verdict whole_rules w e) refl
  where
    by_kind : verdict whole_rules w e ≡ Pass → (kind : Kind) → kind_of (datagram_in e) ≡ kind
        → IsSound (wanted_kind whole_rules whole_sent (at_moment w e.moment) e.side e.moment (datagram_in e) kind)
    by_kind p (Whole payload) k = tt
    by_kind p Stream k =
        segment_sound _ e.side (datagram_in e) _ _ (taker_in whole_rules (at_moment w e.moment) e.side e.moment (datagram_in e)) (heads_of w e p k)
        (event_options e h)

    by_verdict : (v : Verdict) → verdict whole_rules w e ≡ v → IsSound (wanted_by whole_rules whole_sent (at_moment w e.moment) e v)
    by_verdict Pass p = by_kind p (kind_of (datagram_in e)) refl
    by_verdict (Refused r) p = tt
    by_verdict Held p = tt
