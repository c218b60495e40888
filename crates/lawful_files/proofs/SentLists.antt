-- What goes out at an event is a lawful list for it.
use Rattle.std.proofs.Common.{◌≤◌, ◌<◌, ◌-◌, ℕ, Bool, true, false, cond, List, [], length, take, drop, All, Option, Some, None, refl, arith, inl, inr, length-drop, length-take, slice_index, nat_lt, ◌==◌}
use Rattle.std.proofs.lemmas.Bool.{cases_lt}
use Rattle.std.proofs.lemmas.List.{get_or_past}
use Rattle.std.proofs.lemmas.List.Elements.{All-take, All-drop, All-nil}
use Rattle.ether_frames.specs.Ether.{octets_in, read_frame, fields_of, carried}
use Rattle.ether_frames.specs.declared.head.TheConstants.{IPV4}
use Rattle.gate_base.specs.Prelude.{Event}
use Rattle.verdicts.specs.declared.verdict.Verdict.{Verdict}
use Rattle.gate_base.specs.declared.address.Addr.{Addr}
use Rattle.verdicts.specs.declared.verdict.Verdict.TheVariants.{Pass, Refused, Held}
use Rattle.gate_base.specs.declared.side.Link.{Link}
use Rattle.gate_base.specs.declared.side.Link.TheVariants.{Ethernet, Raw}
use Rattle.gate_base.specs.declared.side.Side.{Side}
use Rattle.ipv4_frames.specs.Ipv4.{Datagram, total_length_of}
use Rattle.stream_model.specs.Prelude.{Sender, Segment, other, session_out, limit_of}
use Rattle.tcp_segments.specs.Prelude.{tcp_header_length_of}
use Rattle.gate_model.specs.Prelude.{Whole, Kind, Stream, datagram_in, kind_of, whole_rules, WholeSession, whole_learned, out, out_by, out_kind, stream_out, taker_in, segment_of, table_after, image_in, verdict, World, Tracked, at_moment, called, source_of, destination_of, host_on}
use Rattle.twice_translate.specs.Renamed.{datagram_of}
use Rattle.lawful_files.specs.Wanted.{whole_sent, wanted_segment, wanted_kind, wanted_by, wanted, IsLawfulList}
use Rattle.stream_model.proofs.Ways.{session_lawful}

-- ## Few options

abbrev pub AreOctets : List ℕ → Type 0
AreOctets xs = All (λ octet. octet < 256) xs

pub octet_at : (xs : List ℕ) (k : ℕ) → AreOctets xs → slice_index xs k < 256
octet_at xs k h = elim (cases_lt k (length xs)) [
  | inl l ↦ h k 0 l
  | inr l ↦ (let e = get_or_past xs k 0 l in omega (arith, e))
]

carried_octets : (octets : List ℕ) → AreOctets octets → AreOctets (octets_in Ethernet octets)
unfolding read_frame
carried_octets octets h = by_test (nat_lt (length octets) 14)
  where
    by_kind : (ip : Bool) → AreOctets (cond ip (drop 14 octets) [])
    by_kind true = All-drop (λ octet. octet < 256) 14 octets h
    by_kind false = All-nil (λ octet. octet < 256)

    by_test : (short : Bool) → AreOctets (carried (cond short None (Some (fields_of octets))))
    by_test true = All-nil (λ octet. octet < 256)
    by_test false = by_kind ((fields_of octets).kind == IPV4)

pub in_octets : (link : Link) (octets : List ℕ) → AreOctets octets → AreOctets (octets_in link octets)
in_octets Raw octets h = h
in_octets Ethernet octets h = carried_octets octets h

pub payload_octets : (octets : List ℕ) → AreOctets octets → AreOctets (datagram_of octets).payload
payload_octets octets h = All-take (λ octet. octet < 256) (total_length_of octets - 20) (drop 20 octets) (All-drop (λ octet. octet < 256) 20 octets h)

few_options : (d : Datagram) → AreOctets d.payload → (segment_of d).options ≤ 40
few_options d h =
    let one = octet_at d.payload 12 h in
    let count = tcp_header_length_of d.payload in
    omega (arith, one, length-drop 20 (take count d.payload), length-take count d.payload)

pub event_options : (e : Event) → AreOctets e.octets → (segment_of (datagram_in e)).options ≤ 40
event_options e h = few_options (datagram_in e) (payload_octets (octets_in e.link e.octets) (in_octets e.link e.octets h))

-- ## Lawful lists

pub limit_some : (receiver : Sender) (g : Segment) → g.options ≤ 40 → 1 ≤ limit_of receiver.mss g
limit_some receiver g few = omega (arith, few)

segment_lawful : (image : Addr → Option Addr) (side : Side) (d : Datagram) (source destination : ℕ) (t : Option (Tracked WholeSession))
    → (segment_of d).options ≤ 40
    → IsLawfulList (wanted_segment whole_sent image side d source destination t) (stream_out whole_rules image side d source destination t)
segment_lawful image side d source destination None few = refl
segment_lawful image side d source destination (Some t) few =
    let host = host_on side t in
    let g = segment_of d in
    let x = (whole_learned image host t.session g).session in
    (session_out host x g, session_lawful host x g (limit_some (other host x) g few), refl)

kind_lawful : (live : World WholeSession) (side : Side) (moment : ℕ) (d : Datagram) (kind : Kind) → (segment_of d).options ≤ 40
    → IsLawfulList (wanted_kind whole_rules whole_sent live side moment d kind) (out_kind whole_rules live side moment d kind)
kind_lawful live side moment d (Whole payload) few = refl
kind_lawful live side moment d Stream few =
    let table = table_after whole_rules live side moment d Stream in
    segment_lawful (image_in whole_rules live side moment d) side d (called table side (source_of d)).0 (called table side (destination_of d)).0
    (taker_in whole_rules live side moment d) few

pub own_lawful : (w : World WholeSession) (e : Event) → AreOctets e.octets → IsLawfulList (wanted w e) (out whole_rules w e)
own_lawful w e octets = by_verdict (verdict whole_rules w e)
  where
    by_verdict : (v : Verdict)
        → IsLawfulList (wanted_by whole_rules whole_sent (at_moment w e.moment) e v) (out_by whole_rules (at_moment w e.moment) e v)
    by_verdict Pass = kind_lawful (at_moment w e.moment) e.side e.moment (datagram_in e) (kind_of (datagram_in e)) (event_options e octets)
    by_verdict (Refused r) = refl
    by_verdict Held = refl
