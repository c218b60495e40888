-- What goes out at an event can be written as records.
use Rattle.std.proofs.Common.{◌≡◌, ◌≤◌, ◌+◌, ℕ, false, nat_lt, List, [], ◌∷◌, ◌++◌, length, take, drop, Option, Some, None, refl, sym, ap, subst, arith, map, option_and_then, ltb-false}
use Rattle.gate_base.specs.Prelude.{Event}
use Rattle.verdicts.specs.declared.verdict.Verdict.{Verdict}
use Rattle.gate_base.specs.declared.address.Addr.{Addr}
use Rattle.verdicts.specs.declared.verdict.Verdict.TheVariants.{Pass, Refused, Held}
use Rattle.verdicts.specs.declared.refusal.Refusal.TheVariants.{SnmpTooLong}
use Rattle.gate_base.specs.declared.side.Side.{Side}
use Rattle.icmp_errors.specs.Inner.{inner_fields, inner_with}
use Rattle.binding_table.specs.Prelude.{Bindings}
use Rattle.ipv4_frames.specs.Ipv4.{Datagram}
use Rattle.stream_model.specs.Prelude.{Sender, Segment, Outgoing, other, Piece, limit_of, session_out, Sent, session_sent, ArePieces, segment_with, MaySend}
use Rattle.twice_translate.specs.Renamed.{with_payload}
use Rattle.gate_model.specs.Prelude.{Whole, Kind, Udp, Echo, Error, Dns, Snmp, Stream, datagram_in, kind_of, inside, inner_number, management_after}
use Rattle.gate_model.specs.Prelude.{names_after, whole_rules, WholeSession, whole_learned, out, out_by, out_kind, stream_out}
use Rattle.gate_model.specs.Prelude.{taker_in, segment_of, sent_as, table_after, image_in, verdict, World, Tracked, at_moment, called, source_of}
use Rattle.gate_model.specs.Prelude.{destination_of, host_on}
use Rattle.gate_model.specs.declared.TheConstants.{MOST_CARRIED}
use Rattle.gate_model.proofs.Passing.{Passes, none_head, passes}
use Rattle.lawful_files.proofs.SentLists.{AreOctets, event_options, limit_some}
use Rattle.runs_are_lawful.proofs.ShortNames.{names_short}
use Rattle.runs_are_lawful.proofs.Shorts.{IsShort, event_short, renamed_short, sent_short, error_short, rebuilt_short}
use Rattle.stream_model.proofs.Ways.{session_limit, session_lawful}

-- each has at most 131,072 octets, which is far more than a datagram can have, and leaves room for a head in a record
abbrev pub AreShort : List (List ℕ) → Type 0
AreShort [] = Unit {0}
AreShort (d ∷ ds) = (length d ≤ 131072) × AreShort ds

-- ## Segments of sessions

abbrev AreSmall : ℕ → List Outgoing → Type 0
AreSmall most [] = Unit {0}
AreSmall most (o ∷ os) = (length o.octets ≤ most) × AreSmall most os

pieces_small : (s : Sent) (place : ℕ) (all : List ℕ) (ps : List Piece) → ArePieces s place all ps → AreSmall s.limit (map (segment_with s) ps)
pieces_small s place all [] h = tt
pieces_small s place all (p ∷ ps) h = (h.1.few, pieces_small s (place + length p.octets) h.0 ps h.2)

way_small : (s : Sent) (octets : List ℕ) (outs : List Outgoing) → s.octets ≡ octets → MaySend s octets outs → AreSmall s.limit outs
way_small s [] outs e h = subst (AreSmall s.limit) (sym h) (omega (arith, ap length e), tt)
way_small s (x ∷ octets) outs e h = subst (AreSmall s.limit) (sym h.2) (pieces_small s 0 (x ∷ octets) h.0 h.1)

datagrams_short : (d : Datagram) (source destination most : ℕ) (outs : List Outgoing) → IsShort d → most ≤ 65495 → AreSmall most outs
    → AreShort (map (sent_as d source destination) outs)
datagrams_short d source destination most [] h few small = tt
datagrams_short d source destination most (o ∷ outs) h few small =
    (sent_short d source destination o h (omega (arith, few, small.0)), datagrams_short d source destination most outs h few small.1)

limit_most : (receiver : Sender) (g : Segment) → limit_of receiver.mss g ≤ 65495
limit_most receiver g = omega arith

session_short : (image : Addr → Option Addr) (side : Side) (d : Datagram) (source destination : ℕ) (t : Tracked WholeSession) → IsShort d
    → (segment_of d).options ≤ 40
    → AreShort (map (sent_as d source destination)
    (session_out (host_on side t) (whole_learned image (host_on side t) t.session (segment_of d)).session (segment_of d)))
session_short image side d source destination t h options =
    let host = host_on side t in
    let g = segment_of d in
    let x = (whole_learned image host t.session g).session in
    let s = session_sent host x g in
    datagrams_short d source destination s.limit (session_out host x g) h (omega (arith, session_limit host x g, limit_most (other host x) g))
    (way_small s s.octets (session_out host x g) refl (session_lawful host x g (limit_some (other host x) g options)))

-- ## Any event

stream_short : (image : Addr → Option Addr) (side : Side) (d : Datagram) (source destination : ℕ) (t : Option (Tracked WholeSession)) → IsShort d
    → (segment_of d).options ≤ 40 → AreShort (stream_out whole_rules image side d source destination t)
stream_short image side d source destination None h options = (renamed_short d d.payload source destination h.header (omega (arith, h.payload)), tt)
stream_short image side d source destination (Some t) h options = session_short image side d source destination t h options

-- a message of SNMP that is no longer than a datagram holds
management_short : (table : Bindings) (side : Side) (d : Datagram) → nat_lt MOST_CARRIED (length (management_after table side d)) ≡ false
    → length (management_after table side d) ≤ 66000
management_short table side d e = omega (arith, ltb-false 65507 (length (management_after table side d)) e)

kind_short : (live : World WholeSession) (side : Side) (moment : ℕ) (d : Datagram) (kind : Kind) → Passes whole_rules live side moment d kind
    → IsShort d → (segment_of d).options ≤ 40 → AreShort (out_kind whole_rules live side moment d kind)
kind_short live side moment d (Whole Udp) p h options =
    let table = table_after whole_rules live side moment d (Whole Udp) in
    (renamed_short d d.payload (called table side (source_of d)).0 (called table side (destination_of d)).0 h.header (omega (arith, h.payload)), tt)
kind_short live side moment d (Whole Echo) p h options =
    let table = table_after whole_rules live side moment d (Whole Echo) in
    (renamed_short d d.payload (called table side (source_of d)).0 (called table side (destination_of d)).0 h.header (omega (arith, h.payload)), tt)
kind_short live side moment d (Whole Error) p h options =
    let table = table_after whole_rules live side moment d (Whole Error) in
    let inner = inner_fields (inside d) in
    let source = (called live.table side inner.source).0 in
    let destination = (called live.table side inner.destination).0 in
    let number = option_and_then (λ n. n) (inner_number whole_rules live side inner) in (
      renamed_short d (take 8 d.payload ++ inner_with (drop 8 d.payload) source destination number) (called table side (source_of d)).0
          (called table side (destination_of d)).0 h.header (error_short d source destination number h.payload),
      tt,
    )
kind_short live side moment d (Whole Dns) p h options =
    let table = table_after whole_rules live side moment d (Whole Dns) in
    let names = names_after live.table table side d in (
      renamed_short d (with_payload d names).payload (called table side (source_of d)).0 (called table side (destination_of d)).0 h.header
          (rebuilt_short d names (names_short live.table table side d h.payload)),
      tt,
    )
kind_short live side moment d (Whole Snmp) p h options =
    let table = table_after whole_rules live side moment d (Whole Snmp) in
    let message = management_after table side d in
    let few = management_short table side d (none_head {test = (nat_lt MOST_CARRIED (length message), SnmpTooLong)} {more = []} p.late) in (
      renamed_short d (with_payload d message).payload (called table side (source_of d)).0 (called table side (destination_of d)).0 h.header
          (rebuilt_short d message few),
      tt,
    )
kind_short live side moment d Stream p h options =
    let table = table_after whole_rules live side moment d Stream in
    stream_short (image_in whole_rules live side moment d) side d (called table side (source_of d)).0 (called table side (destination_of d)).0
    (taker_in whole_rules live side moment d) h options

pub out_short : (w : World WholeSession) (e : Event) → AreOctets e.octets → AreShort (out whole_rules w e)
out_short w e h = by_verdict (verdict whole_rules w e) refl
  where
    by_verdict : (v : Verdict) → verdict whole_rules w e ≡ v → AreShort (out_by whole_rules (at_moment w e.moment) e v)
    by_verdict Pass p =
        kind_short (at_moment w e.moment) e.side e.moment (datagram_in e) (kind_of (datagram_in e)) (passes whole_rules w e p)
        (event_short e h) (event_options e h)
    by_verdict (Refused r) p = tt
    by_verdict Held p = tt
