-- What a session sends for a segment that it takes, by what is seen of it.
use Rattle.std.proofs.Common.{◌≡◌, ◌≤◌, ◌+◌, ◌-◌, ℕ, Option, Some, List, sym, ap, refl, subst, ◌∙◌, arith, length, drop, length-drop}
use Rattle.gate_base.specs.declared.address.Addr.{Addr}
use Rattle.gate_base.specs.declared.event.Pair.{Pair}
use Rattle.gate_base.specs.declared.side.Side.{Side}
use Rattle.gate_base.specs.declared.host.Host.{Host}
use Rattle.ipv4_frames.specs.Ipv4.{Datagram, fields_of}
use Rattle.twice_translate.specs.Renamed.{datagram_of}
use Rattle.tcp_segments.specs.Prelude.{Tcp}
use Rattle.dialogue.specs.Prelude.{Entry}
use Rattle.stream_model.specs.Prelude.{Segment, segment_in}
use Rattle.audit_streams.specs.Sending.{Handed, handed}
use Rattle.gate_model.specs.Prelude.{whole_learned, tcp_of, segment_of, Tracked}
use Rattle.lawful_files.specs.Prelude.{Cut, wanted_segment}
use Rattle.audit_sessions.specs.Heard.{HeardSession, heard_rules, heard_sent, session_in}
use Rattle.audit_records.specs.Cutting.{Cutting, told}
use Rattle.audit_records.proofs.Told.{told_back, fits_is}
use Rattle.event_segments.proofs.SteppedSessions.{IsSeen}

whole : (d : Datagram) (octets : List ℕ) → datagram_of octets ≡ d → fields_of d.header d.payload ≡ d
whole d octets e = subst (λ (x : Datagram). fields_of x.header x.payload ≡ x) e refl

-- what is sent is what is wanted
pub sent_wanted : (client : Side) (pair : Pair) (session : HeardSession) (f : Host) (side : Side) (d : Datagram) (t : Tracked HeardSession)
    (image : Addr → Option Addr) (entries : List Entry) (octets : List ℕ) (g : Segment) (source destination : ℕ) (sent : Handed) (pieces : Cutting)
    → IsSeen heard_rules client pair session f side d t image entries → datagram_of octets ≡ d → g ≡ segment_of d →
    sent ≡ handed (heard_sent image f session g) (heard_rules.ends f session g)
    → pieces ≡ record { datagram = fields_of d.header d.payload; source = source; destination = destination; sent = told sent } →
    Cut pieces.datagram pieces.source pieces.destination pieces.sent ≡ wanted_segment heard_sent image side d source destination (Some t)
sent_wanted client pair session f side d t image entries octets g source destination sent pieces i same is s p =
    ap (λ (x : Cutting). Cut x.datagram x.source x.destination x.sent) p
    ∙ ap (λ (x : Datagram). Cut x source destination (told sent)) (whole d octets same)
    ∙ ap (λ (x : Handed). Cut d source destination (told x)) s
    ∙ ap (Cut d source destination) (told_back (heard_sent image f session g) (heard_rules.ends f session g))
    ∙ ap (λ (x : Segment). Cut d source destination (heard_sent image f session x)) is
    ∙ ap (λ (x : Tracked HeardSession). Cut d source destination (heard_sent image f x.session (segment_of d))) i.seen
    ∙ ap (λ (b : Host). Cut d source destination (heard_sent image b t.session (segment_of d))) i.sender

-- each piece fits a datagram
pub pieces_fit : (d : Datagram) (tcp : Tcp) (session : HeardSession) (f : Host) (image : Addr → Option Addr) (sent : Handed) (header : List ℕ)
    → tcp ≡ tcp_of d → sent ≡ handed (heard_sent image f session (segment_in tcp)) (heard_rules.ends f session (segment_in tcp)) → header ≡ tcp.header
    → length header ≤ 60 → sent.limit + (length tcp.header - 20) ≤ 65495
pieces_fit d tcp session f image sent header is s same few =
    let options : length tcp.options ≡ length tcp.header - 20 =
    ap length (ap (λ (t : Tcp). t.options) is ∙ sym (ap (λ (t : Tcp). drop 20 t.header) is)) ∙ length-drop 20 tcp.header in
    fits_is f (whole_learned image f (session_in session) (segment_in tcp)).session tcp (heard_rules.ends f session (segment_in tcp)) sent s options
    (omega (arith, ap length same, few))
