-- What goes out of a segment that a session takes.
use Rattle.std.proofs.Common.{◌≡◌, ℕ, List, Option, Some, ap, ◌∙◌, map}
use Rattle.gate_base.specs.declared.address.Addr.{Addr}
use Rattle.gate_base.specs.declared.event.Pair.{Pair}
use Rattle.gate_base.specs.declared.side.Side.{Side}
use Rattle.gate_base.specs.declared.host.Host.{Host}
use Rattle.dialogue.specs.Prelude.{Entry}
use Rattle.ipv4_frames.specs.Ipv4.{Datagram}
use Rattle.gate_model.specs.Prelude.{segment_of, sent_as, stream_out, Tracked}
use Rattle.gate_sessions.specs.Compact.{CompactSession, compact_rules}
use Rattle.event_segments.proofs.SteppedSessions.{IsSeen}

pub gone_is : (client : Side) (pair : Pair) (session : CompactSession) (f : Host) (side : Side) (d : Datagram) (t : Tracked CompactSession)
    (image : Addr → Option Addr) (entries : List Entry) (source destination : ℕ) (sent : List (List ℕ))
    → IsSeen compact_rules client pair session f side d t image entries
    → sent ≡ map (sent_as d source destination) (compact_rules.out image f session (segment_of d))
    → sent ≡ stream_out compact_rules image side d source destination (Some t)
gone_is client pair session f side d t image entries source destination sent i e =
    e
    ∙ ap (λ (x : Tracked CompactSession). map (sent_as d source destination) (compact_rules.out image f x.session (segment_of d))) i.seen
    ∙ ap (λ (b : Host). map (sent_as d source destination) (compact_rules.out image b t.session (segment_of d))) i.sender
