-- The first reason for which a segment of a session is refused (RFC 9293, 3.10.7), by what is known of its sender, its receiver and itself.
use Rattle.std.specs.Prelude.{◌+◌, ◌-◌, Bool, not, ◌&&◌, ◌||◌, cond, nat_lt, nat_le, ◌==◌, List, [], ◌∷◌, Option, is_some, is_none}
use Rattle.dialogue.specs.declared.TheConstants.{MOST_RECENT}
use Rattle.verdicts.specs.Prelude.{first_that_holds}
use Rattle.verdicts.specs.declared.refusal.Refusal.{Refusal}
use Rattle.verdicts.specs.declared.refusal.Refusal.TheVariants.{NoSession, SynData, SynInSession, NoAck, Gap, PastEnd, AckAhead, Unlike, StreamLimit, Backlog}
use Rattle.gate_base.specs.declared.host.Host.{Host}
use Rattle.gate_base.specs.declared.host.Host.TheVariants.{Client, Server}
use Rattle.tcp_segments.specs.Prelude.{one_if}
use Rattle.stream_model.specs.Numbers.{number_at, known, is_number}
use Rattle.stream_model.specs.Session.{Session, Segment, own, other, extent, arrival, start_at, acknowledged_at, repeats_unlike}
use Rattle.stream_model.specs.declared.numbers.Offset.{Offset}
use Rattle.stream_model.specs.declared.refusals.Arrival.{Arrival}
use Rattle.stream_model.specs.declared.refusals.Extent.{Extent}
use Rattle.stream_model.specs.declared.refusals.TheConstants.{STREAM_LIMIT}

-- a segment with neither SYN nor RST
abbrev pub is_data : Arrival → Bool
is_data segment = not segment.flags.syn && not segment.flags.reset

-- such a segment, and an initial number is not known
abbrev pub no_session : Extent → Extent → Arrival → Bool
no_session sender receiver segment = is_data segment && (is_none sender.initial || is_none receiver.initial)

-- a SYN with octets, FIN or RST
abbrev pub syn_data : Arrival → Bool
syn_data segment = segment.flags.syn && (nat_lt 0 segment.count || segment.flags.fin || segment.flags.reset)

-- the client's SYN has no ACK and repeats its number; the server's has ACK, and brings its number or repeats it
abbrev pub opens : Host → Extent → Arrival → Bool
opens Client sender segment = not segment.flags.ack && is_number sender.initial segment.sequence
opens Server sender segment = segment.flags.ack && (is_none sender.initial || is_number sender.initial segment.sequence)

-- a SYN that is neither
abbrev pub syn_in_session : Host → Extent → Arrival → Bool
syn_in_session from sender segment = segment.flags.syn && not (opens from sender segment)

-- neither SYN nor RST nor ACK
abbrev pub no_ack : Arrival → Bool
no_ack segment = is_data segment && not segment.flags.ack

-- no SYN, and it starts after the sender's octets so far and their end
abbrev pub gap : Extent → Arrival → Bool
gap sender segment = not segment.flags.syn && is_some sender.initial && nat_lt (one_if sender.ended) (start_at sender segment).after

-- with its start: octets beyond an end; an end that is not where the octets ended; an end before the octets so far
abbrev pub past_end_at : Extent → Arrival → Offset → Bool
past_end_at sender segment start =
    (sender.ended && nat_lt 0 segment.count && nat_lt start.before (start.after + segment.count))
    || (sender.ended && segment.flags.fin && not (start.after + segment.count == start.before))
    || (not sender.ended && segment.flags.fin && nat_lt (start.after + segment.count) start.before)

-- it has neither SYN nor RST, and is past an end
abbrev pub past_end : Extent → Arrival → Bool
past_end sender segment = is_data segment && past_end_at sender segment (start_at sender segment)

-- a SYN with ACK acknowledges the client's initial number; no other segment acknowledges more than was sent
abbrev pub ack_ahead : Extent → Arrival → Bool
ack_ahead receiver segment =
    cond (segment.flags.syn && segment.flags.ack)
    (not (segment.acknowledgement == number_at (known receiver.initial) 0))
    (segment.flags.ack && is_some receiver.initial && nat_lt (one_if receiver.ended) (acknowledged_at receiver segment).after)

-- the sender would have STREAM_LIMIT octets or more
abbrev pub stream_limit : Extent → Arrival → Bool
stream_limit sender segment = is_data segment && nat_le STREAM_LIMIT (sender.octets + (segment.count - (start_at sender segment).before))

-- it adds octets, and more than 65,536 of the sender's would be recent
abbrev pub backlog : Extent → Arrival → Bool
backlog sender segment =
    let added = segment.count - (start_at sender segment).before in
    is_data segment && nat_lt 0 added && nat_lt MOST_RECENT (sender.recent + added)

-- the tests in their order, where it is known whether the segment repeats unlike
abbrev pub tests : Host → Extent → Extent → Arrival → Bool → List (Bool × Refusal)
tests from sender receiver segment unlike =
    (no_session sender receiver segment, NoSession)
    ∷ (syn_data segment, SynData)
    ∷ (syn_in_session from sender segment, SynInSession)
    ∷ (no_ack segment, NoAck)
    ∷ (gap sender segment, Gap)
    ∷ (past_end sender segment, PastEnd)
    ∷ (ack_ahead receiver segment, AckAhead)
    ∷ (is_data segment && unlike, Unlike)
    ∷ (stream_limit sender segment, StreamLimit)
    ∷ (backlog sender segment, Backlog)
    ∷ []

-- why a segment is refused, by what is known of both senders and of the segment
abbrev pub refusal_of : Host → Extent → Extent → Arrival → Bool → Option Refusal
refusal_of from sender receiver segment unlike = first_that_holds (tests from sender receiver segment unlike)

-- why a segment of a host is refused
abbrev pub segment_refusal : Host → Session → Segment → Option Refusal
segment_refusal from s segment = refusal_of from (extent (own from s)) (extent (other from s)) (arrival segment) (repeats_unlike (own from s) segment)
