-- What goes out for a segment that passes, by what is kept of its sender and of its receiver.
use Rattle.std.specs.Prelude.{ℕ, Bool, List, Option}
use Rattle.gate_base.specs.declared.host.Host.{Host}
use Rattle.gate_base.specs.declared.host.Host.TheVariants.{Client, Server}
use Rattle.dialogue.specs.Prelude.{Meaning}
use Rattle.shift_ledger.specs.Prelude.{fore_by, rear_by, copied_by}
use Rattle.stream_model.specs.Prelude.{Segment, Outgoing, arrival, start_at, Standing, Sent, sent_by, in_pieces, ends_by, inner_by}
use Rattle.stream_model.specs.declared.numbers.Offset.{Offset}
use Rattle.compact_stream.specs.Kept.{CompactSender, extent_kept, recent_start, back_kept, taken_kept}
use Rattle.compact_stream.specs.Sessions.{CompactState, sender_kept}

-- Where a segment starts, seen from the end of its sender's octets.
abbrev pub start_kept : CompactSender → Segment → Offset
start_kept h segment = start_at (extent_kept h) (arrival segment)

-- The first octet that is not acknowledged to its sender, which may be sent again.
abbrev pub recent_back : CompactSender → ℕ
recent_back h = back_kept h h.acked

-- What is kept of a sender answers by its ledger and by the recent octets.
abbrev pub standing_kept : CompactSender → Standing
standing_kept h = record {
  extent = extent_kept h;
  mss = h.mss;
  acked = h.acked;
  back = back_kept h;
  fore = fore_by h.ledger;
  rear = rear_by h.ledger;
  part = λ first past. copied_by h.ledger first past (recent_start h) h.recent;
}

-- What goes out for a segment, by what is kept before it of its sender and its receiver.
abbrev pub sender_sent : Meaning → CompactSender → CompactSender → Segment → Sent
sender_sent m h receiver segment =
    sent_by (standing_kept h) (standing_kept (taken_kept m h segment)) (standing_kept receiver) segment

-- The same as segments, for a segment of a host.
abbrev pub kept_out : Meaning → Meaning → Host → CompactState → Segment → List Outgoing
kept_out m n Client h segment = in_pieces (sender_sent m h.client h.server segment)
kept_out m n Server h segment = in_pieces (sender_sent n h.server h.client segment)

-- It ends the session, or doesn't.
abbrev pub kept_ends : Host → CompactState → Segment → Bool
kept_ends from h segment = ends_by (standing_kept (sender_kept from h)) segment

-- The number that an ICMP error brings back, as its sender gave it.
abbrev pub inner_kept : Host → CompactState → ℕ → Option ℕ
inner_kept host h number = inner_by (standing_kept (sender_kept host h)) (sender_kept host h).initial number
