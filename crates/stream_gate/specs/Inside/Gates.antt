-- What only proofs and private contracts need beside `Gates`.
use Rattle.std.specs.Prelude.{◌≤◌, ◌<◌, ◌+◌, ◌-◌, ℕ, List, length}
use Rattle.tcp_segments.specs.Prelude.{one_if}
use Rattle.tcp_segments.specs.declared.TheConstants.{MOST_PAYLOAD}
use Rattle.resegment.specs.declared.put.SegmentModel.{SegmentModel}
use Rattle.dialogue.specs.Prelude.{Meaning}
use Rattle.dialogue.specs.declared.TheConstants.{MOST_RECENT}
use Rattle.stream_model.specs.Prelude.{Segment, arrival, place_acknowledged, Sent, other_sent, acknowledgement_at, acked_with, limit_of}
use Rattle.compact_stream.specs.Prelude.{CompactSender, extent_kept, octets_kept, start_kept, standing_kept, taken_kept, recent_back}
use Rattle.shift_ledger.specs.Prelude.{fore_by}
use Rattle.stream_model.specs.declared.step.Going.{Going}
use Rattle.stream_gate.specs.Segments.{Headers}
use Rattle.stream_model.specs.declared.refusals.TheConstants.{STREAM_LIMIT}

-- a segment with neither SYN nor RST that passes keeps the numbers in their ranges
pub record CanPass (own other : CompactSender) (g : Segment) : Type 0 where
  pub near : (start_kept own g).after ≤ 1
  pub limit : octets_kept own + (length g.octets - (start_kept own g).before) < STREAM_LIMIT
  pub recent : 1 ≤ length g.octets - (start_kept own g).before → length own.recent + (length g.octets - (start_kept own g).before) ≤ MOST_RECENT
  pub place : place_acknowledged (extent_kept other) (arrival g) ≤ other.ledger.octets_out + one_if other.ended

-- the headers and new fields that all datagrams of a segment have
abbrev pub headers_by : SegmentModel → Headers
headers_by m = record { ip = m.ip.now; tcp = m.tcp.now; source = m.source.0; destination = m.destination.0; lifetime = m.lifetime }

-- so much of the image can be copied from the recent octets
pub record CanCopy (h : CompactSender) (low high : ℕ) : Type 0 where
  pub from : fore_by h.ledger (recent_back h) ≤ low
  pub back : recent_back h ≤ octets_kept h
  pub within : high ≤ h.ledger.octets_out
  pub few : high - low ≤ 98304

-- its octets can be copied, and cut into pieces each of which fits a datagram behind such a TCP header
pub record CanCut (h : CompactSender) (tcp : List ℕ) (g : Going) : Type 0 where
  pub copies : CanCopy h g.first g.past
  pub some : 48 ≤ g.limit
  pub fits : g.limit + (length tcp - 20) ≤ MOST_PAYLOAD

-- what goes out for a segment with neither SYN nor RST
abbrev pub data_kept : Meaning → CompactSender → CompactSender → Segment → Sent
data_kept m h receiver segment =
    other_sent (extent_kept h) (standing_kept (taken_kept m h segment)) (start_kept h segment) segment
    (acknowledgement_at (standing_kept receiver) (acked_with (standing_kept receiver) segment)) (limit_of receiver.mss segment)
