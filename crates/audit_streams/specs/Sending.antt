-- What a session sends for a segment, as it is handed on.
use Rattle.std.specs.Prelude.{◌+◌, ◌-◌, ◌<◌, ℕ, Bool, List, length}
use Rattle.tcp_segments.specs.Prelude.{flags_octet}
use Rattle.stream_model.specs.Prelude.{Sender, Segment, start_of, Sent}
use Rattle.stream_model.specs.declared.refusals.TheConstants.{STREAM_LIMIT}

-- a segment with neither SYN nor RST that passes keeps the numbers in their ranges
pub record CanTake (sender : Sender) (segment : Segment) : Type 0 where
  pub limit : length sender.octets + (length segment.octets - (start_of sender segment).before) < STREAM_LIMIT

-- what is sent, with the flags in their octet, and whether the session ends
pub record Handed : Type 0 where
  pub sequence : ℕ
  pub acknowledgement : ℕ
  pub flags : ℕ
  pub limit : ℕ
  pub octets : List ℕ
  pub ends : Bool

-- what goes out for a segment, as it is handed on
abbrev pub handed : Sent → Bool → Handed
handed s ends = record {
  sequence = s.sequence;
  acknowledgement = s.acknowledgement;
  flags = flags_octet s.flags;
  limit = s.limit;
  octets = s.octets;
  ends = ends;
}
