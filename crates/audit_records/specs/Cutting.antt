-- What a session sends for a segment, with the segment by which its pieces are made.
use Rattle.std.specs.Prelude.{ℕ}
use Rattle.audit_streams.specs.Sending.{Handed}
use Rattle.ipv4_frames.specs.Ipv4.{Datagram}
use Rattle.tcp_segments.specs.Prelude.{flags_of}
use Rattle.stream_model.specs.Prelude.{Sent}

-- the segment's datagram, its addresses in the other realm, and what is sent for it
pub record Cutting : Type 0 where
  pub datagram : Datagram
  pub source : ℕ
  pub destination : ℕ
  pub sent : Sent

-- what is sent, by what a session hands on
abbrev pub told : Handed → Sent
told s = record { sequence = s.sequence; acknowledgement = s.acknowledgement; flags = flags_of s.flags; limit = s.limit; octets = s.octets }
