-- A segment of the connection with a key.
use Rattle.std.specs.Prelude.{◌≡◌, List, [], ℕ}
use Rattle.gate_base.specs.Prelude.{IsMoment}
use Rattle.gate_model.specs.Prelude.{SessionRules, World, key_in}
use Rattle.tcp_tracker.specs.declared.connection.ConnKey.{ConnKey}
use Rattle.event_outbox.specs.declared.segment.Segment.{Segment}
use Rattle.event_payloads.specs.Prelude.{IsWayOf}
use Rattle.event_payloads.specs.declared.addresses.Way.{Way}
use Rattle.event_segments.specs.Prelude.{IsSegmentOf}
use Rattle.event_state.specs.Engines.{HasLaws}

-- this way and this key are the segment's in this world, and nothing was put yet
pub record IsOnKey {S : Type 0} (rules : SessionRules S) (live : World S) (w : Way) (k : ConnKey) (s : Segment) (sent : List (List ℕ)) : Type 0 where
  pub laws : HasLaws rules
  pub way : IsWayOf live w.side s.datagram.now w
  pub key : k ≡ key_in live.table w.side s.datagram.now
  pub moment : IsMoment w.moment.0
  pub empty : sent ≡ []
  pub whole : IsSegmentOf s.octets.now s.datagram.now s.tcp.now
