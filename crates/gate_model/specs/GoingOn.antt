-- That tracked sessions go on, those of FTP and those of DNS.
use Rattle.std.specs.Prelude.{◌≡◌, ◌⊎◌, true, List, Some, Contains}
use Rattle.std.specs.List.{AllByRecursion}
use Rattle.gate_base.specs.Prelude.{Event}
use Rattle.gate_base.specs.declared.host.Host.{Host}
use Rattle.stream_model.specs.Prelude.{number_at, known, acknowledged_of, Brings, OnlyHeldWaits, Session, Segment, Outgoing, own, other, arrival, is_data}
use Rattle.tcp_tracker.specs.declared.connection.Connection.{Connection}
use Rattle.gate_model.specs.Frame.{datagram_in}
use Rattle.gate_model.specs.Remembered.{RememberedSession, remembering_rules}
use Rattle.gate_model.specs.Stream.{segment_of}
use Rattle.gate_model.specs.Taken.{TakesSegment, segments_for, taken_by}
use Rattle.gate_model.specs.World.{Tracked, World, host_on}

-- both hosts' streams of a session
abbrev pub streams_of : Tracked RememberedSession → Session
streams_of t = t.session.session.session

-- of neither host's octets anything waits but a held rest
abbrev pub OnlyRestsWait : Session → Type 0
OnlyRestsWait s = (host : Host) → OnlyHeldWaits (own host s)

-- the segment of an event's frame, which has neither SYN nor RST
abbrev pub HasDataSegment : Event → Type 0
HasDataSegment e = is_data (arrival (segment_of (datagram_in e))) ≡ true

-- for a segment of a host that makes this session of that one
pub record GoesOn (from : Host) (before after : Session) (g : Segment) (outs : List Outgoing) : Type 0 where
  -- what goes out brings what is lacking of its sender's stream,
  pub brings : Brings (own from before) (own from after) g outs
  -- each of it acknowledges to the other host all of its octets whose images are acknowledged by then,
  pub carries : let receiver = other from after in
      AllByRecursion (λ o. o.acknowledgement ≡ number_at (known receiver.initial) (acknowledged_of receiver)) outs
  -- and nothing waits then but held rests
  pub waits : OnlyRestsWait after

-- so it is for the segment of an event, which this session takes
abbrev pub GoesOnBy : World RememberedSession → Event → Tracked RememberedSession → Type 0
GoesOnBy w e t =
    GoesOn (host_on e.side t) (streams_of t) (streams_of (taken_by remembering_rules w e t)) (segment_of (datagram_in e))
    (segments_for remembering_rules w e t)

-- a session is tracked
pub record IsTracked (all : List (Connection (Tracked RememberedSession))) (t : Tracked RememberedSession) : Type 0 where
  pub connection : Connection (Tracked RememberedSession)
  pub stands : Contains all connection
  pub session : connection.session ≡ Some t

-- a session has taken an event's segment
pub record HasTaken (w : World RememberedSession) (e : Event) (after : Tracked RememberedSession) : Type 0 where
  pub before : Tracked RememberedSession
  pub takes : TakesSegment remembering_rules w e before
  pub is : after ≡ taken_by remembering_rules w e before

-- a session that is tracked after an event was tracked before it just so, or has taken the event's segment
abbrev pub ComesThrough : World RememberedSession → Event → Tracked RememberedSession → Type 0
ComesThrough w e t = IsTracked w.connections t ⊎ HasTaken w e t
