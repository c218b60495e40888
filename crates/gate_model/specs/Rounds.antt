-- Rounds of repeats of a tracked session, with other frames in between (RFC 9293, 3.8.1, 3.10.7.4).
use Rattle.std.specs.Prelude.{◌≡◌, ◌⊎◌, ℕ, List, [], ◌∷◌}
use Rattle.std.specs.List.{fold}
use Rattle.gate_base.specs.Prelude.{Event, peer}
use Rattle.gate_base.specs.declared.host.Host.{Host}
use Rattle.stream_model.specs.Prelude.{known, acknowledged_of, Hears, LacksOctets, LacksEnd, own, due_in, extent, arrival, place_acknowledged}
use Rattle.gate_model.specs.Frame.{datagram_in}
use Rattle.gate_model.specs.GoingOn.{streams_of, HasDataSegment}
use Rattle.gate_model.specs.Remembered.{RememberedSession, remembering_rules}
use Rattle.gate_model.specs.Step.{next}
use Rattle.gate_model.specs.Stream.{segment_of}
use Rattle.gate_model.specs.Taken.{TakesSegment, segments_for, taken_by}
use Rattle.gate_model.specs.World.{Tracked, World, host_on}

-- frames that the session doesn't take, the frame by which one host sends again, frames that the session doesn't take, how many octets of the image the other host has then, and the frame by which it answers
pub record FrameRound : Type 0 where
  pub before : List Event
  pub repeat : Event
  pub between : List Event
  pub has : ℕ
  pub answer : Event

-- what is known as these frames come
abbrev pub at_repeat : World RememberedSession → FrameRound → World RememberedSession
at_repeat w x = fold (next remembering_rules) w x.before

abbrev pub at_answer : World RememberedSession → FrameRound → World RememberedSession
at_answer w x = fold (next remembering_rules) (next remembering_rules (at_repeat w x) x.repeat) x.between

abbrev pub at_end : World RememberedSession → FrameRound → World RememberedSession
at_end w x = next remembering_rules (at_answer w x) x.answer

-- the session after the repeat, and after the answer
abbrev pub repeated : World RememberedSession → FrameRound → Tracked RememberedSession → Tracked RememberedSession
repeated w x t = taken_by remembering_rules (at_repeat w x) x.repeat t

abbrev pub answered : World RememberedSession → FrameRound → Tracked RememberedSession → Tracked RememberedSession
answered w x t = taken_by remembering_rules (at_answer w x) x.answer (repeated w x t)

-- of the stream of a host that knows so many of its octets to be acknowledged, and of whose image the other host has so many octets:
pub record IsFrameRound (host : Host) (w : World RememberedSession) (t : Tracked RememberedSession) (knows had : ℕ) (x : FrameRound) : Type 0 where
  -- while not all that is due is acknowledged, or the end isn't, the session takes a segment of its that has the first octet that isn't known to be acknowledged, or begins there and has the end;
  pub takes : TakesSegment remembering_rules (at_repeat w x) x.repeat t
  pub by : host_on x.repeat.side t ≡ host
  pub kind : HasDataSegment x.repeat
  pub lacks : let g = segment_of (datagram_in x.repeat) in LacksOctets (own host (streams_of t)) (own host (streams_of (repeated w x t))) g knows
      ⊎ LacksEnd (own host (streams_of t)) (own host (streams_of (repeated w x t))) g knows
  -- the other host hears what goes out for it,
  pub hears : Hears (known (own host (streams_of t)).initial) (due_in (own host (streams_of (repeated w x t)))) had
      (segments_for remembering_rules (at_repeat w x) x.repeat t) x.has
  -- and acknowledges all that it has by a segment that the session takes, the same one, so that it lived through what came in between
  pub takes_answer : TakesSegment remembering_rules (at_answer w x) x.answer (repeated w x t)
  pub answers_by : host_on x.answer.side t ≡ peer host
  pub answer_kind : HasDataSegment x.answer
  pub all : place_acknowledged (extent (own host (streams_of (repeated w x t)))) (arrival (segment_of (datagram_in x.answer))) ≡ x.has

-- one round after the other; what comes back with an answer is known from then on
abbrev pub AllFrameRounds : Host → World RememberedSession → Tracked RememberedSession → ℕ → ℕ → List FrameRound → Type 0
AllFrameRounds host w t knows had [] = Unit {0}
AllFrameRounds host w t knows had (x ∷ xs) = IsFrameRound host w t knows had x
    × AllFrameRounds host (at_end w x) (answered w x t) (acknowledged_of (own host (streams_of (answered w x t)))) x.has xs

-- the session after them
abbrev pub after_frame_rounds : World RememberedSession → Tracked RememberedSession → List FrameRound → Tracked RememberedSession
after_frame_rounds w t [] = t
after_frame_rounds w t (x ∷ xs) = after_frame_rounds (at_end w x) (answered w x t) xs
