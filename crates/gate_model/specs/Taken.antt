-- A segment that a session takes.
use Rattle.std.specs.Prelude.{◌≡◌, ℕ, List, Some, map}
use Rattle.gate_base.specs.Prelude.{Event}
use Rattle.verdicts.specs.declared.verdict.Verdict.TheVariants.{Pass}
use Rattle.stream_model.specs.Prelude.{Outgoing}
use Rattle.gate_model.specs.Called.{sent_from, sent_to}
use Rattle.gate_model.specs.Frame.{Stream, datagram_in, kind_of}
use Rattle.gate_model.specs.Rules.{SessionRules}
use Rattle.gate_model.specs.Step.{taker_in}
use Rattle.gate_model.specs.Stream.{segment_of, stepped, sent_as}
use Rattle.gate_model.specs.Verdict.{image_in, verdict}
use Rattle.gate_model.specs.World.{Tracked, World, at_moment, host_on}

-- the event's frame passes, and is a segment that this session takes
pub record TakesSegment {S : Type 0} (rules : SessionRules S) (w : World S) (e : Event) (t : Tracked S) : Type 0 where
  pub passes : verdict rules w e ≡ Pass
  pub stream : kind_of (datagram_in e) ≡ Stream
  pub taker : taker_in rules (at_moment w e.moment) e.side e.moment (datagram_in e) ≡ Some t

-- what the session says of it
abbrev pub segments_for : {S : Type 0} → SessionRules S → World S → Event → Tracked S → List Outgoing
segments_for rules w e t =
    rules.out (image_in rules (at_moment w e.moment) e.side e.moment (datagram_in e)) (host_on e.side t) t.session (segment_of (datagram_in e))

-- the same as datagrams, between the addresses as they are called
abbrev pub said : {S : Type 0} → SessionRules S → World S → Event → Tracked S → List (List ℕ)
said rules w e t = map (sent_as (datagram_in e) (sent_from rules w e).0 (sent_to rules w e).0) (segments_for rules w e t)

-- the session that has taken it, and has learned what its units name
abbrev pub taken_by : {S : Type 0} → SessionRules S → World S → Event → Tracked S → Tracked S
taken_by rules w e t = stepped rules (image_in rules (at_moment w e.moment) e.side e.moment (datagram_in e)) e.side (datagram_in e) t
