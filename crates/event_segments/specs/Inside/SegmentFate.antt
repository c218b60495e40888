-- What only proofs and private contracts need beside `SegmentFate`.
use Rattle.std.specs.Prelude.{◌≡◌, Some, None}
use Rattle.gate_base.specs.declared.side.Side.{Side}
use Rattle.binding_table.specs.Prelude.{IsLawful}
use Rattle.ipv4_frames.specs.Ipv4.{Datagram}
use Rattle.gate_model.specs.Prelude.{found_in, session_in, session_refusal, Tracked, World, SessionRules}
use Rattle.event_payloads.specs.Prelude.{IsWayOf}
use Rattle.event_payloads.specs.declared.addresses.Way.{Way}
use Rattle.dns_plans.specs.declared.stop.PlanStop.{PlanStop}
use Rattle.dns_plans.specs.declared.stop.PlanStop.TheVariants.{Refused as Stopped, OutOfMemory}
use Rattle.event_segments.specs.Segments.{stream_refusal}
use Rattle.event_segments.specs.SegmentFate.{CompletesUnit}

-- the segment is on this way, and of a connection whose session passes it
pub record IsOn {S : Type 0} (rules : SessionRules S) (live : World S) (side : Side) (d : Datagram) (way : Way) (t : Tracked S) : Type 0 where
  pub lawful : IsLawful live.table
  pub way_is : IsWayOf live side d way
  pub found : session_in (found_in live side d) ≡ Some t
  pub refusal : session_refusal rules side d (Some t) ≡ None

-- a test refuses it, or memory is wanting for its units
abbrev pub IsStopped : {S : Type 0} (rules : SessionRules S) → World S → Side → Datagram → PlanStop → Type 0
IsStopped rules live side d (Stopped refusal) = stream_refusal rules live side d ≡ Some refusal
IsStopped rules live side d OutOfMemory = CompletesUnit rules live side d
