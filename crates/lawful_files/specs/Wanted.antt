-- What is wanted of an event: the datagrams that go out for it, or octets that may be cut; and the lists of datagrams that are lawful for it.
use Rattle.std.specs.Prelude.{◌≡◌, ℕ, List, [], ◌∷◌, map, Option, Some, None}
use Rattle.gate_base.specs.Prelude.{Event}
use Rattle.gate_base.specs.declared.address.Addr.{Addr}
use Rattle.verdicts.specs.declared.verdict.Verdict.{Verdict}
use Rattle.verdicts.specs.declared.verdict.Verdict.TheVariants.{Pass, Refused, Held}
use Rattle.gate_base.specs.declared.side.Side.{Side}
use Rattle.gate_base.specs.declared.host.Host.{Host}
use Rattle.frag_join.specs.Prelude.{Arrival, Reaches, Stopped}
use Rattle.ipv4_frames.specs.Ipv4.{Datagram}
use Rattle.stream_model.specs.Prelude.{Segment, Outgoing, Sent, session_sent}
use Rattle.twice_translate.specs.Renamed.{renamed}
use Rattle.gate_model.specs.Prelude.{Whole, Kind, Stream, datagram_in, kind_of, SessionRules, whole_rules, WholeSession, whole_learned, next, out_kind, taker_in, segment_of, sent_as, table_after, image_in, verdict, World, Tracked, at_moment, called, source_of, destination_of, host_on}
use Rattle.stream_model.specs.Cuts.{IsLawfulWay}

-- ## What is wanted of an event

-- just these datagrams; or what a session sends, as segments by the datagram that came and between these addresses, however its octets are cut
pub data Wanted : Type 0 where
  Exactly : List (List ℕ) → Wanted
  Cut : Datagram → ℕ → ℕ → Sent → Wanted

-- what sessions of one representation send for a segment that passes, before it is cut, by what addresses that it names first are called
abbrev pub Sends : Type 0 → Type 0
Sends S = (Addr → Option Addr) → Host → S → Segment → Sent

-- and sessions over whole lists: what the session sends once it has learned the addresses in the segment's units
abbrev pub whole_sent : Sends WholeSession
whole_sent image from x segment = session_sent from (whole_learned image from x segment).session segment

-- sessions that are read as those over whole lists send the same for each segment that passes
abbrev pub SendAlike : {S : Type 0} → (S → WholeSession) → SessionRules S → Sends S → Type 0
SendAlike {S = S} h rules sends = (image : Addr → Option Addr) (from : Host) (x : S) (segment : Segment) → rules.refusal from x segment ≡ None
    → whole_sent image from (h x) segment ≡ sends image from x segment

-- of a segment, by the session that takes it
abbrev pub wanted_segment : {S : Type 0} → Sends S → (Addr → Option Addr) → Side → Datagram → ℕ → ℕ → Option (Tracked S) → Wanted
wanted_segment sends image side d source destination None = Exactly (renamed d source destination ∷ [])
wanted_segment sends image side d source destination (Some t) = Cut d source destination (sends image (host_on side t) t.session (segment_of d))

-- of a datagram that passes, by its kind
abbrev pub wanted_kind : {S : Type 0} → SessionRules S → Sends S → World S → Side → ℕ → Datagram → Kind → Wanted
wanted_kind rules sends live side moment d Stream =
    let table = table_after rules live side moment d Stream in
    wanted_segment sends (image_in rules live side moment d) side d (called table side (source_of d)).0 (called table side (destination_of d)).0
    (taker_in rules live side moment d)
wanted_kind rules sends live side moment d (Whole payload) = Exactly (out_kind rules live side moment d (Whole payload))

-- by the verdict
abbrev pub wanted_by : {S : Type 0} → SessionRules S → Sends S → World S → Event → Verdict → Wanted
wanted_by rules sends live e Pass = let d = datagram_in e in wanted_kind rules sends live e.side e.moment d (kind_of d)
wanted_by rules sends live e (Refused refusal) = Exactly []
wanted_by rules sends live e Held = Exactly []

-- of an event, however sessions are represented
abbrev pub wanted_in : {S : Type 0} → SessionRules S → Sends S → World S → Event → Wanted
wanted_in rules sends w e = wanted_by rules sends (at_moment w e.moment) e (verdict rules w e)

-- by sessions over whole lists
abbrev pub wanted : World WholeSession → Event → Wanted
wanted w e = wanted_in whole_rules whole_sent w e

-- ## Lawful lists

-- the datagrams are what is wanted
abbrev pub IsLawfulList : Wanted → List (List ℕ) → Type 0
IsLawfulList (Exactly datagrams) list = list ≡ datagrams
IsLawfulList (Cut d source destination sent) list = (outs : List Outgoing) × IsLawfulWay sent outs × (list ≡ map (sent_as d source destination) outs)

-- ## Frames before the gate

-- the event that comes to the gate, or the frame that stays
abbrev pub event_in : Arrival → Event
event_in (Reaches e) = e
event_in (Stopped e v) = e

abbrev pub verdict_of : World WholeSession → Arrival → Verdict
verdict_of w (Reaches e) = verdict whole_rules w e
verdict_of w (Stopped e v) = v

-- of a frame that stays nothing is wanted
abbrev pub wanted_of : World WholeSession → Arrival → Wanted
wanted_of w (Reaches e) = wanted w e
wanted_of w (Stopped e v) = Exactly []

-- and it changes nothing of what is known
abbrev pub world_after : World WholeSession → Arrival → World WholeSession
world_after w (Reaches e) = next whole_rules w e
world_after w (Stopped e v) = w
