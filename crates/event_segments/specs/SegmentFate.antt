-- What is found of a segment's connection, and what its units do.
use Rattle.std.specs.Prelude.{◌≡◌, ◌≢◌, ◌≤◌, ℕ, true, ◌+◌, List, [], ◌∷◌, ◌++◌, take, length, Option, Some, None, is_some}
use Rattle.std.specs.List.{All}
use Rattle.gate_base.specs.declared.address.Addr.{Addr}
use Rattle.gate_base.specs.declared.side.Side.{Side}
use Rattle.gate_base.specs.Prelude.{other}
use Rattle.gate_base.specs.declared.host.Host.TheVariants.{Client, Server}
use Rattle.binding_table.specs.Prelude.{cross, free, Use, needed}
use Rattle.binding_table.specs.declared.binding.Crossing.TheVariants.{Unbound}
use Rattle.ipv4_frames.specs.Ipv4.{Datagram}
use Rattle.gate_model.specs.Prelude.{renamed_in, found_in, session_in, session_refusal, uses_until, units_in}
use Rattle.gate_model.specs.Prelude.{names_in, entries_after, image_in, Tracked, World, addresses_of, SessionRules}
use Rattle.dialogue.specs.declared.TheConstants.{MOST_ENTRIES}
use Rattle.event_payloads.specs.declared.addresses.Way.{Way}
use Rattle.dialogue.specs.Prelude.{AreImages}
use Rattle.dns_stream.specs.Prelude.{dns_units}
use Rattle.dns_plans.specs.Prelude.{beside}
use Rattle.dns_plans.specs.declared.plan.UnitPlan.{UnitPlan}
use Rattle.event_segments.specs.Segments.{stream_refusal}
use Rattle.event_segments.specs.declared.found.SegmentFate.{SegmentFate}
use Rattle.event_segments.specs.declared.found.SegmentFate.TheVariants.{Absent, Untracked, Tracked as TrackedBy, Refused, Lost}
use Rattle.event_segments.specs.declared.found.SegmentPlan.{SegmentPlan}

-- what an address that the segment names first is called
abbrev pub image_of : {S : Type 0} (rules : SessionRules S) → World S → Side → Datagram → Addr → Option Addr
image_of rules live side d = image_in rules live side live.clock d

-- the addresses that it uses but for those of its session's lists
abbrev pub used_by : {S : Type 0} (rules : SessionRules S) → Side → Datagram → Tracked S → List Addr
used_by rules side d t = addresses_of d ++ names_in rules side d (Some t)

-- no test refuses it; the plan has the addresses that its units name, each beside what it is called, and images of the units by the list afterwards
pub record IsUnitPlan {S : Type 0} (rules : SessionRules S) (live : World S) (side : Side) (d : Datagram) (t : Tracked S)
    (plan : UnitPlan) : Type 0 where
  pub passes : stream_refusal rules live side d ≡ None
  pub bound : All (λ address. cross live.table side address ≢ Unbound) (used_by rules side d t)
  pub room : needed live.table side (used_by rules side d t) ≤ free live.table (other side)
  pub few : length (entries_after rules (image_of rules live side d) side d (Some t)) ≤ MOST_ENTRIES
  pub named : plan.named.items ≡ names_in rules side d (Some t)
  pub entries : plan.entries.items ≡ beside (image_of rules live side d) (names_in rules side d (Some t))
  pub images : AreImages (dns_units (entries_after rules (image_of rules live side d) side d (Some t))) plan.images.items

-- it is of a session of DNS that doesn't refuse it, and completes a unit
pub record CompletesUnit {S : Type 0} (rules : SessionRules S) (live : World S) (side : Side) (d : Datagram) : Type 0 where
  pub tracked : Tracked S
  pub found : session_in (found_in live side d) ≡ Some tracked
  pub completes : 1 ≤ length (units_in rules side d (Some tracked))

-- its session takes it, with such a plan and so many entries in each list before it
pub record IsPlanOf {S : Type 0} (rules : SessionRules S) (live : World S) (side : Side) (d : Datagram) (t : Tracked S)
    (plan : SegmentPlan) : Type 0 where
  pub found : session_in (found_in live side d) ≡ Some t
  pub refusal : session_refusal rules side d (Some t) ≡ None
  pub units : IsUnitPlan rules live side d t plan.units
  pub client : plan.client ≡ length (rules.listed Client t.session)
  pub server : plan.server ≡ length (rules.listed Server t.session)

-- what is found: no connection, one without a session, or one with a session, by which or behind which the segment is refused, or that takes it; or memory is wanting for its units
abbrev pub IsFound : {S : Type 0} (rules : SessionRules S) → World S → Side → Datagram → SegmentFate → Type 0
IsFound rules live side d Absent = found_in live side d ≡ None
IsFound rules live side d Untracked = (is_some (found_in live side d) ≡ true) × (session_in (found_in live side d) ≡ None)
IsFound {S = S} rules live side d (TrackedBy plan) = (t : Tracked S) × IsPlanOf rules live side d t plan
IsFound rules live side d (Refused refusal) = stream_refusal rules live side d ≡ Some refusal
IsFound rules live side d Lost = CompletesUnit rules live side d

-- the uses of a segment by its plan, where its session has become this one: of its header, of what its units name, and of what each list renamed before
abbrev pub uses_planned : {S : Type 0} (rules : SessionRules S) → Way → SegmentPlan → ℕ → Tracked S → List Use
uses_planned rules way plan timeout t =
    let until = way.moment.0 + timeout in
    uses_until way.side until (way.source ∷ way.destination ∷ [])
    ++ (uses_until way.side until plan.units.named.items
    ++ (uses_until t.client until (renamed_in (take plan.client (rules.listed Client t.session))) ++ uses_until (other t.client) until
    (renamed_in (take plan.server (rules.listed Server t.session)))))
