-- Fragments are joined (RFC 791, 3.2).
use Rattle.std.specs.Prelude.{ℕ, ◌+◌, Bool, true, not, ◌&&◌, nat_lt, nat_le, if◌then◌else◌, List, [], ◌∷◌, ◌++◌, length, filter}
use Rattle.std.specs.Prelude.{map, fold, position, slice_get, slice_set, Option, Some, None, is_some, option_and_then}
use Rattle.std.specs.List.{remove}
use Rattle.gate_base.specs.Prelude.{Event}
use Rattle.verdicts.specs.Prelude.{first_that_holds}
use Rattle.gate_base.specs.declared.side.Side.{Side}
use Rattle.gate_base.specs.declared.side.Link.TheVariants.{Raw}
use Rattle.verdicts.specs.declared.refusal.Refusal.{Refusal}
use Rattle.verdicts.specs.declared.refusal.Refusal.TheVariants.{IpOptions, BadFragment, FragmentsFull}
use Rattle.ipv4_frames.specs.Ipv4.{has_options}
use Rattle.frag_join.specs.declared.joiner.TheConstants.{MOST_JOINED}
use Rattle.frag_join.specs.declared.part.TheConstants.{JOIN_TIMEOUT}
use Rattle.frag_join.specs.declared.part.Name.{Name}
use Rattle.frag_join.specs.declared.part.Part.{Part}
use Rattle.frag_join.specs.declared.taken.Taken.{Taken}
use Rattle.frag_join.specs.declared.taken.Taken.TheVariants.{Plain, Held, Joined, Refused}
use Rattle.frag_join.specs.Fragments.{Fragment, is_fragment, name_in, same_name, fragment_in, octets_of}
use Rattle.frag_join.specs.Coverage.{Coverage, known_by, nothing, added, is_bad, is_complete, datagram_of}

-- ## What is kept of the fragments of a datagram

-- before the first, after one more, and what they tell
pub record Keeping (K : Type 0) : Type 0 where
  pub none : K
  pub with_one : K → Fragment → K
  pub known : K → Coverage

-- the list of them, in the order in which they were taken
abbrev pub by_list : Keeping (List Fragment)
by_list = record { none = []; with_one = λ fragments f. fragments ++ f ∷ []; known = known_by }

-- what they tell alone
abbrev pub by_known : Keeping Coverage
by_known = record { none = nothing; with_one = added; known = λ known. known }

-- ## The state

-- the datagrams of which parts are there, in the order in which they began, and the datagram that the last event completed
pub record State (K : Type 0) : Type 0 where
  pub parts : List (Part K)
  pub joined : Option Event

abbrev pub empty : {K : Type 0} → State K
empty = record { parts = []; joined = None }

-- parts are dropped so long after the first of them came
abbrev pub is_live : {K : Type 0} → ℕ → Part K → Bool
is_live now part = nat_lt now (part.since.0 + JOIN_TIMEOUT)

abbrev pub live : {K : Type 0} → ℕ → List (Part K) → List (Part K)
live now parts = filter (is_live now) parts

abbrev pub is_of : {K : Type 0} → Name → Part K → Bool
is_of name part = same_name part.name name

-- the place of the datagram with this name
abbrev pub place_of : {K : Type 0} → Name → List (Part K) → Option ℕ
place_of name parts = position (is_of name) parts

-- that datagram
abbrev pub part_of : {K : Type 0} → Name → List (Part K) → Option (Part K)
part_of name parts = option_and_then (slice_get parts) (place_of name parts)

-- a datagram becomes another at its place, or goes; a new one stands behind the others
abbrev pub changed : {K : Type 0} → List (Part K) → Option ℕ → Option (Part K) → List (Part K)
changed parts None None = parts
changed parts None (Some part) = parts ++ part ∷ []
changed parts (Some place) None = remove parts place
changed parts (Some place) (Some part) = slice_set parts place part

-- ## One event

-- what becomes of a frame, and the state after it
pub record Step (K : Type 0) : Type 0 where
  pub answer : Taken
  pub state : State K

-- the datagram of a fragment before it is taken, which begins where there is none
abbrev pub part_or_new : {K : Type 0} → Keeping K → Event → Option (Part K) → Part K
part_or_new keeping e None = record { name = name_in e; since = record { 0 = e.moment }; kept = keeping.none }
part_or_new keeping e (Some part) = part

-- why a fragment is refused: by its header, by what is known of its datagram, and by the room for one that begins
abbrev pub tests_by : Event → Coverage → Option ℕ → ℕ → List (Bool × Refusal)
tests_by e known place count =
    (has_options (octets_of e), IpOptions)
    ∷ (is_bad known (fragment_in e), BadFragment)
    ∷ (not (is_some place) && nat_le MOST_JOINED count, FragmentsFull)
    ∷ []

abbrev pub fragment_tests : {K : Type 0} → List (Part K) → Event → Coverage → List (Bool × Refusal)
fragment_tests parts e known = tests_by e known (place_of (name_in e) parts) (length parts)

-- a datagram as an event of its own, on a side at a moment
abbrev pub event_from : Side → ℕ → List ℕ → Event
event_from side moment octets = record { side = side; moment = moment; link = Raw; whole = true; octets = octets }

-- a datagram at a place, or a new one, after a fragment was taken: one that is complete leaves the others
abbrev pub settled : {K : Type 0} → Keeping K → List (Part K) → Option ℕ → Event → Part K → Step K
settled keeping parts place e part =
    if is_complete (keeping.known part.kept)
    then record {
      answer = Joined;
      state = record { parts = changed parts place None; joined = Some (event_from e.side e.moment (datagram_of (keeping.known part.kept))) };
    }
    else record { answer = Held; state = record { parts = changed parts place (Some part); joined = None } }

abbrev pub with_fragment : {K : Type 0} → Keeping K → Part K → Event → Part K
with_fragment keeping part e = record part { kept = keeping.with_one part.kept (fragment_in e) }

-- a fragment that isn't refused is taken; one that is refused changes nothing
abbrev pub taken_unless : {K : Type 0} → Keeping K → List (Part K) → Event → Part K → Option Refusal → Step K
taken_unless keeping parts e part (Some refusal) = record { answer = Refused refusal; state = record { parts = parts; joined = None } }
taken_unless keeping parts e part None = settled keeping parts (place_of (name_in e) parts) e (with_fragment keeping part e)

abbrev pub fragment_taken : {K : Type 0} → Keeping K → List (Part K) → Event → Part K → Step K
fragment_taken keeping parts e part = taken_unless keeping parts e part (first_that_holds (fragment_tests parts e (keeping.known part.kept)))

abbrev pub fragment_step : {K : Type 0} → Keeping K → List (Part K) → Event → Step K
fragment_step keeping parts e = fragment_taken keeping parts e (part_or_new keeping e (part_of (name_in e) parts))

-- one event: first the parts that came too long ago are dropped
abbrev pub step_by : {K : Type 0} → Keeping K → List (Part K) → Event → Step K
step_by keeping parts e =
    if is_fragment e then fragment_step keeping parts e
    else record { answer = Plain; state = record { parts = parts; joined = None } }

abbrev pub step : {K : Type 0} → Keeping K → State K → Event → Step K
step keeping state e = step_by keeping (live e.moment state.parts) e

-- the state after a list of events
abbrev pub after : {K : Type 0} → Keeping K → State K → List Event → State K
after keeping state events = fold (λ now e. (step keeping now e).state) state events

-- ## What is kept of a state over lists

abbrev pub part_known : Part (List Fragment) → Part Coverage
part_known part = record { name = part.name; since = part.since; kept = known_by part.kept }

abbrev pub state_known : State (List Fragment) → State Coverage
state_known state = record { parts = map part_known state.parts; joined = state.joined }

abbrev pub step_known : Step (List Fragment) → Step Coverage
step_known one = record { answer = one.answer; state = state_known one.state }
