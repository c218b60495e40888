-- Frames on their way to the gate: one comes to it as it is, or as the datagram that it completes, or it doesn't come.
use Rattle.std.specs.Prelude.{◌≡◌, Bool, true, false, if◌then◌else◌, List, [], ◌∷◌, ◌++◌, fold, Option, Some, None, option_map, unwrap_or}
use Rattle.gate_base.specs.Prelude.{Event}
use Rattle.verdicts.specs.Prelude.{first_that_holds}
use Rattle.verdicts.specs.declared.refusal.Refusal.{Refusal}
use Rattle.verdicts.specs.declared.verdict.Verdict.{Verdict}
use Rattle.verdicts.specs.declared.verdict.Verdict.TheVariants as verdicts
use Rattle.frag_join.specs.declared.part.Part.{Part}
use Rattle.frag_join.specs.declared.taken.Taken.{Taken}
use Rattle.frag_join.specs.declared.taken.Taken.TheVariants.{Plain, Held, Joined, Refused}
use Rattle.frag_join.specs.Fragments.{Fragment, is_fragment, name_in}
use Rattle.frag_join.specs.Coverage.{Coverage, known_by, is_complete, datagram_of}
use Rattle.frag_join.specs.Joining.{Keeping, State, empty, by_list, step, state_known, live, part_of, part_or_new, event_from, fragment_tests, with_fragment}

-- what becomes of a frame before the gate
pub data Arrival : Type 0 where
  -- this event comes to the gate
  Reaches : Event → Arrival
  -- the frame doesn't, and this is its verdict
  Stopped : Event → Verdict → Arrival

-- ## One frame

-- what is held of datagrams, where fragments are joined; where they are refused there is no joiner
abbrev pub opened : {K : Type 0} → Bool → Option (State K)
opened join = if join then Some empty else None

-- what the joiner answers to a frame: where there is none, each is plain
abbrev pub taken_by : {K : Type 0} → Keeping K → Option (State K) → Event → Taken
taken_by keeping None e = Plain
taken_by keeping (Some state) e = (step keeping state e).answer

-- what is held after it
abbrev pub joiner_after : {K : Type 0} → Keeping K → Option (State K) → Event → Option (State K)
joiner_after keeping None e = None
joiner_after keeping (Some state) e = Some (step keeping state e).state

-- the datagram that the last frame completed
abbrev pub joined_in : {K : Type 0} → Option (State K) → Option Event
joined_in None = None
joined_in (Some state) = state.joined

-- by the answer to a frame, and the datagram that it completed
abbrev pub arrival_by : Event → Taken → Option Event → Arrival
arrival_by e Plain joined = Reaches e
arrival_by e Held joined = Stopped e verdicts.Held
arrival_by e Joined joined = Reaches (unwrap_or joined e)
arrival_by e (Refused refusal) joined = Stopped e (verdicts.Refused refusal)

abbrev pub arrival : {K : Type 0} → Keeping K → Option (State K) → Event → Arrival
arrival keeping joiner e = arrival_by e (taken_by keeping joiner e) (joined_in (joiner_after keeping joiner e))

-- ## All frames

unfoldable pub arrivals_from : {K : Type 0} → Keeping K → Option (State K) → List Event → List Arrival
arrivals_from keeping joiner [] = []
arrivals_from keeping joiner (e ∷ events) = arrival keeping joiner e ∷ arrivals_from keeping (joiner_after keeping joiner e) events

-- what becomes of each of these frames, one after another, where fragments are joined (true) or refused
abbrev pub arrivals_of : Bool → List Event → List Arrival
arrivals_of join events = arrivals_from by_list (opened join) events

-- what is held after them
abbrev pub joiner_of : Bool → List Event → Option (State (List Fragment))
joiner_of join events = fold (joiner_after by_list) (opened join) events

-- what is known by it
abbrev pub known_joiner : Option (State (List Fragment)) → Option (State Coverage)
known_joiner joiner = option_map state_known joiner

-- the events that come to the gate, in their order
unfoldable pub coming : List Arrival → List Event
coming [] = []
coming (Reaches e ∷ others) = e ∷ coming others
coming (Stopped e verdict ∷ others) = coming others

-- ## What that means for a frame

-- the datagram of a fragment before it is taken, of what is held of datagrams that don't end before it
abbrev pub part_before : State (List Fragment) → Event → Part (List Fragment)
part_before state e = part_or_new by_list e (part_of (name_in e) (live e.moment state.parts))

-- the first reason to refuse a fragment, if there is one
abbrev pub fragment_reason : State (List Fragment) → Event → Option Refusal
fragment_reason state e = first_that_holds (fragment_tests (live e.moment state.parts) e (known_by (part_before state e).kept))

-- what is known of its datagram once it is taken
abbrev pub known_with : State (List Fragment) → Event → Coverage
known_with state e = known_by (with_fragment by_list (part_before state e) e).kept

-- what becomes of a frame, where this is held of datagrams:
pub record ArrivalIs (joiner : Option (State (List Fragment))) (e : Event) : Type 0 where
  -- without a joiner it comes to the gate as it is, and so does a frame that carries no fragment;
  pub alone : joiner ≡ None → arrival by_list joiner e ≡ Reaches e
  pub plain : (state : State (List Fragment)) → joiner ≡ Some state → is_fragment e ≡ false → arrival by_list joiner e ≡ Reaches e
  -- where there is a reason to refuse a fragment, it is refused by the name of the first one;
  pub refused : (state : State (List Fragment)) (r : Refusal) → joiner ≡ Some state → is_fragment e ≡ true → fragment_reason state e ≡ Some r
      → arrival by_list joiner e ≡ Stopped e (verdicts.Refused r)
  -- else it is taken: with the fragment that completes it a datagram comes to the gate, and any other is held
  pub joined : (state : State (List Fragment)) → joiner ≡ Some state → is_fragment e ≡ true → fragment_reason state e ≡ None
      → is_complete (known_with state e) ≡ true
      → arrival by_list joiner e ≡ Reaches (event_from e.side e.moment (datagram_of (known_with state e)))
  pub held : (state : State (List Fragment)) → joiner ≡ Some state → is_fragment e ≡ true → fragment_reason state e ≡ None
      → is_complete (known_with state e) ≡ false → arrival by_list joiner e ≡ Stopped e verdicts.Held

-- of each of these frames, one after another
pub record ArrivalsAre (join : Bool) (events : List Event) : Type 0 where
  pub each : (done others : List Event) (e : Event) → events ≡ done ++ e ∷ others → ArrivalIs (joiner_of join done) e
  pub in_order : (done others : List Event) (e : Event) → events ≡ done ++ e ∷ others
      → arrivals_of join events ≡ arrivals_of join done ++ arrival by_list (joiner_of join done) e ∷ arrivals_from by_list
      (joiner_after by_list (joiner_of join done) e) others
