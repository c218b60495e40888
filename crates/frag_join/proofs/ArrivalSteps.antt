-- Frames on their way to the gate, one after another.
use Rattle.std.proofs.Common.{◌≡◌, ℕ, Bool, true, false, cond, List, [], ◌∷◌, ◌++◌, map, Option, Some, None, refl, sym, ap, ◌∙◌, fold}
use Rattle.std.proofs.lemmas.List.Sums.{fold-append}
use Rattle.gate_base.specs.Prelude.{Event}
use Rattle.verdicts.specs.Prelude.{first_that_holds}
use Rattle.verdicts.specs.declared.verdict.Verdict.TheVariants as verdicts
use Rattle.verdicts.specs.declared.refusal.Refusal.{Refusal}
use Rattle.gate_base.specs.declared.side.Side.{Side}
use Rattle.frag_join.specs.declared.part.Part.{Part}
use Rattle.frag_join.specs.declared.taken.Taken.TheVariants.{Plain, Held, Joined}
use Rattle.frag_join.specs.Prelude.{Fragment, is_fragment, name_in, Coverage, is_complete, datagram_of, Keeping, State, Step, by_list, by_known, live}
use Rattle.frag_join.specs.Prelude.{part_of, part_or_new, changed, place_of, event_from, fragment_tests, with_fragment, taken_unless, fragment_step}
use Rattle.frag_join.specs.Prelude.{Arrival, Reaches, Stopped, ArrivalsAre, opened, joiner_after, joined_in, arrival_by, arrival, arrivals_of}
use Rattle.frag_join.specs.Prelude.{joiner_of, known_joiner}
use Rattle.frag_join.specs.Arrivals.{ArrivalIs, part_before, fragment_reason, known_with, arrivals_from, coming}
use Rattle.frag_join.proofs.KeptSteps.{step-known}

-- ## More frames

arrivals_from-append : {K : Type 0} (keeping : Keeping K) (joiner : Option (State K)) (done more : List Event)
    → arrivals_from keeping joiner (done ++ more) ≡ arrivals_from keeping joiner done ++ arrivals_from keeping
    (fold (joiner_after keeping) joiner done) more
unfolding arrivals_from
arrivals_from-append keeping joiner [] more = refl
arrivals_from-append keeping joiner (e ∷ done) more = ap (λ (others : List Arrival). arrival keeping joiner e ∷ others)
    (arrivals_from-append keeping (joiner_after keeping joiner e) done more)

arrivals_from-cons : {K : Type 0} (keeping : Keeping K) (joiner : Option (State K)) (e : Event) (more : List Event)
    → arrivals_from keeping joiner (e ∷ more) ≡ arrival keeping joiner e ∷ arrivals_from keeping (joiner_after keeping joiner e) more
unfolding arrivals_from
arrivals_from-cons keeping joiner e more = refl

arrivals_from-nil : {K : Type 0} (keeping : Keeping K) (joiner : Option (State K)) → arrivals_from keeping joiner [] ≡ []
unfolding arrivals_from
arrivals_from-nil keeping joiner = refl

-- before the first frame
pub arrivals-none : (join : Bool) → arrivals_of join [] ≡ []
arrivals-none join = arrivals_from-nil by_list (opened join)

-- these frames, and then others
pub arrivals-append : (join : Bool) (done more : List Event) → arrivals_of join (done ++ more) ≡ arrivals_of join done ++ arrivals_from by_list
    (joiner_of join done) more
arrivals-append join done more = arrivals_from-append by_list (opened join) done more

-- one of them after these
pub arrivals-next : (join : Bool) (done : List Event) (e : Event) (more : List Event)
    → arrivals_of join (done ++ e ∷ more) ≡ arrivals_of join done ++ arrival by_list (joiner_of join done) e ∷ arrivals_from by_list
    (joiner_after by_list (joiner_of join done) e) more
arrivals-next join done e more =
    arrivals-append join done (e ∷ more) ∙ ap (λ (others : List Arrival). arrivals_of join done ++ others)
    (arrivals_from-cons by_list (joiner_of join done) e more)

pub arrivals-one : (join : Bool) (done : List Event) (e : Event) → arrivals_of join (done ++ e ∷ []) ≡ arrivals_of join done
    ++ arrival by_list (joiner_of join done) e ∷ []
arrivals-one join done e =
    arrivals-next join done e []
    ∙ ap (λ (others : List Arrival). arrivals_of join done ++ arrival by_list (joiner_of join done) e ∷ others)
    (arrivals_from-nil by_list (joiner_after by_list (joiner_of join done) e))

pub joiner-one : (join : Bool) (done : List Event) (e : Event) → joiner_of join (done ++ e ∷ []) ≡ joiner_after by_list (joiner_of join done) e
joiner-one join done e = fold-append (joiner_after by_list) (opened join) done (e ∷ [])

-- ## What is known is enough

pub arrival-known : (joiner : Option (State (List Fragment))) (e : Event) → arrival by_known (known_joiner joiner) e ≡ arrival by_list joiner e
arrival-known None e = refl
arrival-known (Some state) e = ap (λ (one : Step Coverage). arrival_by e one.answer one.state.joined) (step-known state e)

pub joiner-known : (joiner : Option (State (List Fragment))) (e : Event) → joiner_after by_known (known_joiner joiner) e
    ≡ known_joiner (joiner_after by_list joiner e)
joiner-known None e = refl
joiner-known (Some state) e = ap (λ (one : Step Coverage). let held : Option (State Coverage) = Some one.state in held) (step-known state e)

pub opened-known : (join : Bool) → opened join ≡ known_joiner (opened join)
opened-known true = refl
opened-known false = refl

-- ## What is joined comes at the moment of the frame that completes it

same_moment : (e x : Event) (octets : List ℕ) (side : Side) → Some (event_from side e.moment octets) ≡ Some x → x.moment ≡ e.moment
same_moment e x octets side h = ap moment_in (sym h)
  where
    moment_in : Option Event → ℕ
    moment_in None = e.moment
    moment_in (Some y) = y.moment

settled-at : {K : Type 0} (b : Bool) (parts others : List (Part K)) (e x : Event) (octets : List ℕ)
    → (cond b (let one : Step K = record { answer = Joined; state = record { parts = parts; joined = Some (event_from e.side e.moment octets) } } in
    one) (record { answer = Held; state = record { parts = others; joined = None } })).state.joined ≡ Some x → x.moment ≡ e.moment
settled-at true parts others e x octets h = same_moment e x octets e.side h
settled-at false parts others e x octets h = absurd cc

unless-at : {K : Type 0} (keeping : Keeping K) (parts : List (Part K)) (e x : Event) (part : Part K) (refusal : Option Refusal)
    → (taken_unless keeping parts e part refusal).state.joined ≡ Some x → x.moment ≡ e.moment
unless-at keeping parts e x part (Some refusal) h = absurd cc
unless-at keeping parts e x part None h =
    let new = with_fragment keeping part e in
    let place = place_of (name_in e) parts in
    settled-at (is_complete (keeping.known new.kept)) (changed parts place None) (changed parts place (Some new)) e x
    (datagram_of (keeping.known new.kept)) h

fragment-at : {K : Type 0} (b : Bool) (keeping : Keeping K) (parts : List (Part K)) (e x : Event)
    → (cond b (fragment_step keeping parts e) (record { answer = Plain; state = record { parts = parts; joined = None } })).state.joined ≡ Some x
    → x.moment ≡ e.moment
fragment-at true keeping parts e x h =
    let part = part_or_new keeping e (part_of (name_in e) parts) in
    unless-at keeping parts e x part (first_that_holds (fragment_tests parts e (keeping.known part.kept))) h
fragment-at false keeping parts e x h = absurd cc

pub joined-at : {K : Type 0} (keeping : Keeping K) (joiner : Option (State K)) (e x : Event) → joined_in (joiner_after keeping joiner e) ≡ Some x
    → x.moment ≡ e.moment
joined-at keeping None e x h = absurd cc
joined-at keeping (Some state) e x h = fragment-at (is_fragment e) keeping (live e.moment state.parts) e x h

-- ## Where fragments are refused

pub all_come : {K : Type 0} (keeping : Keeping K) (events : List Event) → arrivals_from keeping None events ≡ map Reaches events
unfolding arrivals_from
all_come keeping [] = refl
all_come keeping (e ∷ events) = ap (λ (others : List Arrival). Reaches e ∷ others) (all_come keeping events)

coming-all : (events : List Event) → coming (map Reaches events) ≡ events
unfolding coming
coming-all [] = refl
coming-all (e ∷ events) = ap (λ (others : List Event). e ∷ others) (coming-all events)

pub come-as-they-are : (events : List Event) → coming (arrivals_of false events) ≡ events
come-as-they-are events = ap coming (all_come by_list events) ∙ coming-all events

-- ## What that means for a frame

settled_to : (b c : Bool) (parts others : List (Part (List Fragment))) (e : Event) (octets : List ℕ) → b ≡ c
    → let one : Step (List Fragment) =
    cond b (record { answer = Joined; state = record { parts = parts; joined = Some (event_from e.side e.moment octets) } })
    (record { answer = Held; state = record { parts = others; joined = None } }) in
    arrival_by e one.answer one.state.joined ≡ cond c (Reaches (event_from e.side e.moment octets)) (Stopped e verdicts.Held)
settled_to true true parts others e octets h = refl
settled_to false false parts others e octets h = refl
settled_to true false parts others e octets h = absurd cc
settled_to false true parts others e octets h = absurd cc

unless_to : (state : State (List Fragment)) (e : Event) (complete : Bool) (refusal : Option Refusal) → refusal ≡ None
    → is_complete (known_with state e) ≡ complete
    → let one = taken_unless by_list (live e.moment state.parts) e (part_before state e) refusal in
    arrival_by e one.answer one.state.joined ≡ cond complete (Reaches (event_from e.side e.moment (datagram_of (known_with state e))))
    (Stopped e verdicts.Held)
unless_to state e complete None none is =
    let parts = live e.moment state.parts in
    let new = with_fragment by_list (part_before state e) e in
    settled_to (is_complete (known_with state e)) complete (changed parts (place_of (name_in e) parts) None)
    (changed parts (place_of (name_in e) parts) (Some new)) e (datagram_of (known_with state e)) is
unless_to state e complete (Some refusal) none is = absurd cc

refused_to : (state : State (List Fragment)) (e : Event) (r : Refusal) (refusal : Option Refusal) → refusal ≡ Some r
    → let one = taken_unless by_list (live e.moment state.parts) e (part_before state e) refusal in
    arrival_by e one.answer one.state.joined ≡ Stopped e (verdicts.Refused r)
refused_to state e r None is = absurd cc
refused_to state e r (Some refusal) is = ap (λ (x : Option Refusal). Stopped e (verdicts.Refused (refusal_or x))) is
  where
    refusal_or : Option Refusal → Refusal
    refusal_or None = r
    refusal_or (Some x) = x

-- by whether it carries a fragment
abbrev by_step : Event → State (List Fragment) → Bool → Arrival
by_step e state b =
    let one = cond b (fragment_step by_list (live e.moment state.parts) e)
    (record { answer = Plain; state = record { parts = live e.moment state.parts; joined = None } }) in
    arrival_by e one.answer one.state.joined

pub arrival_is : (joiner : Option (State (List Fragment))) (e : Event) → ArrivalIs joiner e
arrival_is joiner e = record {
  alone = λ none. ap (λ (j : Option (State (List Fragment))). arrival by_list j e) none;
  plain = λ state some other. ap (λ (j : Option (State (List Fragment))). arrival by_list j e) some ∙ ap (by_step e state) other;
  refused = λ state r some is reason. ap (λ (j : Option (State (List Fragment))). arrival by_list j e) some ∙ ap (by_step e state) is
      ∙ refused_to state e r (fragment_reason state e) reason;
  joined = λ state some is none complete. ap (λ (j : Option (State (List Fragment))). arrival by_list j e) some ∙ ap (by_step e state) is
      ∙ unless_to state e true (fragment_reason state e) none complete;
  held = λ state some is none incomplete. ap (λ (j : Option (State (List Fragment))). arrival by_list j e) some ∙ ap (by_step e state) is
      ∙ unless_to state e false (fragment_reason state e) none incomplete;
}

pub arrivals_are : (join : Bool) (events : List Event) → ArrivalsAre join events
arrivals_are join events = record {
  each = λ done others e split. arrival_is (joiner_of join done) e;
  in_order = λ done others e split. ap (arrivals_of join) split ∙ arrivals-next join done e others;
}
