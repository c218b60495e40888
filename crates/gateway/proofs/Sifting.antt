-- What both outgoing captures hold is what the frames that pass give, alone.
use Rattle.std.proofs.Common.{◌≡◌, ◌≤◌, ◌<◌, ℕ, suc, Bool, List, [], ◌∷◌, ◌++◌, length, get_or, map, Option, Some, None, refl, sym, ◌∙◌, ap, subst, arith, append-nil}
use Rattle.std.specs.List.Sorted.{IsNonDecreasingBy}
use Rattle.std.proofs.lemmas.List.{map-append}
use Rattle.std.proofs.lemmas.List.Elements.{filter-append}
use Rattle.gate_base.specs.Prelude.{Event, other}
use Rattle.gate_base.specs.declared.side.Side.{Side}
use Rattle.gate_base.specs.declared.side.Side.TheVariants.{Left, Right}
use Rattle.gate_desk.specs.declared.slot.PerSlot.{PerSlot}
use Rattle.gate_settings.specs.declared.settings.Settings.{Settings}
use Rattle.frag_join.specs.Fragments.{Fragment}
use Rattle.frag_join.specs.declared.taken.Taken.{Taken}
use Rattle.frag_join.specs.declared.taken.Taken.TheVariants.{Plain, Held, Joined, Refused}
use Rattle.frag_join.specs.Arrivals.{arrivals_from, coming, taken_by}
use Rattle.frag_join.specs.Prelude.{Arrival, Reaches, Stopped, State, arrival, arrival_by, by_list, joined_in, joiner_after, opened}
use Rattle.frag_join.proofs.ArrivalSteps.{joined-at}
use Rattle.pcap_merge.specs.Prelude.{Merged, Ending, Done, Fault}
use Rattle.pcap_merge.proofs.Weave.{moments}
use Rattle.run_setup.specs.Prelude.{events_in}
use Rattle.gate_model.specs.Prelude.{WholeSession, next, opening_world, out, whole_rules}
use Rattle.gate_model.specs.Sifted.{Rise, passing, all_out}
use Rattle.gate_model.proofs.Sifting.{sifted, sooner}
use Rattle.gateway.specs.Machine.{State as Known, after, after_one, arrivals_by, ended_by, given_by_all, given_by_merged, opening, reported, sent}
use Rattle.gateway.specs.Pieces.{Piece}
use Rattle.gateway.specs.Sifted.{is_capture, frames_among, frame_at}

-- ## Moments

abbrev IsAt : ℕ → Arrival → Type 0
IsAt moment (Reaches x) = x.moment ≡ moment
IsAt moment (Stopped x v) = Unit {0}

-- what becomes of a frame comes at its moment
arrives_at : (e : Event) (taken : Taken) (joined : Option Event) → ((x : Event) → joined ≡ Some x → x.moment ≡ e.moment)
    → IsAt e.moment (arrival_by e taken joined)
arrives_at e Plain joined same = refl
arrives_at e Held joined same = tt
arrives_at e Joined None same = refl
arrives_at e Joined (Some x) same = same x refl
arrives_at e (Refused r) joined same = tt

coming_rises : (events : List Event) (joiner : Option (State (List Fragment))) (m : ℕ) → Rise m events
    → Rise m (coming (arrivals_from by_list joiner events))
unfolding arrivals_from coming
coming_rises [] joiner m rise = tt
coming_rises (e ∷ events) joiner m rise =
    by_arrival (arrival by_list joiner e)
    (arrives_at e (taken_by by_list joiner e) (joined_in (joiner_after by_list joiner e)) (λ x is. joined-at by_list joiner e x is))
    (coming_rises events (joiner_after by_list joiner e) e.moment rise.1)
  where
    by_arrival : (a : Arrival) → IsAt e.moment a → Rise e.moment (coming (arrivals_from by_list (joiner_after by_list joiner e) events))
        → Rise m (coming (a ∷ arrivals_from by_list (joiner_after by_list joiner e) events))
    by_arrival (Reaches x) same more =
        let least = rise.0 in (
          omega (arith, same, least),
          subst (λ (n : ℕ). Rise n (coming (arrivals_from by_list (joiner_after by_list joiner e) events))) (sym same) more,
        )
    by_arrival (Stopped x v) same more = sooner (coming (arrivals_from by_list (joiner_after by_list joiner e) events)) m e.moment rise.0 more

rises : (events : List Event) (m : ℕ) → IsNonDecreasingBy (λ (e : Event). e.moment) events
    → ((d : Event) → 0 < length events → m ≤ (get_or events 0 d).moment) → Rise m events
rises [] m h first = tt
rises (e ∷ events) m h first = (
  first e (omega arith),
  rises events e.moment (λ i j d least less. h (suc i) (suc j) d (omega (arith, least)) (omega (arith, less)))
      (λ d some. h 0 (suc 0) d (omega arith) (omega (arith, some))),
)

-- ## Pieces

frames_sent : (settings : Settings) (side : Side) (moment : ℕ) (datagrams : List (List ℕ))
    → frames_among (sent settings side moment datagrams) ≡ sent settings side moment datagrams
frames_sent settings side moment [] = refl
frames_sent settings Left moment (d ∷ datagrams) = ap (λ (more : List Piece). sent settings Left moment (d ∷ []) ++ more)
    (frames_sent settings Left moment datagrams)
frames_sent settings Right moment (d ∷ datagrams) = ap (λ (more : List Piece). sent settings Right moment (d ∷ []) ++ more)
    (frames_sent settings Right moment datagrams)

sent_is : (settings : Settings) (e : Event) (datagrams : List (List ℕ))
    → sent settings (other e.side) e.moment datagrams ≡ map (frame_at settings) (map (λ octets. (e, octets)) datagrams)
sent_is settings e [] = refl
sent_is settings e (d ∷ datagrams) = ap (λ (more : List Piece). sent settings (other e.side) e.moment (d ∷ []) ++ more)
    (sent_is settings e datagrams)

frames_given : (settings : Settings) (arrivals : List Arrival) (s : Known WholeSession)
    → frames_among (given_by_all whole_rules settings s arrivals) ≡ map (frame_at settings) (all_out whole_rules s.world (coming arrivals))
unfolding given_by_all coming
frames_given settings [] s = refl
frames_given settings (Reaches e ∷ arrivals) s =
    let outs = out whole_rules s.world e in
    let mine = sent settings (other e.side) e.moment outs in
    let line = reported whole_rules settings s e in
    let more = given_by_all whole_rules settings (after_one whole_rules s (Reaches e)) arrivals in
    let beside = map (λ octets. (e, octets)) outs in
    let p : Piece → Bool = λ piece. is_capture piece.slot in
    let front : frames_among (mine ++ line ∷ []) ≡ map (frame_at settings) beside =
    filter-append p mine (line ∷ []) ∙ append-nil (frames_among mine) ∙ frames_sent settings (other e.side) e.moment outs
    ∙ sent_is settings e outs
    in
    filter-append p (mine ++ line ∷ []) more ∙ ap (λ (ps : List Piece). ps ++ frames_among more) front
    ∙ ap (λ (ps : List Piece). map (frame_at settings) beside ++ ps) (frames_given settings arrivals (after_one whole_rules s (Reaches e)))
    ∙ sym (map-append (frame_at settings) beside (all_out whole_rules (next whole_rules s.world e) (coming arrivals)))
frames_given settings (Stopped e v ∷ arrivals) s = frames_given settings arrivals (after_one whole_rules s (Stopped e v))

-- the last line is no frame
none_last : (settings : Settings) (s : Known WholeSession) (ending : Ending) → frames_among (ended_by settings s ending) ≡ []
none_last settings s Done = refl
none_last settings s (Fault side fault place) = refl

frames_are : (settings : Settings) (all : Merged)
    → frames_among (given_by_merged settings all)
    ≡ map (frame_at settings) (all_out whole_rules (opening_world settings) (coming (arrivals_by settings all.events)))
unfolding given_by_merged
frames_are settings all =
    let arrivals = arrivals_by settings all.events in
    let given = given_by_all whole_rules settings (opening settings) arrivals in
    let last = ended_by settings (after whole_rules (opening settings) arrivals) all.ending in
    filter-append (λ (piece : Piece). is_capture piece.slot) given last
    ∙ ap (λ (ps : List Piece). frames_among given ++ ps) (none_last settings (after whole_rules (opening settings) arrivals) all.ending)
    ∙ append-nil (frames_among given) ∙ frames_given settings arrivals (opening settings)

pub only_passing : (settings : Settings) (all : PerSlot (List ℕ))
    → frames_among (given_by_merged settings (events_in all))
    ≡ map (frame_at settings) (all_out whole_rules (opening_world settings) (passing whole_rules (opening_world settings)
    (coming (arrivals_by settings (events_in all).events))))
only_passing settings all =
    let events = (events_in all).events in
    frames_are settings (events_in all)
    ∙ ap (map (frame_at settings)) (sifted whole_rules (coming (arrivals_by settings events)) (opening_world settings) 0
    (coming_rises events (opened settings.join) 0 (rises events 0 (moments all.left_in all.right_in) (λ d some. omega arith))))
