use Rattle.std.proofs.Common.{◌≡◌, ◌<◌, true, false, List, [], ◌∷◌, ◌++◌, length, get_or, Some}
use Rattle.std.proofs.Common.{None, IfSome, subst, sym, ap, ◌∙◌, arith, leb, slice_get}
use Rattle.std.proofs.lemmas.Bool.{lt-leb, le-leb}
use Rattle.std.proofs.lemmas.List.{length_push}
use Rattle.std.proofs.lemmas.List.Quantifiers.{position-Some}
use Rattle.std.proofs.lemmas.Option.{slice_get-get_or}
use Rattle.gate_base.specs.Prelude.{event_of}
use Rattle.ipv4_frames.specs.Ipv4.{has_options}
use Rattle.frag_join.specs.declared.part.Part.{Part}
use Rattle.frag_join.specs.Prelude.{name_in, fragment_in, octets_of, Coverage, nothing, is_bad, State, Step, by_known}
use Rattle.frag_join.specs.Prelude.{is_of, place_of, fragment_step, part_or_new, with_fragment, known_at, put_at}
use Rattle.frag_join.specs.declared.joiner.TheConstants.{MOST_JOINED}
use Rattle.frag_join.specs.Fragments.{name_of, fragment_of}
use Rattle.frag_join.specs.Inside.Kept.{known_or_nothing, new_part}
use Rattle.frag_join.proofs.PartLemmas.{get-last}
use Rattle.frag_join.proofs.StepLemmas.{good-last, step-options, step-bad, step-full, step-there, step-new, settled-last}
use Rattle.frag_join.proofs.joiner.Joiner.take_fragment.Goals as goal

-- ## It is refused

pub returns-then-has_options : goal.returns-then-has_options
returns-then-has_options c =
    let step = step-options by_known c.args.self.now.parts (event_of c.args.event.now)
    (ap has_options (sym c.requires.octets) ∙ sym c.has_options.ensures ∙ c.if-has_options.true) in
    record {
      answer = ap (λ (s : Step Coverage). s.answer) (sym step);
      state = ap (λ j. record { parts = c.args.self.now.parts; joined = j }) c.requires.joined ∙ ap (λ (s : Step Coverage). s.state) (sym step);
    }

pub returns-then-is_bad : goal.returns-then-is_bad
returns-then-is_bad c =
    let e = event_of c.args.event.now in
    let parts = c.args.self.now.parts in
    let options : has_options (octets_of e) ≡ false = ap has_options (sym c.requires.octets) ∙ sym c.has_options.ensures ∙ c.if-has_options.false in
    let looked : place_of (name_in e) parts ≡ c.place_of-place.result =
    ap (λ n. place_of n parts) (sym (c.name_of-name.ensures ∙ ap (name_of e.side) c.requires.octets))
    ∙ ap (place_of c.name_of-name.result) (sym (c.deref.ensures.value ∙ ap (λ (s : State Coverage). s.parts) c.self.view_is))
    ∙ sym c.place_of-place.ensures.place in
    let bad : is_bad (known_at parts c.place_of-place.result) (fragment_in e) ≡ true =
    ap (is_bad (known_at parts c.place_of-place.result)) (sym (c.of-fragment.ensures ∙ ap fragment_of c.requires.octets))
    ∙ sym c.is_bad.ensures ∙ c.if-is_bad.true in
    let step = step-bad parts e c.place_of-place.result options looked bad in
    record {
      answer = ap (λ (s : Step Coverage). s.answer) (sym step);
      state = ap (λ j. record { parts = c.args.self.now.parts; joined = j }) c.requires.joined ∙ ap (λ (s : Step Coverage). s.state) (sym step);
    }

pub returns-in-None-2 : goal.returns-in-None-2
returns-in-None-2 c =
    let e = event_of c.args.event.now in
    let parts = c.args.self.now.parts in
    let options : has_options (octets_of e) ≡ false = ap has_options (sym c.requires.octets) ∙ sym c.has_options.ensures ∙ c.if-has_options.false in
    let looked : place_of (name_in e) parts ≡ c.place_of-place.result =
    ap (λ n. place_of n parts) (sym (c.name_of-name.ensures ∙ ap (name_of e.side) c.requires.octets))
    ∙ ap (place_of c.name_of-name.result) (sym (c.deref.ensures.value ∙ ap (λ (s : State Coverage). s.parts) c.self.view_is))
    ∙ sym c.place_of-place.ensures.place in
    let good : is_bad (known_at parts c.place_of-place.result) (fragment_in e) ≡ false =
    ap (is_bad (known_at parts c.place_of-place.result)) (sym (c.of-fragment.ensures ∙ ap fragment_of c.requires.octets))
    ∙ sym c.is_bad.ensures ∙ c.if-is_bad.false in
    let full : leb MOST_JOINED (length parts) ≡ true = le-leb MOST_JOINED (length parts) (omega (arith, c.len.ensures)) in
    let step = step-full parts e c.place_of-place.result options looked good c.in-None-2.is full in
    record {
      answer = ap (λ (s : Step Coverage). s.answer) (sym step);
      state = ap (λ j. record { parts = c.args.self.now.parts; joined = j }) c.requires.joined ∙ ap (λ (s : Step Coverage). s.state) (sym step);
    }

-- ## The datagram is there

pub is_bad-requires : goal.is_bad-requires
is_bad-requires c =
    subst (λ (all : List (Part Coverage)). IfSome c.place_of-place.result (λ n. n < length all))
    (c.deref.ensures.value ∙ ap (λ (s : State Coverage). s.parts) c.self.view_is) c.place_of-place.ensures.within

pub put-requires : goal.put-requires
put-requires c = record {
  within = subst (λ (all : List (Part Coverage)). c.in-Some.place < length all)
      (c.deref.ensures.value ∙ ap (λ (s : State Coverage). s.parts) c.self.view_is) c.in-Some.ensures.within;
  joined = c.requires.joined;
  fragment = c.of-fragment.ensures ∙ ap fragment_of c.requires.octets;
  good = ap (λ p. is_bad (known_at c.args.self.now.parts p) c.of-fragment.result) (sym c.in-Some.is) ∙ sym c.is_bad.ensures ∙ c.if-is_bad.false;
}

part : (c : goal.After-put) → Part Coverage
part c = get_or c.args.self.now.parts c.in-Some.place (new_part c.name_of-name.result c.args.event.now.moment)

found : (c : goal.After-put) → place_of (name_in (event_of c.args.event.now)) c.args.self.now.parts ≡ Some c.in-Some.place
found c =
    let e = event_of c.args.event.now in
    let parts = c.args.self.now.parts in
    ap (λ n. place_of n parts) (sym (c.name_of-name.ensures ∙ ap (name_of e.side) c.requires.octets))
    ∙ ap (place_of c.name_of-name.result) (sym (c.deref.ensures.value ∙ ap (λ (s : State Coverage). s.parts) c.self.view_is))
    ∙ sym c.place_of-place.ensures.place ∙ c.in-Some.is

there : (c : goal.After-put) → slice_get c.args.self.now.parts c.in-Some.place ≡ Some (part c)
unfolding part
there c =
    let new = new_part c.name_of-name.result c.args.event.now.moment in
    slice_get-get_or c.args.self.now.parts c.in-Some.place new
    (position-Some (is_of (name_in (event_of c.args.event.now))) c.args.self.now.parts c.in-Some.place new (found c)).0

step : (c : goal.After-put) → put_at c.args.self.now.parts c.in-Some.place (event_of c.args.event.now) (part c)
    ≡ fragment_step by_known c.args.self.now.parts (event_of c.args.event.now)
step c =
    let e = event_of c.args.event.now in
    let parts = c.args.self.now.parts in
    let options : has_options (octets_of e) ≡ false = ap has_options (sym c.requires.octets) ∙ sym c.has_options.ensures ∙ c.if-has_options.false in
    let good : is_bad (part c).kept (fragment_in e) ≡ false =
    ap (λ o. is_bad (known_or_nothing o) (fragment_in e)) (sym (there c))
    ∙ ap (λ p. is_bad (known_at parts p) (fragment_in e)) (sym c.in-Some.is)
    ∙ ap (is_bad (known_at parts c.place_of-place.result)) (sym (c.of-fragment.ensures ∙ ap fragment_of c.requires.octets))
    ∙ sym c.is_bad.ensures ∙ c.if-is_bad.false in
    sym (step-there by_known parts e c.in-Some.place (part c) options (found c) (there c) good)

pub returns-in-Some-clause-answer : goal.returns-in-Some-clause-answer
returns-in-Some-clause-answer c = c.put.ensures.answer (part c) (there c) ∙ ap (λ (s : Step Coverage). s.answer) (step c)

pub returns-in-Some-clause-state : goal.returns-in-Some-clause-state
returns-in-Some-clause-state c = c.put.ensures.state (part c) (there c) ∙ ap (λ (s : Step Coverage). s.state) (step c)

-- ## It begins

pub put-requires-in-None : goal.put-requires-in-None
put-requires-in-None c =
    let parts = c.args.self.now.parts in
    let new = new_part c.name_of-name.result c.args.event.now.moment in
    let f = c.of-fragment.result in
    let good : is_bad nothing f ≡ false = ap (λ p. is_bad (known_at parts p) f) (sym c.in-None.is) ∙ sym c.is_bad.ensures ∙ c.if-is_bad.false in
    record {
      within = omega (
        arith,
        c.begin_datagram-place.ensures.place,
        ap (λ (s : State Coverage). length s.parts) c.begin_datagram-place.ensures.state,
        length_push parts new,
      );
      joined = ap (λ (s : State Coverage). s.joined) c.begin_datagram-place.ensures.state ∙ c.requires.joined;
      fragment = c.of-fragment.ensures ∙ ap fragment_of c.requires.octets;
      good = good-last parts c.begin_datagram-place.new.self.parts c.begin_datagram-place.result new f
          (ap (λ (s : State Coverage). s.parts) c.begin_datagram-place.ensures.state) c.begin_datagram-place.ensures.place good;
    }

named : (c : goal.After-put-in-None) → c.name_of-name.result ≡ name_in (event_of c.args.event.now)
named c = c.name_of-name.ensures ∙ ap (name_of c.args.event.now.side) c.requires.octets

begun : (c : goal.After-put-in-None)
    → c.begin_datagram-place.new.self.parts ≡ c.args.self.now.parts ++ part_or_new by_known (event_of c.args.event.now) None
    ∷ []
begun c = ap (λ (s : State Coverage). s.parts) c.begin_datagram-place.ensures.state
    ∙ ap (λ n. c.args.self.now.parts ++ new_part n c.args.event.now.moment ∷ []) (named c)

last : (c : goal.After-put-in-None) → slice_get c.begin_datagram-place.new.self.parts c.begin_datagram-place.result
    ≡ Some (part_or_new by_known (event_of c.args.event.now) None)
last c =
    let new = part_or_new by_known (event_of c.args.event.now) None in
    ap (λ parts. slice_get parts c.begin_datagram-place.result) (begun c)
    ∙ ap (slice_get (c.args.self.now.parts ++ new ∷ [])) c.begin_datagram-place.ensures.place
    ∙ get-last c.args.self.now.parts new

first : (c : goal.After-put-in-None) → put_at c.begin_datagram-place.new.self.parts c.begin_datagram-place.result (event_of c.args.event.now)
    (part_or_new by_known (event_of c.args.event.now) None) ≡ fragment_step by_known c.args.self.now.parts (event_of c.args.event.now)
first c =
    let e = event_of c.args.event.now in
    let parts = c.args.self.now.parts in
    let new = part_or_new by_known e None in
    let options : has_options (octets_of e) ≡ false = ap has_options (sym c.requires.octets) ∙ sym c.has_options.ensures ∙ c.if-has_options.false in
    let none : place_of (name_in e) parts ≡ None =
    ap (λ n. place_of n parts) (sym (named c)) ∙ ap (place_of c.name_of-name.result)
    (sym (c.deref.ensures.value ∙ ap (λ (s : State Coverage). s.parts) c.self.view_is))
    ∙ sym c.place_of-place.ensures.place ∙ c.in-None.is in
    let good : is_bad nothing (fragment_in e) ≡ false =
    ap (λ p. is_bad (known_at parts p) (fragment_in e)) (sym c.in-None.is)
    ∙ ap (is_bad (known_at parts c.place_of-place.result)) (sym (c.of-fragment.ensures ∙ ap fragment_of c.requires.octets))
    ∙ sym c.is_bad.ensures ∙ c.if-is_bad.false in
    let room : leb MOST_JOINED (length parts) ≡ false = lt-leb MOST_JOINED (length parts) (omega (arith, c.len.ensures)) in
    ap (λ all. put_at all c.begin_datagram-place.result e new) (begun c)
    ∙ ap (λ place. put_at (parts ++ new ∷ []) place e new) c.begin_datagram-place.ensures.place
    ∙ settled-last by_known parts e new (with_fragment by_known new e) ∙ sym (step-new by_known parts e options none good room)

pub returns-in-None-clause-answer : goal.returns-in-None-clause-answer
returns-in-None-clause-answer c = c.put-in-None.ensures.answer _ (last c) ∙ ap (λ (s : Step Coverage). s.answer) (first c)

pub returns-in-None-clause-state : goal.returns-in-None-clause-state
returns-in-None-clause-state c = c.put-in-None.ensures.state _ (last c) ∙ ap (λ (s : Step Coverage). s.state) (first c)
