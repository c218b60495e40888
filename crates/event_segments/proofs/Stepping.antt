-- An event, by its first test that holds.
use Rattle.std.proofs.Common.{◌≡◌, ◌++◌, Option, Some, None, refl, sym, ap, ◌∙◌}
use Rattle.std.specs.Option.{option_or}
use Rattle.gate_base.specs.Prelude.{Event}
use Rattle.verdicts.specs.Prelude.{first_that_holds}
use Rattle.verdicts.specs.declared.refusal.Refusal.{Refusal}
use Rattle.gate_model.specs.Prelude.{datagram_in, header_tests, datagram_tests, transport_tests, kind_of, after_kind, next_by, tests, world_tests, verdict_of, World, SessionRules}
use Rattle.event_segments.specs.Prelude.{left_as}
use Rattle.event_frame.specs.Judged.{front_tests}
use Rattle.event_frame.proofs.Tests.{first-append, front_is}

or_assoc : (a b c d : Option Refusal) → option_or a (option_or b (option_or c d)) ≡ option_or (option_or a (option_or b c)) d
or_assoc (Some r) b c d = refl
or_assoc None (Some r) c d = refl
or_assoc None None c d = refl

-- all tests are those of the frame by itself, and then those of its world
pub all_tests : {S : Type 0} (rules : SessionRules S) (live : World S) (e : Event)
    → first_that_holds (tests rules live e) ≡ option_or (first_that_holds (front_tests e))
    (first_that_holds (world_tests rules live e.side e.moment (datagram_in e) (kind_of (datagram_in e))))
all_tests rules live e =
    let d = datagram_in e in
    let w = world_tests rules live e.side e.moment d (kind_of d) in
    first-append (header_tests e) (datagram_tests d ++ (transport_tests d ++ w))
    ∙ ap (option_or (first_that_holds (header_tests e)))
    (first-append (datagram_tests d) (transport_tests d ++ w)
    ∙ ap (option_or (first_that_holds (datagram_tests d))) (first-append (transport_tests d) w))
    ∙ or_assoc (first_that_holds (header_tests e)) (first_that_holds (datagram_tests d)) (first_that_holds (transport_tests d)) (first_that_holds w)
    ∙ ap (λ (o : Option Refusal). option_or o (first_that_holds w)) (sym (front_is e))

pub left_next : {S : Type 0} (rules : SessionRules S) (live : World S) (e : Event) (r : Option Refusal) → live.clock ≡ e.moment
    → left_as rules (kind_of (datagram_in e)) r live e.side (datagram_in e) ≡ next_by rules live e (verdict_of r)
left_next rules live e None m = ap (λ moment. after_kind rules live e.side moment (datagram_in e) (kind_of (datagram_in e))) m
left_next rules live e (Some r) m = refl

-- the first test of a frame that passes by itself is that of its world
pub first_world : {S : Type 0} (rules : SessionRules S) (live : World S) (e : Event) → live.clock ≡ e.moment → first_that_holds (front_tests e) ≡ None
    → first_that_holds (world_tests rules live e.side live.clock (datagram_in e) (kind_of (datagram_in e))) ≡ first_that_holds (tests rules live e)
first_world rules live e m none =
    ap (λ moment. first_that_holds (world_tests rules live e.side moment (datagram_in e) (kind_of (datagram_in e)))) m
    ∙ sym (all_tests rules live e
    ∙ ap (λ (o : Option Refusal). option_or o (first_that_holds (world_tests rules live e.side e.moment (datagram_in e) (kind_of (datagram_in e)))))
    none)

pub first_front : {S : Type 0} (rules : SessionRules S) (live : World S) (e : Event) (r : Refusal) → first_that_holds (front_tests e) ≡ Some r
    → Some r ≡ first_that_holds (tests rules live e)
first_front rules live e r h =
    sym (all_tests rules live e
    ∙ ap (λ (o : Option Refusal). option_or o
    (first_that_holds (world_tests rules live e.side e.moment (datagram_in e) (kind_of (datagram_in e))))) h)
