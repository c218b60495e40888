-- A step on lists of fragments, and on what they tell.
use Rattle.std.proofs.Common.{◌≡◌, ℕ, Bool, true, false, cond, List, [], ◌∷◌, map, length, Option, Some, None, refl, sym, ap, ◌∙◌, slice_get, option_and_then, option_map}
use Rattle.std.proofs.lemmas.List.{map-append, map-set, length-map}
use Rattle.std.proofs.lemmas.Option.{slice_get-map}
use Rattle.gate_base.specs.Prelude.{Event}
use Rattle.verdicts.specs.Prelude.{first_that_holds}
use Rattle.verdicts.specs.declared.refusal.Refusal.{Refusal}
use Rattle.gate_base.proofs.Lists.{filter_as, position_as, remove_as}
use Rattle.frag_join.specs.declared.part.Name.{Name}
use Rattle.frag_join.specs.declared.part.Part.{Part}
use Rattle.frag_join.specs.declared.taken.Taken.TheVariants.{Plain, Held, Joined}
use Rattle.frag_join.specs.Prelude.{Fragment, is_fragment, name_in, fragment_in, Coverage, known_by, is_complete, datagram_of, State, Step, by_list}
use Rattle.frag_join.specs.Prelude.{by_known, is_live, live, is_of, place_of, part_of, part_or_new, changed, event_from, fragment_tests, settled}
use Rattle.frag_join.specs.Prelude.{with_fragment, taken_unless, fragment_taken, fragment_step, step_by, step, after, state_known, step_known}
use Rattle.frag_join.specs.Joining.{tests_by, part_known}
use Rattle.frag_join.proofs.KnownLemmas.{known-push}

-- ## Parts

abbrev Whole : Type 0
Whole = Part (List Fragment)

live-known : (now : ℕ) (parts : List Whole) → live now (map part_known parts) ≡ map part_known (live now parts)
live-known now parts = filter_as part_known (is_live now) (is_live now) (λ p. refl) parts

place-known : (name : Name) (parts : List Whole) → place_of name (map part_known parts) ≡ place_of name parts
place-known name parts = position_as part_known (is_of name) (is_of name) (λ p. refl) parts

part-known_at : (parts : List Whole) (place : Option ℕ) → option_and_then (slice_get (map part_known parts)) place ≡ option_map part_known
    (option_and_then (slice_get parts) place)
part-known_at parts None = refl
part-known_at parts (Some place) = slice_get-map part_known parts place

part-known : (name : Name) (parts : List Whole) → part_of name (map part_known parts) ≡ option_map part_known (part_of name parts)
part-known name parts = ap (option_and_then (slice_get (map part_known parts))) (place-known name parts) ∙ part-known_at parts (place_of name parts)

changed-known : (parts : List Whole) (place : Option ℕ) (part : Option Whole) → changed (map part_known parts) place (option_map part_known part)
    ≡ map part_known (changed parts place part)
changed-known parts None None = refl
changed-known parts None (Some part) = sym (map-append part_known parts (part ∷ []))
changed-known parts (Some place) None = remove_as part_known place parts
changed-known parts (Some place) (Some part) = sym (map-set part_known parts place part)

new-known : (e : Event) (part : Option Whole) → part_or_new by_known e (option_map part_known part) ≡ part_known (part_or_new by_list e part)
new-known e None = refl
new-known e (Some part) = refl

with-known : (part : Whole) (e : Event) → with_fragment by_known (part_known part) e ≡ part_known (with_fragment by_list part e)
with-known part e = λ i. record { name = part.name; since = part.since; kept = sym (known-push part.kept (fragment_in e)) i }

tests-known : (parts : List Whole) (e : Event) (known : Coverage) → first_that_holds (fragment_tests (map part_known parts) e known)
    ≡ first_that_holds (fragment_tests parts e known)
tests-known parts e known =
    ap (λ place. first_that_holds (tests_by e known place (length (map part_known parts)))) (place-known (name_in e) parts)
    ∙ ap (λ n. first_that_holds (tests_by e known (place_of (name_in e) parts) n)) (length-map parts part_known)

-- ## Steps

pub step_cond : (b : Bool) (one other : Step (List Fragment)) → cond b (step_known one) (step_known other) ≡ step_known (cond b one other)
step_cond true one other = refl
step_cond false one other = refl

settled-known : (parts : List Whole) (place : Option ℕ) (e : Event) (part : Whole) → settled by_known (map part_known parts) place e (part_known part)
    ≡ step_known (settled by_list parts place e part)
settled-known parts place e part =
    let event : Event = event_from e.side e.moment (datagram_of (known_by part.kept)) in
    ap (λ all. cond (is_complete (known_by part.kept)) (record { answer = Joined; state = record { parts = all; joined = Some event } })
    (record { answer = Held; state = record { parts = changed (map part_known parts) place (Some (part_known part)); joined = None } }))
    (changed-known parts place None)
    ∙ ap (λ all. cond (is_complete (known_by part.kept))
    (record { answer = Joined; state = record { parts = map part_known (changed parts place None); joined = Some event } })
    (record { answer = Held; state = record { parts = all; joined = None } })) (changed-known parts place (Some part))
    ∙ step_cond (is_complete (known_by part.kept))
    (record { answer = Joined; state = record { parts = changed parts place None; joined = Some event } })
    (record { answer = Held; state = record { parts = changed parts place (Some part); joined = None } })

unless-known : (parts : List Whole) (e : Event) (part : Whole) (refusal : Option Refusal)
    → taken_unless by_known (map part_known parts) e (part_known part) refusal ≡ step_known (taken_unless by_list parts e part refusal)
unless-known parts e part (Some refusal) = refl
unless-known parts e part None =
    ap (λ place. settled by_known (map part_known parts) place e (with_fragment by_known (part_known part) e)) (place-known (name_in e) parts)
    ∙ ap (settled by_known (map part_known parts) (place_of (name_in e) parts) e) (with-known part e)
    ∙ settled-known parts (place_of (name_in e) parts) e (with_fragment by_list part e)

taken-known : (parts : List Whole) (e : Event) (part : Whole) → fragment_taken by_known (map part_known parts) e (part_known part)
    ≡ step_known (fragment_taken by_list parts e part)
taken-known parts e part =
    ap (taken_unless by_known (map part_known parts) e (part_known part)) (tests-known parts e (known_by part.kept))
    ∙ unless-known parts e part (first_that_holds (fragment_tests parts e (known_by part.kept)))

fragment-known : (parts : List Whole) (e : Event) → fragment_step by_known (map part_known parts) e ≡ step_known (fragment_step by_list parts e)
fragment-known parts e =
    ap (λ part. fragment_taken by_known (map part_known parts) e (part_or_new by_known e part)) (part-known (name_in e) parts)
    ∙ ap (fragment_taken by_known (map part_known parts) e) (new-known e (part_of (name_in e) parts))
    ∙ taken-known parts e (part_or_new by_list e (part_of (name_in e) parts))

by-known : (parts : List Whole) (e : Event) → step_by by_known (map part_known parts) e ≡ step_known (step_by by_list parts e)
by-known parts e =
    ap (λ one. cond (is_fragment e) one (record { answer = Plain; state = record { parts = map part_known parts; joined = None } }))
    (fragment-known parts e)
    ∙ step_cond (is_fragment e) (fragment_step by_list parts e) (record { answer = Plain; state = record { parts = parts; joined = None } })

-- what the fragments tell is enough for a step
pub step-known : (state : State (List Fragment)) (e : Event) → step by_known (state_known state) e ≡ step_known (step by_list state e)
step-known state e = ap (λ parts. step_by by_known parts e) (live-known e.moment state.parts) ∙ by-known (live e.moment state.parts) e

-- and for all that follow
pub after-known : (state : State (List Fragment)) (events : List Event) → after by_known (state_known state) events
    ≡ state_known (after by_list state events)
after-known state [] = refl
after-known state (e ∷ events) = ap (λ one. after by_known one.state events) (step-known state e) ∙ after-known (step by_list state e).state events
