use Rattle.std.proofs.Common.{◌≡◌, ◌≤◌, ◌+◌, ℕ, List, Option, Some, length, ap, sym, subst, ◌∙◌, arith, rules}
use Rattle.std.proofs.lemmas.List.{nil_from_length}
use Rattle.dns_names.specs.Prelude.{behind, IsLongest, Start, starts_in}
use Rattle.dns_names.specs.Inside.Writers.{after_in}
use Rattle.dns_names.proofs.Longest.{behind-shorter, ends-after, longest-here, longest-more, longest-none, longest-one}
use Rattle.dns_names.proofs.ending.+longest.Goals as goal

-- what is known of the rest, where nothing is to be written of it
rest-ends : (starts : List Start) (rest name : List ℕ) (count : ℕ) (place : Option ℕ) → rest ≡ behind name → count ≤ 0
    → IsLongest starts rest count place → IsLongest starts (behind name) 0 place
rest-ends starts rest name count place is none deep =
    let zero_is : count ≡ 0 = omega (arith, none) in
    subst (λ (n : ℕ). IsLongest starts (behind name) n place) zero_is (subst (λ (x : List ℕ). IsLongest starts x count place) is deep)

pub returns-then-is_empty-2-clause-longest : goal.returns-then-is_empty-2-clause-longest
returns-then-is_empty-2-clause-longest n c = longest-none _ c.args.name.now (ap starts_in (nil_from_length c.args.places.now (search rules)))

pub overflow_add-result : goal.overflow_add-result
overflow_add-result n c =
    let few : c.longest-count.result.0 + 1 ≤ length c.args.name.now =
    omega (arith, c.longest-count.ensures.few, ap length c.behind_label.ensures, behind-shorter c.args.name.now (search rules)) in search rules

pub returns-then-count-gt0-clause-longest : goal.returns-then-count-gt0-clause-longest
returns-then-count-gt0-clause-longest n c =
    let some : 1 ≤ length c.args.name.now = search rules in
    let is = c.behind_label.ensures in
    longest-more _ c.args.edge.octets.now c.args.name.now c.requires.closed.0 c.longest-count.result.0 c.longest-count.result.1 some
    c.requires.closed.1 (search rules) (omega (arith, c.if-count-gt0.true))
    (omega (arith, c.if-count-gt0.true, c.longest-count.ensures.few, ap length is))
    (subst (λ (x : List ℕ). IsLongest (starts_in c.args.places.now) x c.longest-count.result.0 c.longest-count.result.1) is
    c.longest-count.ensures.longest)

pub returns-clause-longest : goal.returns-clause-longest
returns-clause-longest n c =
    let some : 1 ≤ length c.args.name.now = search rules in
    let starts = starts_in c.args.places.now in
    let rest = rest-ends starts c.behind_label.result.now c.args.name.now c.longest-count.result.0 c.longest-count.result.1
    c.behind_label.ensures (omega (arith, c.if-count-gt0.false)) c.longest-count.ensures.longest in
    let after : after_in starts (behind c.args.name.now) ≡ Some c.unwrap_or.result =
    ends-after starts (behind c.args.name.now) c.longest-count.result.1 rest.ends ∙ ap Some (sym c.unwrap_or.ensures) in
    longest-here starts c.args.name.now c.in-Some-place_of.here some
    (sym (c.requires.finds c.args.name.now c.unwrap_or.result some after) ∙ sym c.place_of-2.ensures ∙ c.in-Some-place_of.is)

pub returns-clause-met : goal.returns-clause-met
returns-clause-met n c =
    let some : 1 ≤ length c.args.name.now = search rules in
    let starts = starts_in c.args.places.now in
    let rest = rest-ends starts c.behind_label.result.now c.args.name.now c.longest-count.result.0 c.longest-count.result.1
    c.behind_label.ensures (omega (arith, c.if-count-gt0.false)) c.longest-count.ensures.longest in
    let after : after_in starts (behind c.args.name.now) ≡ Some c.unwrap_or.result =
    ends-after starts (behind c.args.name.now) c.longest-count.result.1 rest.ends ∙ ap Some (sym c.unwrap_or.ensures) in
    c.keep-2.ensures starts c.longest-count.ensures.met (λ near. sym (c.requires.finds c.args.name.now c.unwrap_or.result some after)
    ∙ sym c.place_of-2.ensures ∙ c.in-Some-place_of.is)

pub returns-in_default-place_of-clause-longest : goal.returns-in_default-place_of-clause-longest
returns-in_default-place_of-clause-longest n c =
    let some : 1 ≤ length c.args.name.now = search rules in
    let starts = starts_in c.args.places.now in
    let rest = rest-ends starts c.behind_label.result.now c.args.name.now c.longest-count.result.0 c.longest-count.result.1
    c.behind_label.ensures (omega (arith, c.if-count-gt0.false)) c.longest-count.ensures.longest in
    let after : after_in starts (behind c.args.name.now) ≡ Some c.unwrap_or.result =
    ends-after starts (behind c.args.name.now) c.longest-count.result.1 rest.ends ∙ ap Some (sym c.unwrap_or.ensures) in
    longest-one starts c.args.name.now c.longest-count.result.1 some rest
    (sym (c.requires.finds c.args.name.now c.unwrap_or.result some after) ∙ sym c.place_of-2.ensures ∙ c.in_default-place_of.is)
