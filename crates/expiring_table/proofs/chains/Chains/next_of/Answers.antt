use Rattle.std.proofs.Common.{◌≡◌, ◌∙◌, ◌<◌, ap, sym, subst, arith, Option, ℕ, slice_index, length}
use Rattle.std.proofs.lemmas.List.{get_or_read}
use Rattle.expiring_table.specs.Prelude.{Chained, IsLast, IsNext}
use Rattle.expiring_table.proofs.Links.{IsStep, step_start, step_on}
use Rattle.expiring_table.proofs.chains.Chains.next_of.Goals as goal

pub loop-at-init : goal.loop-at-init
loop-at-init c =
    let inside = c.self.inside.buckets.items in
    let buckets = c.args.self.now.buckets in
    let same : inside ≡ buckets = ap (λ (one : Chained). one.buckets) c.self.view_is in
    let long : length inside ≡ length buckets = ap length same in
    let read : c.index.result.now ≡ slice_index buckets c.args.place =
    get_or_read inside c.args.place c.index.result.now (omega (arith, c.requires.place)) c.index.ensures 0
    ∙ ap (λ all. slice_index all c.args.place) same in
    let P : ℕ → Type 0 = λ bucket. IsLast bucket buckets (length buckets) c.last-at.result in
    step_start buckets c.args.place c.last-at.result c.requires.place (subst P read c.last-at.ensures)

pub returns-then-one-place : goal.returns-then-one-place
returns-then-one-place c =
    let buckets = c.args.self.now.buckets in
    let P : Option ℕ → Type 0 = λ at. IsStep buckets c.args.place c.loop-at.next at in
    let step = subst P c.in-Some.is c.loop-at.invariant in
    let Q : ℕ → Type 0 = λ at. IsNext (slice_index buckets c.args.place) buckets at c.loop-at.next in
    subst Q c.if-one-place.true (step.3)

pub before-at-requires-clause-place : goal.before-at-requires-clause-place
before-at-requires-clause-place c =
    let P : Option ℕ → Type 0 = λ at. IsStep c.args.self.now.buckets c.args.place c.loop-at.next at in
    let step = subst P c.in-Some.is c.loop-at.invariant in step.1

pub before-at-requires-clause-there : goal.before-at-requires-clause-there
before-at-requires-clause-there c =
    let P : Option ℕ → Type 0 = λ at. IsStep c.args.self.now.buckets c.args.place c.loop-at.next at in
    let step = subst P c.in-Some.is c.loop-at.invariant in
    let Q : ℕ → Type 0 = λ bucket. bucket < c.args.self.now.width in
    subst Q (sym (step.2)) c.requires.there

pub loop-at-preserved : goal.loop-at-preserved
loop-at-preserved c =
    let P : Option ℕ → Type 0 = λ at. IsStep c.args.self.now.buckets c.args.place c.loop-at.next at in
    step_on c.args.self.now.buckets c.args.place c.loop-at.next c.in-Some.one c.before-at.result (subst P c.in-Some.is c.loop-at.invariant)
    c.if-one-place.false c.before-at.ensures

pub returns : goal.returns
returns c =
    let P : Option ℕ → Type 0 = λ at. IsStep c.args.self.now.buckets c.args.place c.loop-at.next at in
    absurd (subst P c.in_default.is c.loop-at.invariant)
