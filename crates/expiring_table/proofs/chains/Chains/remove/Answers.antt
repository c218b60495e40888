use Rattle.std.proofs.Common.{rules, ◌≡◌, ◌∙◌, ◌<◌, ap, sym, subst, arith, Option, Some, None, ℕ, List, set, slice_index, slice_index_or, length}
use Rattle.std.proofs.lemmas.List.{get_or_read, length-set}
use Rattle.expiring_table.specs.Prelude.{Chained, IsLast, IsNext}
use Rattle.expiring_table.proofs.Links.{heads_inner, befores_inner}
use Rattle.expiring_table.proofs.chains.Chains.remove.Goals as goal

pub invariant_of-self : goal.invariant_of-self
invariant_of-self c =
    let heads = c.self.inside.heads.items in
    let buckets = c.self.inside.buckets.items in
    let previous = c.self.inside.previous.items in
    let invariant = c.self.invariant in
    let width : length heads ≡ c.args.self.now.width = ap (λ (one : Chained). one.width) c.self.view_is in
    let same : buckets ≡ c.args.self.now.buckets = ap (λ (one : Chained). one.buckets) c.self.view_is in
    let P : List ℕ → Type 0 = λ all. c.args.place < length all in
    let within : c.args.place < length buckets = subst P (sym same) c.requires.place in
    let Q : List ℕ → Type 0 = λ all. slice_index all c.args.place < length heads in
    let there : slice_index buckets c.args.place < length heads = subst Q (sym same) (omega (arith, c.requires.there)) in
    let R : List ℕ → Type 0 = λ all. IsNext (slice_index all c.args.place) all c.args.place (Some c.in-Some.next) in
    let next : IsNext (slice_index buckets c.args.place) buckets c.args.place (Some c.in-Some.next) = subst R (sym same) c.in-Some.ensures in
    let read = get_or_read previous c.args.place c.index-before.result.now (omega (arith, within, invariant.places)) c.index-before.ensures None in
    let S : Option ℕ → Type 0 = λ before. IsLast (slice_index buckets c.args.place) buckets c.args.place before in
    let earlier = subst S (sym read) (invariant.previous c.args.place within there) in
    let wide : length heads ≡ c.len.result = search rules in
    let N : ℕ → Type 0 = λ number. (bucket : ℕ) → bucket < length heads
    → IsLast bucket (set buckets c.args.place number) (length (set buckets c.args.place number)) (slice_index_or heads bucket None) in
    let L : ℕ → Type 0 = λ long. (bucket : ℕ) → bucket < length heads
    → IsLast bucket (set buckets c.args.place (length heads)) long (slice_index_or heads bucket None) in
    let M : ℕ → Type 0 = λ number. (one : ℕ) → one < length (set buckets c.args.place number) → slice_index (set buckets c.args.place number) one
    < length heads → IsLast (slice_index (set buckets c.args.place number) one) (set buckets c.args.place number) one
    (slice_index_or (set previous c.in-Some.next c.index-before.result.now) one None) in
    record {
      few = invariant.few;
      room = invariant.room;
      places = length-set previous c.in-Some.next c.index-before.result.now ∙ invariant.places ∙ sym (length-set buckets c.args.place c.len.result);
      heads = subst N wide (subst L (sym (length-set buckets c.args.place (length heads)))
          (heads_inner heads buckets c.args.place c.in-Some.next within next invariant.heads));
      previous = subst M wide (λ one in' one_there.
          befores_inner (length heads) previous buckets c.index-before.result.now c.args.place c.in-Some.next invariant.places within there next
          earlier invariant.previous one (omega (arith, in', length-set buckets c.args.place (length heads))) one_there);
    }
