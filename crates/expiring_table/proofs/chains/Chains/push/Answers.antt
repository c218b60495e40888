use Rattle.std.proofs.Common.{rules, ◌≡◌, ◌∙◌, ◌<◌, ◌∷◌, [], ap, sym, arith, length, length-append, set, slice_index, slice_index_or, Some, None, Option, subst, ℕ}
use Rattle.std.proofs.lemmas.List.{length-set, get_or_read}
use Rattle.expiring_table.specs.Prelude.{Chained, IsLast}
use Rattle.expiring_table.proofs.Links.{heads_push, befores_push}
use Rattle.expiring_table.proofs.chains.Chains.push.Goals as goal

pub invariant_of-self : goal.invariant_of-self
invariant_of-self c =
    let heads = c.self.inside.heads.items in
    let buckets = c.self.inside.buckets.items in
    let previous = c.self.inside.previous.items in
    let buckets' = c.push_reserved-2.new.self.items in
    let previous' = c.push_reserved.new.self.items in
    let invariant = c.self.invariant in
    let wide : length heads ≡ c.args.self.now.width = ap (λ (one : Chained). one.width) c.self.view_is in
    let within : c.args.bucket < length heads = omega (arith, c.requires.bucket) in
    let read = get_or_read heads c.args.bucket c.index.result.now within c.index.ensures None in
    let link : c.to.result ≡ Some (length buckets) = c.to.ensures ∙ ap Some (search rules) in
    let P : Option ℕ → Type 0 = λ head. IsLast c.args.bucket buckets (length buckets) head in
    let Q : Option ℕ → Type 0 = λ head. (bucket : ℕ) → bucket < length (set heads c.args.bucket head)
    → IsLast bucket buckets' (length buckets') (slice_index_or (set heads c.args.bucket head) bucket None) in
    record {
      few = omega (arith, invariant.few, c.push_reserved-2.ensures.capacity);
      room = omega (arith, invariant.room, c.push_reserved-2.ensures.capacity, c.push_reserved.ensures.capacity);
      places = omega (
        arith,
        invariant.places,
        ap length c.push_reserved-2.ensures.items,
        ap length c.push_reserved.ensures.items,
        length-append buckets (c.args.bucket ∷ []),
        length-append previous (c.index.result.now ∷ []),
      );
      heads = subst Q (sym link)
          (λ bucket in'. heads_push heads buckets buckets' c.args.bucket c.push_reserved-2.ensures.items within invariant.heads bucket
          (omega (arith, length-set heads c.args.bucket (Some (length buckets)))));
      previous = λ place' in'' there'. let V : ℕ → Type 0 = λ wide. slice_index buckets' place' < wide in
          befores_push (length heads) previous previous' buckets buckets' c.args.bucket c.index.result.now c.push_reserved-2.ensures.items
          c.push_reserved.ensures.items invariant.places (subst P (sym read) (invariant.heads c.args.bucket within))
          (λ place in' there. invariant.previous place in' there) place' in'' (subst V (length-set heads c.args.bucket c.to.result) there');
    }
