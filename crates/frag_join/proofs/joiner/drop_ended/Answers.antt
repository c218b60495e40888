use Rattle.std.proofs.Common.{◌≡◌, not, Some, length, ap, ◌∙◌, sym, arith, position}
use Rattle.std.proofs.lemmas.List.{length_push}
use Rattle.frag_join.specs.Prelude.{is_live, live}
use Rattle.frag_join.proofs.PartLemmas.{ended-goes, ended-count, none-ended}
use Rattle.frag_join.proofs.joiner.drop_ended.Goals as goal

pub loop-place-preserved : goal.loop-place-preserved
loop-place-preserved c =
    let now = c.args.now.0 in
    let parts = c.loop-place.parts.items in
    let found : position (λ part. not (is_live now part)) parts ≡ Some c.in-Some.place =
    ap (position (λ part. not (is_live now part))) (sym c.deref.ensures.value) ∙ sym c.ended_place.ensures.place ∙ c.in-Some.is in
    record {
      live = ap (live now) c.remove-part.ensures.items ∙ ended-goes (is_live now) parts c.in-Some.place c.remove-part.result found
          ∙ c.loop-place.invariant.live;
      buffers = omega (
        arith,
        ap length c.remove-part.ensures.items,
        ended-count (is_live now) parts c.in-Some.place c.remove-part.result found,
        ap length c.push_reserved.ensures.items,
        length_push c.loop-place.spare.items c.remove-part.result.kept,
        c.loop-place.invariant.buffers,
      );
      room = c.remove-part.ensures.capacity ∙ c.loop-place.invariant.room;
      spare = c.push_reserved.ensures.capacity ∙ c.loop-place.invariant.spare;
    }

pub returns-clause-parts : goal.returns-clause-parts
returns-clause-parts c =
    let now = c.args.now.0 in
    none-ended (is_live now) c.loop-place.parts.items
    (ap (position (λ part. not (is_live now part))) (sym c.deref.ensures.value) ∙ sym c.ended_place.ensures.place ∙ c.in_default.is)
    ∙ c.loop-place.invariant.live
