use Rattle.std.proofs.Common.{◌≡◌, true, refl, sym, subst, ap, ◌∙◌}
use Rattle.frag_join.specs.Prelude.{Coverage, is_complete, sealed}
use Rattle.frag_join.specs.declared.buffer.Buffer.TheInside.{Inside}
use Rattle.frag_join.proofs.BufferLemmas.{IsSealed, known-sealed}
use Rattle.frag_join.proofs.buffer.Buffer.seal.Goals as goal

pub returns : goal.returns
returns c =
    let b = c.self.inside in
    let new : Inside = record {
      octets = c.seal_head.new.octets;
      held = b.held;
      reach = b.reach;
      count = b.count;
      ended = b.ended;
      headed = b.headed;
    } in
    let P : Coverage → Type 0 = λ k. is_complete k ≡ true in
    let is : IsSealed b new =
    record { held = refl; reach = refl; ended = refl; headed = refl; header = c.seal_head.ensures.header; rest = c.seal_head.ensures.rest } in
    known-sealed b new c.self.invariant (subst P (sym c.self.view_is) c.requires) is ∙ ap sealed c.self.view_is
