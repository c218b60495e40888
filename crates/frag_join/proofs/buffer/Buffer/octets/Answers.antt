use Rattle.std.proofs.Common.{◌≡◌, ◌+◌, true, take, sym, subst, ap, ◌∙◌}
use Rattle.frag_join.specs.Prelude.{Coverage, is_complete, spelled}
use Rattle.frag_join.proofs.BufferLemmas.{spelled-front}
use Rattle.frag_join.proofs.buffer.Buffer.octets.Goals as goal

pub returns : goal.returns
returns c =
    let b = c.self.inside in
    let P : Coverage → Type 0 = λ k. is_complete k ≡ true in
    ap (take (20 + b.reach)) c.deref.ensures.value ∙ spelled-front b c.self.invariant (subst P (sym c.self.view_is) c.requires)
    ∙ ap spelled c.self.view_is
