use Rattle.std.proofs.Common.{◌&&◌, eqb, sym, ap, ◌∙◌}
use Rattle.frag_join.specs.Prelude.{is_complete}
use Rattle.frag_join.proofs.BufferLemmas.{complete-counted}
use Rattle.frag_join.proofs.buffer.Buffer.is_complete.Goals as goal

pub returns-then-self : goal.returns-then-self
returns-then-self c =
    let b = c.self.inside in
    ap (λ ended. ended && eqb b.count b.reach) (sym c.if-self.true) ∙ sym (complete-counted b c.self.invariant) ∙ ap is_complete c.self.view_is
