use Rattle.std.proofs.Common.{◌≡◌, None, sym, subst}
use Rattle.frag_join.specs.Prelude.{Coverage, octet_of}
use Rattle.frag_join.proofs.BufferLemmas.{octet-held, octet-free, octet-past}
use Rattle.frag_join.proofs.buffer.Buffer.octet.Goals as goal
use Rattle.frag_join.proofs.buffer.Buffer.octet.Goals.{else-place-self-via-then-place-self+else-index, else-place-self-via-else-place-self}

pub returns-then-index : goal.returns-then-index
returns-then-index c =
    let b = c.self.inside in
    rw (← c.self.view_is) (octet-held b c.args.place c.index-then-index.result.now c.index.result.now c.self.invariant c.if-place-self.true
    c.if-index.true c.index.ensures c.index-then-index.ensures)

pub returns-else-place-self : goal.returns-else-place-self
returns-else-place-self c =
    let b = c.self.inside in
    let P : Coverage → Type 0 = λ k. None ≡ octet_of k c.args.place in
    subst P c.self.view_is
    (elim c.else-place-self.branch [
      | else-place-self-via-then-place-self+else-index w ↦ octet-free b c.args.place w.index.result.now c.self.invariant w.if-place-self.true
          w.if-index.false w.index.ensures
      | else-place-self-via-else-place-self w ↦ sym (octet-past b c.args.place w.if-place-self.false)
    ])
