use Rattle.std.proofs.Common.{◌≡◌, cond, false, Some, None, sym, ap, ◌∙◌}
use Rattle.frag_join.specs.Prelude.{is_other, ends_otherwise}
use Rattle.frag_join.proofs.BufferLemmas.{ends-plain}
use Rattle.frag_join.proofs.buffer.Buffer.ends_otherwise.Goals as goal
use Rattle.frag_join.proofs.buffer.Buffer.ends_otherwise.Goals.{then-self-2, else-self-2}

pub returns-else-end-self : goal.returns-else-end-self
returns-else-end-self c =
    let b = c.self.inside in
    let known : is_other c.end-end.result (cond b.ended (Some b.reach) None) ≡ false = elim c.if-self-2.branch [
      | then-self-2 w ↦ ap (λ e. is_other c.end-end.result (cond e (Some b.reach) None)) w.if-self-2.true ∙ sym w.value-is ∙ c.if-end-self.false
      | else-self-2 w ↦ ap (λ e. is_other c.end-end.result (cond e (Some b.reach) None)) w.if-self-2.false
    ] in
    ends-plain b c.args.fragment.now c.end-end.result c.more.result c.if-more.false c.more.ensures c.end-end.ensures known
    ∙ ap (λ k. ends_otherwise k c.args.fragment.now) c.self.view_is
