use Rattle.std.proofs.Common.{sym, ap, ◌∙◌}
use Rattle.frag_join.specs.Prelude.{is_bad, known_at}
use Rattle.frag_join.proofs.PartLemmas.{bad-new}
use Rattle.frag_join.proofs.joiner.Joiner.is_bad.Goals as goal

pub returns-in-None : goal.returns-in-None
returns-in-None c = c.is_torn.ensures ∙ bad-new c.args.fragment.now ∙ ap (λ place. is_bad (known_at c.args.self.now.parts place) c.args.fragment.now)
    (sym c.in-None.is)
