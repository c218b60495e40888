use Rattle.std.proofs.Common.{sym, ◌∙◌}
use Rattle.frag_join.proofs.FrameLemmas.{fragment-header}
use Rattle.frag_join.proofs.fragment.fragment_octets.Goals as goal

pub returns-then-is_fragment-clause-header : goal.returns-then-is_fragment-clause-header
returns-then-is_fragment-clause-header c = fragment-header c.octets_in-octets.result.now (sym c.is_fragment.ensures ∙ c.if-is_fragment.true)
