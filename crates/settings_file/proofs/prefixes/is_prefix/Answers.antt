use Rattle.std.proofs.Common.{◌∙◌, w32}
use Rattle.std.proofs.Math.Facts.{Fits-lt-pow}
use Rattle.settings_file.proofs.ArcTexts.{prefix_is}
use Rattle.settings_file.proofs.prefixes.is_prefix.Goals as goal

pub returns-then-arcs-le-MOST_ARCS : goal.returns-then-arcs-le-MOST_ARCS
returns-then-arcs-le-MOST_ARCS c = c.can_begin.ensures
    ∙ prefix_is c.args.arcs.now c.in-len2-up.len_at_least c.if-arcs-le-MOST_ARCS.true (λ k. Fits-lt-pow {w = w32} (c.type_inv.arcs k))
