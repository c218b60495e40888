use Rattle.std.proofs.Common.{◌∙◌}
use Rattle.inet_sum.proofs.Words.{fold_wide, fold_both}
use Rattle.inet_sum.proofs.narrowed.Goals as goal

pub returns-clause-folds : goal.returns-clause-folds
returns-clause-folds c = fold_both c.shortened.result c.shortened-2.result _ _ c.shortened.ensures.folds c.shortened-2.ensures.folds
    ∙ fold_wide c.args.sum
