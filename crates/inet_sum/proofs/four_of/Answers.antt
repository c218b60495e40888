use Rattle.std.proofs.Common.{refl, ◌∙◌, ◌*◌, ap}
use Rattle.inet_sum.specs.Sum.{fold_of}
use Rattle.inet_sum.proofs.Words.{number_folds}
use Rattle.inet_sum.proofs.four_of.Goals as goal

pub returns-clause-folds : goal.returns-clause-folds
returns-clause-folds c = ap (λ n. fold_of (256 * n)) (c.from.ensures ∙ c.read_u32.ensures) ∙ number_folds 4 c.args.octets.now refl c.requires
