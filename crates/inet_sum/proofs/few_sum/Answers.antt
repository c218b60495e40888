use Rattle.std.proofs.Common.{refl, ap, ◌∙◌, arith, drop, length-drop}
use Rattle.inet_sum.specs.Sum.{fold_of}
use Rattle.inet_sum.proofs.Words.{lowest_first, third_octet, one_octet, no_octet}
use Rattle.inet_sum.proofs.few_sum.Goals as goal

pub returns-in-len3-clause-folds : goal.returns-in-len3-clause-folds
returns-in-len3-clause-folds c =
    let octets = c.args.octets.now in
    let last = third_octet octets (omega arith) in
    ap fold_of (omega (arith, last)) ∙ lowest_first 2 octets refl (omega arith)

pub returns-in-len2-clause-folds : goal.returns-in-len2-clause-folds
returns-in-len2-clause-folds c =
    let octets = c.args.octets.now in
    let none = no_octet (drop 2 octets) (omega (arith, length-drop 2 octets)) in
    ap fold_of (omega (arith, none)) ∙ lowest_first 2 octets refl (omega arith)

pub returns-in-len1-clause-folds : goal.returns-in-len1-clause-folds
returns-in-len1-clause-folds c = ap fold_of (omega (arith, one_octet c.args.octets.now (omega arith)))

pub returns-in_default-clause-folds : goal.returns-in_default-clause-folds
returns-in_default-clause-folds c = ap fold_of (omega (arith, no_octet c.args.octets.now (omega arith)))
