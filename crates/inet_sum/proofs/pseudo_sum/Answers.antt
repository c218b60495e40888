use Rattle.std.proofs.Common.{◌==◌, ◌++◌, ◌-◌, ap, ◌∙◌, arith, length}
use Rattle.inet_sum.specs.Sum.{fold_of, pseudo_header}
use Rattle.inet_sum.proofs.Words.{total_pseudo, zero_if_right}
use Rattle.inet_sum.proofs.pseudo_sum.Goals as goal

pub returns-clause-value : goal.returns-clause-value
returns-clause-value c =
    let all = total_pseudo c.args.source.0 c.args.destination.0 c.args.protocol (length c.args.octets.now) c.args.octets.now c.halves.ensures.fits
    c.halves-2.ensures.fits (omega arith) in
    ap (λ n. 65535 - n) (c.folded_with.ensures ∙ ap fold_of (omega (arith, all)))

pub returns-clause-right : goal.returns-clause-right
returns-clause-right c =
    ap (λ n. n == 0) (returns-clause-value c)
    ∙ zero_if_right (pseudo_header c.args.source.0 c.args.destination.0 c.args.protocol (length c.args.octets.now) ++ c.args.octets.now)
