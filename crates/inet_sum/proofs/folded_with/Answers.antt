use Rattle.std.proofs.Common.{◌≡◌, ◌+◌, ◌*◌, ◌/◌, ap, ◌∙◌, arith, length}
use Rattle.inet_sum.specs.Sum.{total, fold_of}
use Rattle.inet_sum.proofs.Words.{total_cut, fold_both, fold_same, fold_scaled}
use Rattle.inet_sum.proofs.folded_with.Goals as goal

pub returns : goal.returns
returns c =
    let octets = c.args.octets.now in
    let eights = total c.split_at.result.0.now in
    let last = total c.split_at.result.1.now in
    let sum = c.narrowed.result in
    let more = c.last_sum.result in
    let parts : c.args.start + 256 * (sum + more) ≡ c.args.start + (256 * sum + 256 * more) = omega arith in
    let cut : eights + last ≡ total octets =
    omega (
      arith,
      total_cut (length octets / 8 * 8) octets (omega arith) (omega arith),
      ap total c.split_at.ensures.front,
      ap total c.split_at.ensures.back,
    )
    in
    let lanes = fold_scaled sum c.eights_sum.result c.narrowed.ensures.folds ∙ c.eights_sum.ensures in
    c.fold.ensures ∙ ap fold_of parts
    ∙ fold_same c.args.start (256 * sum + 256 * more) (eights + last) (fold_both (256 * sum) (256 * more) eights last lanes c.last_sum.ensures.folds)
    ∙ ap (λ n. fold_of (c.args.start + n)) cut
