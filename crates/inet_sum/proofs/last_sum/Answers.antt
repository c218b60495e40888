use Rattle.std.proofs.Common.{refl, ◌≡◌, ◌+◌, ◌*◌, ap, ◌∙◌, arith}
use Rattle.byteorder.specs.Endian.{little_number}
use Rattle.inet_sum.specs.Sum.{total, fold_of}
use Rattle.inet_sum.proofs.Words.{number_folds, fold_both, total_cut}
use Rattle.inet_sum.proofs.last_sum.Goals as goal

pub returns-clause-folds : goal.returns-clause-folds
returns-clause-folds c =
    let octets = c.args.octets.now in
    let four = c.split_at.result.0.now in
    let few = c.split_at.result.1.now in
    let parts : 256 * (c.from.result + c.few_sum-2.result) ≡ 256 * little_number 4 four + 256 * c.few_sum-2.result =
    omega (arith, c.from.ensures, c.read_u32.ensures)
    in
    let cut : total four + total few ≡ total octets =
    omega (arith, total_cut 4 octets refl (omega arith), ap total c.split_at.ensures.front, ap total c.split_at.ensures.back)
    in
    ap fold_of parts
    ∙ fold_both (256 * little_number 4 four) (256 * c.few_sum-2.result) (total four) (total few) (number_folds 4 four refl (omega arith))
    c.few_sum-2.ensures.folds
    ∙ ap fold_of cut
