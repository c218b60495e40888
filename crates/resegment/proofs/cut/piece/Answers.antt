use Rattle.std.proofs.Common.{◌≡◌, ◌+◌, ◌*◌, arith}
use Rattle.resegment.proofs.PieceLemmas.{cut_is}
use Rattle.resegment.proofs.cut.piece.Goals as goal

pub returns-clause-start : goal.returns-clause-start
returns-clause-start c = omega (arith, cut_is c.args.count c.args.limit c.args.index c.requires)

pub returns-clause-end : goal.returns-clause-end
returns-clause-end c =
    let times : (c.args.index + 1) * c.args.limit ≡ c.args.index * c.args.limit + c.args.limit = grind arith in
    omega (arith, cut_is c.args.count c.args.limit (c.args.index + 1) c.requires, times)
