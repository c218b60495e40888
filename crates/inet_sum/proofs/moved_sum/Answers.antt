use Rattle.std.proofs.Common.{◌≡◌, ◌++◌, ◌+◌, ◌-◌, ap, ◌∙◌, sym, arith, length, take, drop}
use Rattle.gate_base.specs.Prelude.{u16_at, with_u16}
use Rattle.inet_sum.specs.Sum.{fold_of, pseudo_header, total}
use Rattle.inet_sum.proofs.Words.{total_pseudo, total_at, total_with, fold_moved, length-with_u16}
use Rattle.inet_sum.proofs.moved_sum.Goals as goal

pub returns : goal.returns
returns c =
    let s = c.args.segment.now in
    let p = c.args.protocol in
    let from = c.halves.result + c.halves-2.result in
    let to = c.halves-3.result + c.halves-4.result in
    let empty = with_u16 c.args.place 0 s in
    let same : length empty ≡ length s = length-with_u16 c.args.place 0 s c.requires.within in
    let rest = (p + length s) + (total (take c.args.place s) + total (drop (c.args.place + 2) s)) in
    let field : c.from-field.result ≡ u16_at c.args.place s = c.from-field.ensures ∙ c.get_u16.ensures in
    let before : total (pseudo_header c.args.from.0.0 c.args.from.1.0 p (length s) ++ s) ≡ from + (c.from-field.result + rest) =
    omega (
      arith,
      total_pseudo c.args.from.0.0 c.args.from.1.0 p (length s) s c.halves.ensures.fits c.halves-2.ensures.fits (omega arith),
      total_at c.args.place s c.requires.even c.requires.within,
      field,
      c.halves.ensures.words,
      c.halves-2.ensures.words,
    )
    in
    let after : total (pseudo_header c.args.to.0.0 c.args.to.1.0 p (length empty) ++ empty) ≡ to + rest =
    omega (
      arith,
      total_pseudo c.args.to.0.0 c.args.to.1.0 p (length empty) empty c.halves-3.ensures.fits c.halves-4.ensures.fits (omega (arith, same)),
      total_with c.args.place 0 s (omega arith) c.requires.even c.requires.within,
      same,
      c.halves-3.ensures.words,
      c.halves-4.ensures.words,
    )
    in
    let moved = fold_moved from to c.from-field.result rest
    (omega (arith, c.halves.ensures.words, c.halves-2.ensures.words, c.halves.ensures.fits, c.halves-2.ensures.fits)) (omega arith) (omega arith)
    (ap fold_of (sym before) ∙ c.requires.right) in
    ap (λ n. 65535 - n) (c.fold.ensures ∙ moved ∙ ap fold_of (sym after))
