use Rattle.std.proofs.Common.{◌≡◌, ◌+◌, ◌-◌, ap, ◌∙◌, sym, arith, take, drop}
use Rattle.gate_base.specs.Prelude.{u16_at, with_u16}
use Rattle.inet_sum.specs.Sum.{fold_of, total}
use Rattle.inet_sum.proofs.Words.{total_at, total_with, fold_field}
use Rattle.inet_sum.proofs.kept_sum.Goals as goal

pub returns : goal.returns
returns c =
    let s = c.args.octets.now in
    let place = c.args.place in
    let rest = total (take place s) + total (drop (place + 2) s) in
    let before : total s ≡ rest + u16_at place s = omega (arith, total_at place s c.requires.even c.requires.within) in
    let after : total (with_u16 place 0 s) ≡ rest =
    omega (arith, total_with place 0 s (omega arith) c.requires.even c.requires.within)
    in
    c.get_u16.ensures ∙ fold_field rest (u16_at place s) c.requires.field (ap fold_of (sym before) ∙ c.requires.right)
    ∙ ap (λ n. 65535 - fold_of n) (sym after)
