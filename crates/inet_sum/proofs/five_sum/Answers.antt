use Rattle.std.proofs.Common.{◌≡◌, ℕ, ◌+◌, ◌*◌, ◌%◌, ◌≤◌, List, length, take, drop, refl, ap, sym, ◌∙◌, arith, length-drop, take-append-drop, drop-drop, length-take-le}
use Rattle.inet_sum.specs.Sum.{total, fold_of}
use Rattle.inet_sum.proofs.Words.{part_more, no_octet}
use Rattle.inet_sum.proofs.five_sum.Goals as goal

-- four octets more
step : (s n at : ℕ) (octets : List ℕ) → at + 4 ≤ length octets → fold_of (256 * n) ≡ fold_of (total (take 4 (drop at octets)))
    → fold_of (256 * (s + n) + total (drop (at + 4) octets)) ≡ fold_of (256 * s + total (drop at octets))
step s n at octets within folds =
    let back = drop at octets in
    let even : length (take 4 back) % 2 ≡ 0 = rw (length-take-le 4 back (omega (arith, length-drop at octets))) refl in
    ap (λ (xs : List ℕ). fold_of (256 * (s + n) + total xs)) (sym (drop-drop 4 at octets))
    ∙ part_more s n (take 4 back) (drop 4 back) even folds
    ∙ ap (λ (xs : List ℕ). fold_of (256 * s + total xs)) (take-append-drop 4 back)

pub returns-clause-folds : goal.returns-clause-folds
returns-clause-folds c =
    let octets = c.args.octets.now in
    let long = c.requires in
    let a = c.four_of.result in
    let b = c.four_of-2.result in
    let d = c.four_of-3.result in
    let e = c.four_of-4.result in
    let f = c.four_of-5.result in
    let none : total (drop 20 octets) ≡ 0 = no_octet (drop 20 octets) (omega (arith, long, length-drop 20 octets)) in
    let first : a ≡ 0 + a = omega arith in
    let whole : 256 * 0 + total (drop 0 octets) ≡ total octets = omega arith in
    ap fold_of (omega (arith, none))
    ∙ step (a + b + d + e) f 16 octets (omega (arith, long)) c.four_of-5.ensures.folds
    ∙ step (a + b + d) e 12 octets (omega (arith, long)) c.four_of-4.ensures.folds
    ∙ step (a + b) d 8 octets (omega (arith, long)) c.four_of-3.ensures.folds
    ∙ step a b 4 octets (omega (arith, long)) c.four_of-2.ensures.folds
    ∙ ap (λ (n : ℕ). fold_of (256 * n + total (drop 4 octets))) first
    ∙ step 0 a 0 octets (omega (arith, long)) c.four_of.ensures.folds
    ∙ ap fold_of whole
