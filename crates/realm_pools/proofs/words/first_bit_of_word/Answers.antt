use Rattle.std.proofs.Common.{rules, ◌≡◌, ◌/◌, ◌%◌, ◌^◌, ◌<◌, ◌∙◌, ap, sym, slice_index}
use Rattle.realm_pools.proofs.Bits.{none_in_word, first_in_word}
use Rattle.realm_pools.proofs.words.first_bit_of_word.Goals as goal

pub returns-then-word-eq0 : goal.returns-then-word-eq0
returns-then-word-eq0 c =
    let read : c.unwrap_or.result ≡ slice_index c.args.words.now (c.args.from / 64) = search rules in
    none_in_word c.args.words.now c.args.from (ap (λ word. word / 2 ^ (c.args.from % 64)) (sym read) ∙ c.if-word-eq0.true)

pub returns-else-word-eq0 : goal.returns-else-word-eq0
returns-else-word-eq0 c =
    let read : c.unwrap_or.result ≡ slice_index c.args.words.now (c.args.from / 64) = search rules in
    let small : slice_index c.args.words.now (c.args.from / 64) < 2 ^ 64 = search rules in
    let some : 0 < c.unwrap_or.result / 2 ^ (c.args.from % 64) = search rules in
    first_in_word c.args.words.now c.args.from (c.unwrap_or.result / 2 ^ (c.args.from % 64)) small (ap (λ word. word / 2 ^ (c.args.from % 64)) read)
    some
