use Rattle.std.proofs.Common.{rules, ◌+◌, ◌/◌, ◌^◌, ◌<◌, subst, ℕ, Option, slice_index, arith, w64}
use Rattle.std.proofs.lemmas.Nat.Bits.{bit_at-trailing_zeros}
use Rattle.realm_pools.specs.Inside.Places.{any_in, IsFirst}
use Rattle.realm_pools.proofs.Bits.{one_any, word_within, next_word}
use Rattle.realm_pools.proofs.words.first_bit.Goals as goal

pub overflow_add-result : goal.overflow_add-result
overflow_add-result c =
    let words = c.args.words.now in
    let word = c.in_ok-word-in-None.word in
    let P : Option ℕ → Type 0 = λ next. IsFirst (any_in words) (c.args.from / 64 + 1) next in
    let next = subst P c.in_ok-word-in-None.was c.requires.next in
    let small : slice_index words word < 2 ^ 64 = search rules in
    let lowest = bit_at-trailing_zeros w64 (slice_index words word) (one_any (slice_index words word) (next.1)) small in
    omega (arith, c.requires.few, word_within words word (next.1), lowest.0)

pub returns-in_ok-word-in-None : goal.returns-in_ok-word-in-None
returns-in_ok-word-in-None c =
    let words = c.args.words.now in
    let word = c.in_ok-word-in-None.word in
    let P : Option ℕ → Type 0 = λ next. IsFirst (any_in words) (c.args.from / 64 + 1) next in
    let small : slice_index words word < 2 ^ 64 = search rules in
    next_word words c.args.from word small c.in-None.ensures (subst P c.in_ok-word-in-None.was c.requires.next)
