use Rattle.std.proofs.Common.{rules, ◌≡◌, ◌+◌, ◌/◌, ◌∙◌, ap, sym, replicate}
use Rattle.realm_pools.specs.Inside.Places.{bit_of, any_in}
use Rattle.realm_pools.proofs.Bits.{no_bits, none_any}
use Rattle.realm_pools.proofs.places.Places.none.Goals as goal

pub invariant_of-result : goal.invariant_of-result
invariant_of-result c =
    let places : c.in_ok-vec.field-0.items ≡ replicate (c.args.size / 64 + 1) 0 = search rules in
    let words : c.in_ok-vec-2.field-0.items ≡ replicate 64 0 = search rules in
    let blocks : c.in_ok-vec-3.field-0.items ≡ replicate 1 0 = search rules in
    record {
      word_bits = λ word. ap (λ all. bit_of all word) words ∙ no_bits 64 word
          ∙ sym (ap (λ all. any_in all word) places ∙ none_any (c.args.size / 64 + 1) word);
      block_bits = λ block. ap (λ all. bit_of all block) blocks ∙ no_bits 1 block ∙ sym (ap (λ all. any_in all block) words ∙ none_any 64 block);
      few = search rules;
      wide = search rules;
      wider = search rules;
      top = search rules;
    }

pub returns-clause-none : goal.returns-clause-none
returns-clause-none c =
    let places : c.in_ok-vec.field-0.items ≡ replicate (c.args.size / 64 + 1) 0 = search rules in
    λ place. ap (λ all. bit_of all place) places ∙ no_bits (c.args.size / 64 + 1) place
