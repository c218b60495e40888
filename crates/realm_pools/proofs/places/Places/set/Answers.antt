use Rattle.std.proofs.Common.{◌≡◌, ◌/◌, ◌<◌, ◌∙◌, ap, sym, subst, List, ℕ, not, ◌==◌, slice_index, length, arith}
use Rattle.std.proofs.lemmas.List.{get_or_read}
use Rattle.realm_pools.specs.Inside.Places.{any_bit, with_place, IsSet}
use Rattle.realm_pools.proofs.Bits.{any_is, leveled, written_back, same_levels}
use Rattle.realm_pools.proofs.places.Places.set.Goals as goal

pub invariant_of-self : goal.invariant_of-self
invariant_of-self c =
    let places = c.self.inside.places.items in
    let words = c.self.inside.words.items in
    let blocks = c.self.inside.blocks.items in
    let places' = c.set_bit.new.words in
    let words' = c.set_bit-2.new.words in
    let blocks' = c.set_bit-3.new.words in
    let word : ℕ = c.args.place / 64 in
    let block : ℕ = c.args.place / 64 / 64 in
    let before = c.self.invariant in
    let any = c.index.result.now in
    let any' = c.index-2.result.now in
    let P : List ℕ → Type 0 = λ all. IsSet all places' c.args.place c.args.there in
    let Q : List ℕ → Type 0 = λ all. IsSet all words' word (not (any == 0)) in
    let R : List ℕ → Type 0 = λ all. IsSet all blocks' block (not (any' == 0)) in
    let one = subst P c.deref_mut.ensures.value c.set_bit.ensures.set in
    let two = subst Q c.deref_mut-2.ensures.value c.set_bit-2.ensures.set in
    let three = subst R c.deref_mut-3.ensures.value c.set_bit-3.ensures.set in
    let back = written_back places places' c.self.inside.places.len (sym c.self.inside.places.ok.0) one.long in
    let back' = written_back words words' c.self.inside.words.len (sym c.self.inside.words.ok.0) two.long in
    let back'' = written_back blocks blocks' c.self.inside.blocks.len (sym c.self.inside.blocks.ok.0) three.long in
    let long : length places ≡ length c.args.self.now = ap length c.self.view_is in
    let within : word < length places' = omega (arith, one.long, c.requires, long) in
    let within' : block < length words' = omega (arith, two.long, c.requires, long, before.wide) in
    let I : List ℕ → Type 0 = λ all. word < length all in
    let J : List ℕ → Type 0 = λ all. block < length all in
    let read : any ≡ slice_index places' word = get_or_read _ word any (subst I (sym back) within) c.index.ensures 0
    ∙ ap (λ all. slice_index all word) back in
    let read' : any' ≡ slice_index words' block = get_or_read _ block any' (subst J (sym back') within') c.index-2.ensures 0
    ∙ ap (λ all. slice_index all block) back' in
    same_levels places' _ words' _ blocks' _ back back' back'' (record {
      word_bits = leveled places places' words words' word _ (not (any == 0)) before.word_bits
          (c.set_bit.ensures.value ∙ ap (λ all. with_place all c.args.place c.args.there) c.deref_mut.ensures.value) (any_is any ∙ ap any_bit read)
          two;
      block_bits = leveled words words' blocks blocks' block _ (not (any' == 0)) before.block_bits
          (c.set_bit-2.ensures.value ∙ ap (λ all. with_place all word (not (any == 0))) c.deref_mut-2.ensures.value) (any_is any' ∙ ap any_bit read')
          three;
      few = omega (arith, one.long, before.few);
      wide = omega (arith, one.long, two.long, before.wide);
      wider = omega (arith, two.long, before.wider);
      top = three.long ∙ before.top;
    })
