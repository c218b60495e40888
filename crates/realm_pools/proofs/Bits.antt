-- Bits of words.
use Rattle.std.proofs.Common.{◌≡◌, ◌≢◌, ℕ, ◌+◌, ◌-◌, ◌*◌, ◌/◌, ◌%◌, ◌^◌, ◌<◌, ◌≤◌, ◌==◌, Bool, true, false, not, List, ◌++◌, length, take, drop, replicate, zero, suc, set, slice_index, Some, None, refl, ap, sym, ◌∙◌, subst, arith, inl, inr}
use Rattle.std.specs.Int.{w64, bit_at, trailing_zeros}
use Rattle.std.proofs.lemmas.Bool.{cases_Bool, cases_lt, eqb-true}
use Rattle.std.proofs.lemmas.Bool.Decides.{eqb_tells}
use Rattle.std.proofs.lemmas.List.{get_or-set_same, get_or-set_other, length-set, get_or_past, take_at}
use Rattle.std.proofs.lemmas.Nat.{shr-shr, shr_le}
use Rattle.std.proofs.lemmas.Nat.Bits.{bit_at-zero, bit_at_above, bit_at-trailing_zeros, bit_at_set_same, bit_at_set_other, bit_at_clear_same, bit_at_clear_other}
use Rattle.realm_pools.specs.Inside.Places.{one_if, bit_of, any_bit, any_in, with_bit, with_place, IsFirst, IsFirstBefore, IsSet, AreLevels}

-- ## One word

shifted : (word by bit : ℕ) → bit_at word (by + bit) ≡ bit_at (word / 2 ^ by) bit
shifted word by bit = ap (λ x. x % 2) (sym (shr-shr word by bit))

no_bit : (word by bit : ℕ) → word / 2 ^ by ≡ 0 → by ≤ bit → bit_at word bit ≡ 0
no_bit word by bit none above =
    let k : ℕ = bit - by in
    let same : bit ≡ by + k = omega arith in
    ap (bit_at word) same ∙ shifted word by k ∙ ap (λ x. bit_at x k) none ∙ bit_at-zero k

zero_any : (word : ℕ) → any_bit word ≡ 0 → word ≡ 0
zero_any word none = elim (cases_Bool (word == 0)) [
  | inl e ↦ eqb-true word 0 e
  | inr e ↦ let one : any_bit word ≡ 1 = rw e refl in absurd
      (omega (arith, one, none))
]

pub one_any : (word : ℕ) → any_bit word ≡ 1 → 0 < word
one_any word some = elim (cases_Bool (word == 0)) [
  | inl e ↦ let none : any_bit word ≡ 0 = rw e refl in absurd (omega (arith, none, some))
  | inr e ↦
      elim (eqb_tells word 0) [ inl h ↦ let bad : ⊥ = cc in absurd bad | inr h ↦ let n = h.1 in omega (arith, n) ]
]

pub any_is : (word : ℕ) → one_if (not (word == 0)) ≡ any_bit word
any_is word = elim (cases_Bool (word == 0)) [ inl e ↦ rw e refl | inr e ↦ rw e refl ]

-- ## The first bit

-- the bit of a place, by its word and its place in it
bit_at_place : (words : List ℕ) (place word bit : ℕ) → place ≡ 64 * word + bit → bit < 64 → bit_of words place ≡ bit_at (slice_index words word) bit
bit_at_place words place word bit is small =
    let high : place / 64 ≡ word = omega arith in
    let low : place % 64 ≡ bit = omega arith in
    ap (λ n. bit_at (slice_index words n) (place % 64)) high ∙ ap (bit_at (slice_index words word)) low

bit_of_none : (words : List ℕ) (place : ℕ) → slice_index words (place / 64) ≡ 0 → bit_of words place ≡ 0
bit_of_none words place none = ap (λ word. bit_at word (place % 64)) none ∙ bit_at-zero (place % 64)

pub none_in_word : (words : List ℕ) (from : ℕ) → slice_index words (from / 64) / 2 ^ (from % 64) ≡ 0
    → IsFirstBefore (bit_of words) from (64 * (from / 64 + 1)) None
none_in_word words from none = λ place after before.
    let is : place ≡ 64 * (from / 64) + place % 64 = omega arith in
    bit_at_place words place (from / 64) (place % 64) is (omega arith) ∙ no_bit (slice_index words (from / 64)) (from % 64) (place % 64) none
    (omega arith)

pub first_in_word : (words : List ℕ) (from rest : ℕ) → slice_index words (from / 64) < 2 ^ 64 → rest ≡ slice_index words (from / 64) / 2 ^ (from % 64)
    → 0 < rest → IsFirst (bit_of words) from (Some (from + trailing_zeros w64 rest))
first_in_word words from rest small is some =
    let word = slice_index words (from / 64) in
    let by : ℕ = from % 64 in
    let fits : rest < 2 ^ 64 = omega (arith, small, is, shr_le word by) in
    let lowest = bit_at-trailing_zeros w64 rest some fits in
    let one : bit_at word (by + trailing_zeros w64 rest) ≡ 1 = shifted word by (trailing_zeros w64 rest)
    ∙ ap (λ x. bit_at x (trailing_zeros w64 rest)) (sym is) ∙ lowest.1 in
    let within : by + trailing_zeros w64 rest < 64 =
    elim (cases_lt (by + trailing_zeros w64 rest) 64) [
      | inl h ↦ h
      | inr h ↦ absurd
          (omega (arith, one, bit_at_above word 64 (by + trailing_zeros w64 rest) small h))
    ] in
    let at : from + trailing_zeros w64 rest ≡ 64 * (from / 64) + (by + trailing_zeros w64 rest) = omega arith in (
      omega arith,
      bit_at_place words (from + trailing_zeros w64 rest) (from / 64) (by + trailing_zeros w64 rest) at within ∙ one,
      λ place after before.
          let k : ℕ = place - from in
          let here : place ≡ 64 * (from / 64) + (by + k) = omega arith in
          bit_at_place words place (from / 64) (by + k) here (omega arith) ∙ shifted word by k ∙ ap (λ x. bit_at x k) (sym is)
          ∙ lowest.2 k (omega arith),
    )

-- a word behind that is 0 has no bit
none_behind : (words : List ℕ) (from place : ℕ) → IsFirstBefore (bit_of words) from (64 * (from / 64 + 1)) None → from ≤ place
    → (from / 64 + 1 ≤ place / 64 → any_in words (place / 64) ≡ 0) → bit_of words place ≡ 0
none_behind words from place own after none = elim (cases_lt place (64 * (from / 64 + 1))) [
  | inl h ↦ own place after h
  | inr h ↦ bit_of_none words place (zero_any (slice_index words (place / 64)) (none (omega arith)))
]

-- the word that isn't 0 stands among the words
pub word_within : (words : List ℕ) (word : ℕ) → any_in words word ≡ 1 → word < length words
word_within words word some = elim (cases_lt word (length words)) [
  | inl h ↦ h
  | inr h ↦ absurd (omega (arith, get_or_past words word 0 h, one_any (slice_index words word) some))
]

pub next_word : (words : List ℕ) (from word : ℕ) → slice_index words word < 2 ^ 64 → IsFirstBefore (bit_of words) from (64 * (from / 64 + 1)) None
    → IsFirst (any_in words) (from / 64 + 1) (Some word) → IsFirst (bit_of words) from
    (Some (64 * word + trailing_zeros w64 (slice_index words word)))
next_word words from word small own first =
    let t : ℕ = trailing_zeros w64 (slice_index words word) in
    let lowest = bit_at-trailing_zeros w64 (slice_index words word) (one_any (slice_index words word) (first.1)) small in (
      omega (arith, first.0),
      bit_at_place words (64 * word + t) word t refl (lowest.0) ∙ lowest.1,
      λ place after before. elim (cases_lt (place / 64) word) [
        | inl h ↦ none_behind words from place own after (λ behind. first.2 (place / 64) behind h)
        | inr h ↦
            let is : place ≡ 64 * word + place % 64 = omega (arith, lowest.0) in
            bit_at_place words place word (place % 64) is (omega arith) ∙ lowest.2 (place % 64) (omega (arith, lowest.0))
      ],
    )

zeros : (n i : ℕ) → slice_index (replicate n 0) i ≡ 0
zeros zero i = refl
zeros (suc n) zero = refl
zeros (suc n) (suc i) = zeros n i

pub no_bits : (n place : ℕ) → bit_of (replicate n 0) place ≡ 0
no_bits n place = bit_of_none (replicate n 0) place (zeros n (place / 64))

pub none_any : (n word : ℕ) → any_in (replicate n 0) word ≡ 0
none_any n word = ap any_bit (zeros n word)

-- ## A bit that changes

bit_here : (word bit : ℕ) (one : Bool) → bit < 64 → bit_at (with_bit word bit one) bit ≡ one_if one
bit_here word bit true within = bit_at_set_same w64 word bit within
bit_here word bit false within = bit_at_clear_same w64 word bit within

bit_other : (word bit other : ℕ) (one : Bool) → bit < 64 → other < 64 → other ≢ bit → bit_at (with_bit word bit one) other ≡ bit_at word other
bit_other word bit other true within small apart = bit_at_set_other w64 word bit within other apart
bit_other word bit other false within small apart = bit_at_clear_other w64 word bit within other small apart

pub placed : (words : List ℕ) (place : ℕ) (one : Bool) → place / 64 < length words → IsSet words (with_place words place one) place one
placed words place one within =
    let word : ℕ = place / 64 in
    let bit : ℕ = place % 64 in
    let next : ℕ = with_bit (slice_index words word) bit one in
    record {
      here = ap (λ x. bit_at x bit) (get_or-set_same words word next 0 within) ∙ bit_here (slice_index words word) bit one (omega arith);
      others = λ other apart. elim (eqb_tells (other / 64) word) [
        | inl h ↦
            let same : other / 64 ≡ word = h.1 in
            ap (λ n. bit_at (slice_index (set words word next) n) (other % 64)) same
            ∙ ap (λ x. bit_at x (other % 64)) (get_or-set_same words word next 0 within)
            ∙ bit_other (slice_index words word) bit (other % 64) one (omega arith) (omega arith) (λ e. apart (omega (arith, same, e)))
            ∙ ap (λ n. bit_at (slice_index words n) (other % 64)) (sym same)
        | inr h ↦ ap (λ x. bit_at x (other % 64)) (get_or-set_other words word (other / 64) next 0 (h.1))
      ];
      long = length-set words word next;
    }

-- the upper level says again of each word whether it is 0
pub leveled : (lower lower' upper upper' : List ℕ) (word next : ℕ) (one : Bool) → ((w : ℕ) → bit_of upper w ≡ any_in lower w)
    → lower' ≡ set lower word next → one_if one ≡ any_in lower' word → IsSet upper upper' word one → (w : ℕ) → bit_of upper' w ≡ any_in lower' w
leveled lower lower' upper upper' word next one levels lower_is one_is is_set w = elim (eqb_tells w word) [
  | inl h ↦ ap (bit_of upper') (h.1) ∙ is_set.here ∙ one_is ∙ ap (any_in lower') (sym (h.1))
  | inr h ↦
      is_set.others w (h.1) ∙ levels w
      ∙ ap (λ x. any_bit x) (sym (get_or-set_other lower word w next 0 (h.1)) ∙ ap (λ all. slice_index all w) (sym lower_is))
]

-- a list that is written back whole
pub written_back : (old new : List ℕ) (len : ℕ) → length old ≡ len → length new ≡ length old → take len (new ++ drop (length new) old) ≡ new
written_back old new len long same = take_at new (drop (length new) old) len (same ∙ long)

pub same_levels : (places places' words words' blocks blocks' : List ℕ) → places' ≡ places → words' ≡ words → blocks' ≡ blocks
    → AreLevels places words blocks → AreLevels places' words' blocks'
same_levels places places' words words' blocks blocks' one two three levels =
    let P : List ℕ → Type 0 = λ all. AreLevels all words blocks in
    let Q : List ℕ → Type 0 = λ all. AreLevels places' all blocks in
    let R : List ℕ → Type 0 = λ all. AreLevels places' words' all in
    subst R (sym three) (subst Q (sym two) (subst P (sym one) levels))
