-- Kept inside: places as bits of words, numbered from the first word's lowest on.
use Rattle.std.specs.Prelude.{◌≡◌, ◌≢◌, ℕ, ◌*◌, ◌/◌, ◌%◌, ◌^◌, ◌<◌, ◌≤◌, ◌==◌, Bool, cond, List, length, slice_index, slice_set, Option, Some, None, bit_and, bit_or}
use Rattle.std.specs.Int.{w64, bit_at, bit_not}

-- a bit is 1 where something holds
abbrev pub one_if : Bool → ℕ
one_if holds = cond holds 1 0

-- the bit of a place
abbrev pub bit_of : List ℕ → ℕ → ℕ
bit_of words place = bit_at (slice_index words (place / 64)) (place % 64)

-- 1 where a word is not 0
abbrev pub any_bit : ℕ → ℕ
any_bit word = cond (word == 0) 0 1

abbrev pub any_in : List ℕ → ℕ → ℕ
any_in words word = any_bit (slice_index words word)

-- the first place from one on whose bit is 1
abbrev pub IsFirst : (ℕ → ℕ) → ℕ → Option ℕ → Type 0
IsFirst bits from None = (place : ℕ) → from ≤ place → bits place ≡ 0
IsFirst bits from (Some first) = (from ≤ first) × (bits first ≡ 1) × ((place : ℕ) → from ≤ place → place < first → bits place ≡ 0)

-- the same, of the places before a bound
abbrev pub IsFirstBefore : (ℕ → ℕ) → ℕ → ℕ → Option ℕ → Type 0
IsFirstBefore bits from to None = (place : ℕ) → from ≤ place → place < to → bits place ≡ 0
IsFirstBefore bits from to (Some first) = IsFirst bits from (Some first)

-- a word, one bit of which becomes 1 or 0
abbrev pub with_bit : ℕ → ℕ → Bool → ℕ
with_bit word bit one = cond one (bit_or word (1 * 2 ^ bit % 2 ^ 64)) (bit_and word (bit_not w64 (1 * 2 ^ bit % 2 ^ 64)))

-- words, the bit of one place of which becomes 1 or 0
abbrev pub with_place : List ℕ → ℕ → Bool → List ℕ
with_place words place one = slice_set words (place / 64) (with_bit (slice_index words (place / 64)) (place % 64) one)

-- only the bit of one place has changed
pub record IsSet (old new : List ℕ) (place : ℕ) (one : Bool) : Type 0 where
  pub here : bit_of new place ≡ one_if one
  pub others : (other : ℕ) → other ≢ place → bit_of new other ≡ bit_of old other
  pub long : length new ≡ length old

-- a bit of the words says whether a word of the places is not 0, and one of the blocks, of which there is one word, the same of the words
pub record AreLevels (places words blocks : List ℕ) : Type 0 where
  pub word_bits : (word : ℕ) → bit_of words word ≡ any_in places word
  pub block_bits : (block : ℕ) → bit_of blocks block ≡ any_in words block
  pub few : length places ≤ 1025
  pub wide : length places ≤ 64 * length words
  pub wider : length words ≤ 64
  pub top : length blocks ≡ 1
