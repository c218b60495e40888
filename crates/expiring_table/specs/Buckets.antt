-- Which bucket a key is in.
use Rattle.std.specs.Prelude.{ℕ, ◌+◌, ◌*◌, ◌/◌, ◌%◌, ◌^◌, bit_xor}
use Rattle.expiring_table.specs.declared.seed.Seed.{Seed}

abbrev pub wrapped : ℕ → ℕ
wrapped n = n % 2 ^ 64

-- ## The seed that is drawn from a number

-- the high bits folded down by so many places, times a factor
abbrev pub folded : ℕ → ℕ → ℕ → ℕ
folded z places factor = wrapped (bit_xor z (z / 2 ^ places) * factor)

-- what splitmix64 (Steele, Lea and Flood) draws at a turn, begun with a number
abbrev pub drawn : ℕ → ℕ → ℕ
drawn number turn =
    let z = folded (folded (wrapped (number + wrapped (turn * 0x9e3779b97f4a7c15))) 30 0xbf58476d1ce4e5b9) 27 0x94d049bb133111eb in
    bit_xor z (z / 2 ^ 31)

abbrev pub seed_of : ℕ → Seed
seed_of number = record { base = drawn number 1; first = drawn number 2; second = drawn number 3; third = drawn number 4; fourth = drawn number 5 }
