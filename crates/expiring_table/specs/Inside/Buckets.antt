-- What only proofs and private contracts need beside `Buckets`.
use Rattle.std.specs.Prelude.{ℕ, ◌+◌, ◌*◌, ◌/◌, ◌%◌, ◌^◌}
use Rattle.expiring_table.specs.declared.seed.Seed.{Seed}
use Rattle.expiring_table.specs.Buckets.{wrapped}

-- a sum of the key's four words of 32 bits, each times a part of the seed, of which the upper half is taken
abbrev pub hash_of : Seed → ℕ → ℕ
hash_of seed key =
    wrapped (wrapped (wrapped (wrapped (seed.base + wrapped (seed.first * (key % 2 ^ 32))) + wrapped (seed.second * (key / 2 ^ 32 % 2 ^ 32)))
    + wrapped (seed.third * (key / 2 ^ 64 % 2 ^ 32))) + wrapped (seed.fourth * (key / 2 ^ 96))) / 2 ^ 32

-- the bucket of a key, of so many: the hash, which is below 2^32, drawn down to their number
abbrev pub bucket_in : Seed → ℕ → ℕ → ℕ
bucket_in seed width key = hash_of seed key * width / 2 ^ 32
