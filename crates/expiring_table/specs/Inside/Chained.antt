-- Places in buckets.
use Rattle.std.specs.Prelude.{◌≡◌, ◌≢◌, ℕ, ◌<◌, List, [], ◌∷◌, ◌++◌, slice_index, slice_set, length, Option, Some, None}
use Rattle.expiring_table.specs.declared.seed.Seed.{Seed}

-- what keys are spread by, how many buckets there are, how many places there may be, and the bucket of each place
pub record Chained : Type 0 where
  pub seed : Seed
  pub width : ℕ
  pub room : ℕ
  pub buckets : List ℕ

abbrev pub no_places : Seed → ℕ → ℕ → Chained
no_places seed width room = record { seed = seed; width = width; room = room; buckets = [] }

-- no places, and another seed
abbrev pub emptied : Seed → Chained → Chained
emptied seed chained = record chained { seed = seed; buckets = [] }

-- one more place, in a bucket
abbrev pub with_place : ℕ → Chained → Chained
with_place bucket chained = record chained { buckets = chained.buckets ++ bucket ∷ [] }

-- the last of the first places that is in the bucket, and None where none of them is
abbrev pub IsLast : ℕ → List ℕ → ℕ → Option ℕ → Type 0
IsLast bucket buckets places None = (other : ℕ) → other < places → slice_index buckets other ≢ bucket
IsLast bucket buckets places (Some place) = (place < places) × (slice_index buckets place ≡ bucket)
    × ((other : ℕ) → place < other → other < places → slice_index buckets other ≢ bucket)

-- a place is in no bucket any more
abbrev pub without_place : ℕ → Chained → Chained
without_place place chained = record chained { buckets = slice_set chained.buckets place chained.width }

-- the first place behind another that is in the bucket, and None where none is
abbrev pub IsNext : ℕ → List ℕ → ℕ → Option ℕ → Type 0
IsNext bucket buckets place None = (other : ℕ) → place < other → other < length buckets → slice_index buckets other ≢ bucket
IsNext bucket buckets place (Some next) = (place < next) × (next < length buckets) × (slice_index buckets next ≡ bucket)
    × ((other : ℕ) → place < other → other < next → slice_index buckets other ≢ bucket)
