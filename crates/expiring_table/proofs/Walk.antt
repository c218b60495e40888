-- A walk through the places of a bucket.
use Rattle.std.proofs.Common.{◌≡◌, ℕ, ◌+◌, ◌<◌, ◌≤◌, true, false, List, length, slice_index, Option, Some, None, ap, sym, ◌∙◌, arith, true≢false, inl, inr}
use Rattle.std.proofs.Math.Nat.{eq-or-lt_of_le}
use Rattle.std.proofs.lemmas.Bool.{cases_lt, eq-eqb, eqb-true}
use Rattle.expiring_table.specs.declared.row.Row.{Row}
use Rattle.expiring_table.specs.Prelude.{Chained, IsLast, row_at, is_cell_of, AreHashed, IsPlaceOf, bucket_of}
use Rattle.expiring_table.proofs.Cells.{row_within}

-- how many places may be left
abbrev pub left : Option ℕ → ℕ
left None = 0
left (Some place) = place + 1

-- a place is not behind
abbrev pub IsAhead : ℕ → Option ℕ → Type 0
IsAhead place None = ⊥
IsAhead place (Some at) = place ≤ at

-- the walk stands at a place of the bucket
abbrev pub IsInBucket : ℕ → List ℕ → Option ℕ → Type 0
IsInBucket bucket buckets None = Unit {0}
IsInBucket bucket buckets (Some place) = (place < length buckets) × (slice_index buckets place ≡ bucket)

module _ {T : Type 0} where
  -- the row with the key can still be met
  pub record IsWalk (key : ℕ) (cells : List (Option (Row T))) (chained : Chained) (at : Option ℕ) : Type 0 where
    pub bucket : IsInBucket (bucket_of chained key) chained.buckets at
    pub ahead : (place : ℕ) (row : Row T) → row_at cells place ≡ Some row → row.key ≡ key → IsAhead place at

-- what stands before the places, and in the bucket, is still ahead
ahead_of : (bucket : ℕ) (buckets : List ℕ) (places : ℕ) (at : Option ℕ) (place : ℕ) → IsLast bucket buckets places at → place < places
    → slice_index buckets place ≡ bucket → IsAhead place at
ahead_of bucket buckets places None place last within is = last place within is
ahead_of bucket buckets places (Some at) place last within is = elim (cases_lt at place) [ inl h ↦ absurd (last.2 place h within is) | inr h ↦ h ]

in_bucket : (bucket : ℕ) (buckets : List ℕ) (places : ℕ) (at : Option ℕ) → IsLast bucket buckets places at → places ≤ length buckets
    → IsInBucket bucket buckets at
in_bucket bucket buckets places None last within = tt
in_bucket bucket buckets places (Some at) last within = (omega (arith, last.0), last.1)

pub fewer : (bucket : ℕ) (buckets : List ℕ) (places : ℕ) (at : Option ℕ) → IsLast bucket buckets places at → left at ≤ places
fewer bucket buckets places None last = omega arith
fewer bucket buckets places (Some at) last = omega (arith, last.0)

module _ {T : Type 0} where
  pub walk_start : (key : ℕ) (cells : List (Option (Row T))) (chained : Chained) (at : Option ℕ) → length chained.buckets ≡ length cells
      → AreHashed cells chained → IsLast (bucket_of chained key) chained.buckets (length chained.buckets) at → IsWalk key cells chained at
  walk_start key cells chained at links hashed last = record {
    bucket = in_bucket (bucket_of chained key) chained.buckets (length chained.buckets) at last (omega arith);
    ahead = λ place row at_place same.
        let within : place < length cells = row_within cells place row at_place in
        ahead_of (bucket_of chained key) chained.buckets (length chained.buckets) at place last (omega arith)
        (hashed place row at_place ∙ ap (bucket_of chained) same);
  }

  -- another cell than that of the key was met
  pub walk_on : (key : ℕ) (cells : List (Option (Row T))) (chained : Chained) (met : ℕ) (at : Option ℕ) → AreHashed cells chained
      → IsWalk key cells chained (Some met) → is_cell_of key (row_at cells met) ≡ false
      → IsLast (slice_index chained.buckets met) chained.buckets met at → IsWalk key cells chained at
  walk_on key cells chained met at hashed walk other last =
      let last' : IsLast (bucket_of chained key) chained.buckets met at = rw (walk.bucket.1) at last in record {
        bucket = in_bucket (bucket_of chained key) chained.buckets met at last' (omega (arith, walk.bucket.0));
        ahead = λ place row at_place same.
            let before : place ≤ met = walk.ahead place row at_place same in
            let not_met : place ≡ met
            → ⊥ = λ is. true≢false (sym (eq-eqb row.key key same) ∙ ap (is_cell_of key) (sym at_place ∙ ap (row_at cells) is) ∙ other) in
            ahead_of (bucket_of chained key) chained.buckets met at place last'
            (elim (eq-or-lt_of_le before) [ inl is ↦ absurd (not_met is) | inr h ↦ h ]) (hashed place row at_place ∙ ap (bucket_of chained) same);
      }

  -- the cell of the key was met
  pub walk_found : (key : ℕ) (cells : List (Option (Row T))) (met : ℕ) → met < length cells → (cell : Option (Row T)) → row_at cells met ≡ cell
      → is_cell_of key cell ≡ true → IsPlaceOf key cells (Some met)
  walk_found key cells met within None at is = absurd (true≢false (sym is))
  walk_found key cells met within (Some row) at is = (within, (row, at, eqb-true row.key key is))

  pub met_within : (key : ℕ) (cells : List (Option (Row T))) (chained : Chained) (met : ℕ) → length chained.buckets ≡ length cells
      → IsWalk key cells chained (Some met) → met < length cells
  met_within key cells chained met links walk = omega (arith, walk.bucket.0)
