-- Rows that change, and rows that go.
use Rattle.std.proofs.Common.{◌≡◌, ◌≢◌, ◌⊎◌, inl, inr, ℕ, zero, suc, ◌+◌, ◌<◌, ◌≤◌, true, false, nat_le, ◌==◌, ◌&&◌, is_some, List, [], ◌∷◌, length, set, slice_index, Option, Some, None, refl, ap, sym, ◌∙◌, subst, arith, Contains, eq-eqb, ne_eqb, leb-true, length-set, ◌*◌, ◌/◌, ◌^◌}
use Rattle.std.specs.declared.cmp.Reverse.{Reverse}
use Rattle.std.proofs.lemmas.Option.{none-some, same_Some}
use Rattle.expiring_table.specs.declared.row.Row.{Row}
use Rattle.expiring_table.specs.Prelude.{alarm, Chained, without_place, without, with_row, rows_in, row_at, is_watched, bucket_of, AreHashed, AreOnce, AreWatched, IsPlaceOf, IsIndexed}
use Rattle.std.proofs.Math.Nat.{mul-lt-mul_of_pos_left}
use Rattle.std.proofs.lemmas.Nat.{div_below}
use Rattle.expiring_table.specs.Inside.Buckets.{hash_of}
use Rattle.expiring_table.proofs.Links.{stays}
use Rattle.expiring_table.proofs.Cells.{once_tail}

-- a hash drawn down to a number of buckets
pub bucket_small : (hash width : ℕ) → hash < 2 ^ 32 → 0 < width → hash * width / 2 ^ 32 < width
bucket_small hash width small some =
    let less : width * hash < width * 2 ^ 32 = mul-lt-mul_of_pos_left small some in
    div_below (hash * width) (2 ^ 32) width (omega arith) (omega (arith, less))

module _ {T : Type 0} where
  pub set_cases : (cells : List (Option (Row T))) (place : ℕ) (cell : Option (Row T)) (other : ℕ) (row : Row T) → place < length cells
      → row_at (set cells place cell) other ≡ Some row → ((other ≡ place) × (cell ≡ Some row)) ⊎ ((other ≢ place) × (row_at cells other ≡ Some row))
  set_cases [] place cell other row within at = absurd (omega arith)
  set_cases (first ∷ cells) zero cell zero row within at = inl (refl, at)
  set_cases (first ∷ cells) zero cell (suc other) row within at = inr ((λ is. omega arith), at)
  set_cases (first ∷ cells) (suc place) cell zero row within at = inr ((λ is. omega arith), at)
  set_cases (first ∷ cells) (suc place) cell (suc other) row within at =
      elim (set_cases cells place cell other row (omega arith) at) [ inl h ↦ inl (ap suc (h.0), h.1) | inr h ↦ inr ((λ is. h.0 (omega arith)), h.1) ]

  -- the rows behind the first have another key
  pub rest_other : (first : Row T) (cells : List (Option (Row T))) → AreOnce (Some first ∷ cells) → IsPlaceOf first.key cells None
  rest_other first cells once place row at same =
      let clash : 0 ≡ suc place = once 0 (suc place) first row refl at (sym same) in absurd (omega arith)

  with_row_other : (new : Row T) (cells : List (Option (Row T))) → IsPlaceOf new.key cells None → with_row new (rows_in cells) ≡ rows_in cells
  with_row_other new [] none = refl
  with_row_other new (None ∷ cells) none = with_row_other new cells (λ place row at. none (suc place) row at)
  with_row_other new (Some row ∷ cells) none =
      let e : (row.key == new.key) ≡ false = ne_eqb row.key new.key (none 0 row refl) in
      rw e (ap (λ rows. row ∷ rows) (with_row_other new cells (λ place other at. none (suc place) other at)))

  pub without_other : (key : ℕ) (cells : List (Option (Row T))) → IsPlaceOf key cells None → without key (rows_in cells) ≡ rows_in cells
  without_other key [] none = refl
  without_other key (None ∷ cells) none = without_other key cells (λ place row at. none (suc place) row at)
  without_other key (Some row ∷ cells) none =
      let e : (row.key == key) ≡ false = ne_eqb row.key key (none 0 row refl) in
      rw e (ap (λ rows. row ∷ rows) (without_other key cells (λ place other at. none (suc place) other at)))

  other_key : (one other : Row T) → one.key ≡ other.key → (cells : List (Option (Row T))) → IsPlaceOf one.key cells None
      → IsPlaceOf other.key cells None
  other_key one other same cells none place row at is = none place row at (is ∙ sym same)

  key_at : (cells : List (Option (Row T))) (first : Row T) (place : ℕ) (was : Row T) → AreOnce (Some first ∷ cells) → row_at cells place ≡ Some was
      → (first.key == was.key) ≡ false
  key_at cells first place was once at = ne_eqb first.key was.key
      (λ same. let clash : 0 ≡ suc place = once 0 (suc place) first was refl at same in omega arith)

  -- the row at a place becomes another with its key
  pub rows_set : (cells : List (Option (Row T))) (place : ℕ) (was new : Row T) → AreOnce cells → row_at cells place ≡ Some was → was.key ≡ new.key
      → rows_in (set cells place (Some new)) ≡ with_row new (rows_in cells)
  rows_set [] place was new once at same = absurd (none-some was at)
  rows_set (None ∷ cells) zero was new once at same = absurd (none-some was at)
  rows_set (None ∷ cells) (suc place) was new once at same = rows_set cells place was new (once_tail None cells once) at same
  rows_set (Some first ∷ cells) zero was new once at same =
      let is : first.key ≡ new.key = ap (λ (row : Row T). row.key) (same_Some first was at) ∙ same in
      let e : (first.key == new.key) ≡ true = eq-eqb first.key new.key is in
      rw e (ap (λ rows. new ∷ rows) (sym (with_row_other new cells (other_key first new is cells (rest_other first cells once)))))
  rows_set (Some first ∷ cells) (suc place) was new once at same =
      let e : (first.key == new.key) ≡ false = ap (λ key. first.key == key) (sym same) ∙ key_at cells first place was once at in
      rw e (ap (λ rows. first ∷ rows) (rows_set cells place was new (once_tail (Some first) cells once) at same))

  -- the row at a place goes
  pub rows_clear : (cells : List (Option (Row T))) (place : ℕ) (was : Row T) → AreOnce cells → row_at cells place ≡ Some was
      → rows_in (set cells place None) ≡ without was.key (rows_in cells)
  rows_clear [] place was once at = absurd (none-some was at)
  rows_clear (None ∷ cells) zero was once at = absurd (none-some was at)
  rows_clear (None ∷ cells) (suc place) was once at = rows_clear cells place was (once_tail None cells once) at
  rows_clear (Some first ∷ cells) zero was once at =
      let is : first.key ≡ was.key = ap (λ (row : Row T). row.key) (same_Some first was at) in
      let e : (first.key == was.key) ≡ true = eq-eqb first.key was.key is in
      rw e (sym (without_other was.key cells (other_key first was is cells (rest_other first cells once))))
  rows_clear (Some first ∷ cells) (suc place) was once at =
      let e : (first.key == was.key) ≡ false = key_at cells first place was once at in
      rw e (ap (λ rows. first ∷ rows) (rows_clear cells place was (once_tail (Some first) cells once) at))

  pub count_clear : (cells : List (Option (Row T))) (place : ℕ) (was : Row T) → row_at cells place ≡ Some was
      → length (rows_in (set cells place None)) + 1 ≡ length (rows_in cells)
  count_clear [] place was at = absurd (none-some was at)
  count_clear (None ∷ cells) zero was at = absurd (none-some was at)
  count_clear (None ∷ cells) (suc place) was at = count_clear cells place was at
  count_clear (Some first ∷ cells) zero was at = omega arith
  count_clear (Some first ∷ cells) (suc place) was at = omega (arith, count_clear cells place was at)

  pub count_set : (cells : List (Option (Row T))) (place : ℕ) (was new : Row T) → row_at cells place ≡ Some was
      → length (rows_in (set cells place (Some new))) ≡ length (rows_in cells)
  count_set [] place was new at = absurd (none-some was at)
  count_set (None ∷ cells) zero was new at = absurd (none-some was at)
  count_set (None ∷ cells) (suc place) was new at = count_set cells place was new at
  count_set (Some first ∷ cells) zero was new at = refl
  count_set (Some first ∷ cells) (suc place) was new at = ap suc (count_set cells place was new at)

  pub once_clear : (cells : List (Option (Row T))) (place : ℕ) → place < length cells → AreOnce cells → AreOnce (set cells place None)
  once_clear cells place within once one other row next at_one at_other same =
      elim (set_cases cells place None one row within at_one) [
        | inl a ↦ absurd (none-some row (a.1))
        | inr a ↦ elim (set_cases cells place None other next within at_other) [
          | inl b ↦ absurd (none-some next (b.1))
          | inr b ↦ once one other row next (a.1) (b.1) same
        ]
      ]

  pub once_set : (cells : List (Option (Row T))) (place : ℕ) (was new : Row T) → place < length cells → AreOnce cells → row_at cells place ≡ Some was
      → was.key ≡ new.key → AreOnce (set cells place (Some new))
  once_set cells place was new within once at is one other row next at_one at_other same =
      elim (set_cases cells place (Some new) one row within at_one) [
        | inl a ↦ elim (set_cases cells place (Some new) other next within at_other) [
          | inl b ↦ a.0 ∙ sym (b.0)
          | inr b ↦ a.0 ∙ once place other was next at (b.1) (is ∙ ap (λ (found : Row T). found.key) (same_Some new row (a.1)) ∙ same)
        ]
        | inr a ↦ elim (set_cases cells place (Some new) other next within at_other) [
          | inl b ↦ once one place row was (a.1) at (same ∙ ap (λ (found : Row T). found.key) (sym (same_Some new next (b.1))) ∙ sym is) ∙ sym (b.0)
          | inr b ↦ once one other row next (a.1) (b.1) same
        ]
      ]

  pub indexed_clear : (cells : List (Option (Row T))) (moments : List ℕ) (chained : Chained) (alarms : List (Reverse (ℕ × ℕ))) (place : ℕ)
      → place < length cells → IsIndexed cells moments chained alarms → IsIndexed (set cells place None) moments (without_place place chained) alarms
  indexed_clear cells moments chained alarms place within indexed = record {
    watches = indexed.watches ∙ sym (length-set cells place None);
    links = length-set chained.buckets place chained.width ∙ indexed.links ∙ sym (length-set cells place None);
    hashed = λ other row at.
        elim (set_cases cells place None other row within at) [
          | inl h ↦ absurd (none-some row (h.1))
          | inr h ↦ stays chained.buckets place
              chained.width other (h.0) ∙ indexed.hashed other row (h.1)
        ];
    watched = λ other row end at ends.
        elim (set_cases cells place None other row within at) [
          | inl h ↦ absurd (none-some row (h.1))
          | inr h ↦ indexed.watched other row end
              (h.1) ends
        ];
  }

  -- the place of a row is in a bucket
  pub row_there : (cells : List (Option (Row T))) (chained : Chained) (place : ℕ) (row : Row T) → 0 < chained.width → AreHashed cells chained
      → row_at cells place ≡ Some row → slice_index chained.buckets place < chained.width
  row_there cells chained place row some hashed at =
      let small : bucket_of chained row.key < chained.width = bucket_small (hash_of chained.seed row.key) chained.width (omega arith) some in
      let P : ℕ → Type 0 = λ bucket. bucket < chained.width in subst P (sym (hashed place row at)) small

  pub indexed_set : (cells : List (Option (Row T))) (moments moments' : List ℕ) (chained : Chained) (alarms alarms' : List (Reverse (ℕ × ℕ)))
      (place : ℕ) (was new : Row T) → place < length cells → row_at cells place ≡ Some was → was.key ≡ new.key
      → IsIndexed cells moments chained alarms → length moments' ≡ length moments
      → ((other : ℕ) → other ≢ place → slice_index moments' other ≡ slice_index moments other)
      → ((one : Reverse (ℕ × ℕ)) → Contains alarms one → Contains alarms' one)
      → ((end : ℕ) → new.end ≡ Some end → (slice_index moments' place ≤ end) × Contains alarms' (alarm (slice_index moments' place) place))
      → IsIndexed (set cells place (Some new)) moments' chained alarms'
  indexed_set cells moments moments' chained alarms alarms' place was new within at is indexed long same more own = record {
    watches = long ∙ indexed.watches ∙ sym (length-set cells place (Some new));
    links = indexed.links ∙ sym (length-set cells place (Some new));
    hashed = λ other row at_other. elim (set_cases cells place (Some new) other row within at_other) [
      | inl h ↦
          ap (slice_index chained.buckets) (h.0) ∙ indexed.hashed place was at
          ∙ ap (λ key. Rattle.expiring_table.specs.Inside.Kept.bucket_of chained key)
          (is ∙ ap (λ (found : Row T). found.key) (same_Some new row (h.1)))
      | inr h ↦ indexed.hashed other row (h.1)
    ];
    watched = λ other row end at_other ends. elim (set_cases cells place (Some new) other row within at_other) [
      | inl h ↦
          let P : ℕ → Type 0 = λ there. (slice_index moments' there ≤ end) × Contains alarms' (alarm (slice_index moments' there) there) in
          subst P (sym (h.0)) (own end (ap (λ (found : Row T). found.end) (same_Some new row (h.1)) ∙ ends))
      | inr h ↦
          let before = indexed.watched other row end (h.1) ends in
          let P : ℕ → Type 0 = λ ring. (ring ≤ end) × Contains alarms' (alarm ring other) in
          subst P (sym (same other (h.0))) (before.0, more (alarm (slice_index moments other) other) (before.1))
    ];
  }

  watched_end : (cells : List (Option (Row T))) (moments : List ℕ) (alarms : List (Reverse (ℕ × ℕ))) (place : ℕ) (row : Row T) (was : Option ℕ)
      (end : ℕ) → AreWatched cells moments alarms → row_at cells place ≡ Some row → row.end ≡ was
      → (is_some was && nat_le (slice_index moments place) end) ≡ true → (slice_index moments place ≤ end)
      × Contains alarms (alarm (slice_index moments place) place)
  watched_end cells moments alarms place row None end watched at ends is = let bad : ⊥ = cc in absurd bad
  watched_end cells moments alarms place row (Some was) end watched at ends is =
      (leb-true (slice_index moments place) end is, (watched place row was at ends).1)

  -- a row whose place is looked at before its new end is looked at soon enough
  pub watched_then : (cells : List (Option (Row T))) (moments : List ℕ) (alarms : List (Reverse (ℕ × ℕ))) (place : ℕ) (cell : Option (Row T))
      (end : ℕ) → AreWatched cells moments alarms → row_at cells place ≡ cell → is_watched (slice_index moments place) end cell ≡ true
      → (slice_index moments place ≤ end) × Contains alarms (alarm (slice_index moments place) place)
  watched_then cells moments alarms place None end watched at is = let bad : ⊥ = cc in absurd bad
  watched_then cells moments alarms place (Some row) end watched at is = watched_end cells moments alarms place row row.end end watched at refl is
