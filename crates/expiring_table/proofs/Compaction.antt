-- The cells that are not empty.
use Rattle.std.proofs.Common.{◌≡◌, ℕ, zero, suc, ◌<◌, ◌≤◌, true, false, List, [], ◌∷◌, length, vec_capacity, Option, Some, None, is_some, IsSome, refl, ap, sym, ◌∙◌, subst, arith, filter}
use Rattle.std.proofs.lemmas.Option.{none-some, same_Some}
use Rattle.expiring_table.specs.declared.row.Row.{Row}
use Rattle.expiring_table.specs.declared.seed.Seed.{Seed}
use Rattle.expiring_table.specs.declared.store.Store.{Store}
use Rattle.expiring_table.specs.Inside.Armed.{silenced}
use Rattle.expiring_table.specs.Inside.Chained.{emptied}
use Rattle.expiring_table.specs.Prelude.{rows_in, row_at, AreOnce, IsPlaceOf, IsWhole, IsListed}
use Rattle.expiring_table.proofs.Cells.{once_tail}

module _ {T : Type 0} where
  pub rows_full : (cells : List (Option (Row T))) → rows_in (filter is_some cells) ≡ rows_in cells
  rows_full [] = refl
  rows_full (None ∷ cells) = rows_full cells
  rows_full (Some row ∷ cells) = ap (λ rows. row ∷ rows) (rows_full cells)

  pub full : (cells : List (Option (Row T))) (place : ℕ) → place < length (filter is_some cells) → IsSome (row_at (filter is_some cells) place)
  full [] place within = absurd (omega arith)
  full (None ∷ cells) place within = full cells place within
  full (Some row ∷ cells) zero within = refl
  full (Some row ∷ cells) (suc place) within = full cells place (omega arith)

  pub length_full : (cells : List (Option (Row T))) → ((place : ℕ) → place < length cells → IsSome (row_at cells place))
      → length (rows_in cells) ≡ length cells
  length_full [] all = refl
  length_full (None ∷ cells) all = let h : false ≡ true = all 0 (omega arith) in cc
  length_full (Some row ∷ cells) all = ap suc (length_full cells (λ place within. all (suc place) (omega arith)))

  -- a cell that is not empty was there before
  filter_at : (cells : List (Option (Row T))) (place : ℕ) (row : Row T) → row_at (filter is_some cells) place ≡ Some row → (before : ℕ)
      × (row_at cells before ≡ Some row)
  filter_at [] place row at = (place, at)
  filter_at (None ∷ cells) place row at = let h = filter_at cells place row at in (suc (h.0), h.1)
  filter_at (Some first ∷ cells) zero row at = (0, at)
  filter_at (Some first ∷ cells) (suc place) row at = let h = filter_at cells place row at in (suc (h.0), h.1)

  once_cons : (cells : List (Option (Row T))) (first : Row T) → AreOnce cells → IsPlaceOf first.key cells None → AreOnce (Some first ∷ cells)
  once_cons cells first once none zero zero row next at_one at_other same = refl
  once_cons cells first once none zero (suc other) row next at_one at_other same =
      absurd (none other next at_other (sym same ∙ ap (λ (found : Row T). found.key) (sym (same_Some first row at_one))))
  once_cons cells first once none (suc one) zero row next at_one at_other same =
      absurd (none one row at_one (same ∙ ap (λ (found : Row T). found.key) (sym (same_Some first next at_other))))
  once_cons cells first once none (suc one) (suc other) row next at_one at_other same = ap suc (once one other row next at_one at_other same)

  pub once_full : (cells : List (Option (Row T))) → AreOnce cells → AreOnce (filter is_some cells)
  once_full [] once = once
  once_full (None ∷ cells) once = once_full cells (once_tail None cells once)
  once_full (Some first ∷ cells) once =
      once_cons (filter is_some cells) first (once_full cells (once_tail (Some first) cells once)) (λ place row at same.
      let h = filter_at cells place row at in
      let clash : 0 ≡ suc (h.0) = once 0 (suc (h.0)) first row refl (h.1) (sym same) in absurd (omega arith))

  shorter : (cells : List (Option (Row T))) → length (filter is_some cells) ≤ length cells
  shorter [] = omega arith
  shorter (None ∷ cells) = omega (arith, shorter cells)
  shorter (Some row ∷ cells) = omega (arith, shorter cells)

  -- no cell is listed yet
  pub listed_none : (seed : Seed) (old new : Store T) → IsWhole old → new.most ≡ old.most → new.cells.items ≡ filter is_some old.cells.items
      → vec_capacity new.cells ≡ vec_capacity old.cells → new.moments.items ≡ [] → vec_capacity new.moments ≡ vec_capacity old.moments
      → new.chains ≡ emptied seed old.chains → new.alarms ≡ silenced old.alarms → new.count ≡ old.count → IsListed 0 new
  listed_none seed old new whole most cells cells_room moments looks_room chains alarms count =
      let room = whole.room in
      let no_alarm : length new.alarms.alarms ≡ 0 = ap (λ x. length x.alarms) alarms in
      let fewer : length new.cells.items ≤ length old.cells.items = omega (arith, ap length cells, shorter old.cells.items) in
      let counts : length (rows_in new.cells.items) ≡ length (rows_in old.cells.items) = ap (λ all. length (rows_in all)) cells
      ∙ ap length (rows_full old.cells.items) in
      record {
        room = record {
          some = omega (arith, room.some);
          few = omega (arith, room.few);
          width = omega (arith, ap (λ x. x.width) chains, room.width);
          cells = omega (arith, room.cells);
          moments = omega (arith, room.moments);
          chains = let e : new.chains.room ≡ old.chains.room = ap (λ x. x.room) chains in omega (arith, room.chains);
          alarms = let e : new.alarms.room ≡ old.alarms.room = ap (λ x. x.room) alarms in omega (arith, room.alarms);
          within = omega (arith, room.within);
          alarmed = omega arith;
        };
        indexed = record {
          watches = ap length moments;
          links = ap (λ x. length x.buckets) chains;
          hashed = λ place row at. absurd (none-some row at);
          watched = λ place row end at ends. absurd (none-some row at);
        };
        once = let P : List (Option (Row T)) → Type 0 = λ all. AreOnce all in subst P (sym cells) (once_full old.cells.items whole.once);
        full = let P : List (Option (Row T)) → Type 0 = λ all. (one : ℕ) → one < length all → IsSome (row_at all one) in
            subst P (sym cells) (full old.cells.items);
        reach = omega arith;
        alarmed = omega arith;
        counted = count ∙ whole.counted ∙ sym counts;
        few = omega (arith, whole.few, count);
      }
