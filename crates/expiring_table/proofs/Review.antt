-- Alarms that are taken out.
use Rattle.std.proofs.Common.{◌≡◌, ◌≢◌, ◌⊎◌, inl, inr, ℕ, suc, ◌*◌, ◌<◌, ◌≤◌, true, cond, nat_le, List, [], ◌∷◌, length, set, slice_index, vec_capacity, Option, Some, None, refl, ap, sym, ◌∙◌, subst, arith, Contains, All, IsPermutation, get_or-set_same, get_or-set_other, length-set}
use Rattle.std.specs.declared.cmp.Reverse.{Reverse}
use Rattle.std.proofs.lemmas.Bool.{lt-ltb, lt-leb, le-leb}
use Rattle.std.proofs.lemmas.Bool.Decides.{eqb_tells}
use Rattle.std.proofs.lemmas.List.Elements.{Contains-append_cases, Contains-push_cases, All-contains}
use Rattle.std.proofs.lemmas.List.Sorted.{Contains-permutation, sum_by_pushed, sum_by_popped, length_permutation}
use Rattle.std.proofs.lemmas.Option.{same_Some}
use Rattle.expiring_table.specs.declared.row.Row.{Row}
use Rattle.expiring_table.specs.declared.store.Store.{Store}
use Rattle.expiring_table.specs.Prelude.{alarm, Chained, is_before, lives, living, rows_in, row_at, count_due, is_watched, AreOnce, AreWatched, IsIndexed, IsPlaceOf, IsWhole, HasRoom}
use Rattle.std.specs.Vec.{with_item}
use Rattle.expiring_table.specs.Inside.Kept.{IsOpen}
use Rattle.expiring_table.proofs.Changes.{count_set, once_set, indexed_set, watched_then}
use Rattle.expiring_table.proofs.Indexed.{contains_front, contains_rest}

contains_none : (one : Reverse (ℕ × ℕ)) → Contains [] one → ⊥
contains_none one h = absurd (omega (arith, h.1))

-- an alarm is the first, or one of the rest
first_or_rest : (first one : Reverse (ℕ × ℕ)) (alarms : List (Reverse (ℕ × ℕ))) → Contains (first ∷ alarms) one → (first ≡ one) ⊎ Contains alarms one
first_or_rest first one alarms h =
    elim (Contains-append_cases (first ∷ []) alarms one h) [
      | inl a ↦ elim (Contains-push_cases [] first one a) [ inl b ↦ absurd (contains_none one b) | inr b ↦ inl b ]
      | inr a ↦ inr a
    ]

abbrev is_due : ℕ → Reverse (ℕ × ℕ) → ℕ
is_due now one = cond (nat_le one.0.0 now) 1 0

pub due_less : (now moment place : ℕ) (old new : List (Reverse (ℕ × ℕ))) → IsPermutation old (alarm moment place ∷ new) → moment ≤ now
    → count_due now new < count_due now old
due_less now moment place old new taken due =
    let one : is_due now (alarm moment place) ≡ 1 = rw (le-leb moment now due) refl in
    omega (arith, sum_by_popped (is_due now) (alarm moment place) old new taken, one)

pub due_same : (now moment place : ℕ) (old new : List (Reverse (ℕ × ℕ))) → IsPermutation (alarm moment place ∷ old) new → now < moment
    → count_due now new ≡ count_due now old
due_same now moment place old new pushed late =
    let none : is_due now (alarm moment place) ≡ 0 = rw (lt-leb moment now late) refl in
    omega (arith, sum_by_pushed (is_due now) (alarm moment place) old new pushed, none)

before_end : (now : ℕ) (end : Option ℕ) → ((moment : ℕ) → end ≡ Some moment → now < moment) → is_before now end ≡ true
before_end now None later = refl
before_end now (Some end) later = lt-ltb now end (later end refl)

module _ {T : Type 0} where
  -- an alarm that no row waits for can go
  pub drop_alarm : (cells : List (Option (Row T))) (moments : List ℕ) (chained : Chained) (alarms : List (Reverse (ℕ × ℕ))) (moment place : ℕ)
      → IsIndexed cells moments chained (alarm moment place ∷ alarms)
      → ((row : Row T) (end : ℕ) → row_at cells place ≡ Some row → row.end ≡ Some end → slice_index moments place ≢ moment)
      → IsIndexed cells moments chained alarms
  drop_alarm cells moments chained alarms moment place indexed spare = record {
    watches = indexed.watches;
    links = indexed.links;
    hashed = indexed.hashed;
    watched = λ other row end at ends.
        let watch = indexed.watched other row end at ends in (
          watch.0,
          elim (first_or_rest (alarm moment place) (alarm (slice_index moments other) other) alarms (watch.1)) [
            | inl same ↦
                let there : place ≡ other = ap (λ (one : Reverse (ℕ × ℕ)). one.0.1) same in
                let then : moment ≡ slice_index moments other = ap (λ (one : Reverse (ℕ × ℕ)). one.0.0) same in
                absurd (spare row end (ap (row_at cells) there ∙ at) ends (ap (slice_index moments) there ∙ sym then))
            | inr rest ↦ rest
          ],
        );
  }

  -- the alarm of a row is set to its end
  pub set_alarm : (cells : List (Option (Row T))) (moments : List ℕ) (chained : Chained) (alarms alarms' : List (Reverse (ℕ × ℕ))) (moment place : ℕ)
      (row : Row T) (end : ℕ) → IsIndexed cells moments chained (alarm moment place ∷ alarms) → place < length cells → row_at cells place ≡ Some row
      → row.end ≡ Some end → IsPermutation (alarm end place ∷ alarms) alarms' → IsIndexed cells (set moments place end) chained alarms'
  set_alarm cells moments chained alarms alarms' moment place row end indexed within at ends pushed = record {
    watches = length-set moments place end ∙ indexed.watches;
    links = indexed.links;
    hashed = indexed.hashed;
    watched = λ other next moment' at_other ends_other.
        let P : ℕ → Type 0 = λ ring. (ring ≤ moment') × Contains alarms' (alarm ring other) in
        elim (eqb_tells other place) [
          | inl h ↦
              let here : other ≡ place = h.1 in
              let ring : slice_index (set moments place end) other ≡ end = ap (slice_index (set moments place end)) here
              ∙ get_or-set_same moments place end 0 (omega (arith, indexed.watches)) in
              let found : row ≡ next = same_Some row next (sym at ∙ ap (row_at cells) (sym here) ∙ at_other) in
              let end_is : end ≡ moment' = same_Some end moment' (sym ends ∙ ap (λ (one : Row T). one.end) found ∙ ends_other) in
              let Q : ℕ → Type 0 = λ there. Contains alarms' (alarm end there) in
              subst P (sym ring) (
                omega arith,
                subst Q (sym here) (Contains-permutation (alarm end place ∷ alarms) alarms' (alarm end place) pushed
                    (contains_front (alarm end place) alarms)),
              )
          | inr h ↦
              let ring : slice_index (set moments place end) other ≡ slice_index moments other = get_or-set_other moments place other end 0 (h.1) in
              let watch = indexed.watched other next moment' at_other ends_other in
              subst P (sym ring) (
                watch.0,
                elim (first_or_rest (alarm moment place) (alarm (slice_index moments other) other) alarms (watch.1)) [
                  | inl same ↦ absurd (h.1 (sym (ap (λ (one : Reverse (ℕ × ℕ)). one.0.1) same)))
                  | inr rest ↦ Contains-permutation (alarm end place ∷ alarms) alarms' (alarm (slice_index moments other) other) pushed
                      (contains_rest (alarm (slice_index moments other) other) (alarm end place) alarms rest)
                ],
              )
        ];
  }

  all_lives : (now : ℕ) (cells : List (Option (Row T))) → ((place : ℕ) (row : Row T) → row_at cells place ≡ Some row → lives now row ≡ true)
      → living now (rows_in cells) ≡ rows_in cells
  all_lives now [] live = refl
  all_lives now (None ∷ cells) live = all_lives now cells (λ place row at. live (suc place) row at)
  all_lives now (Some row ∷ cells) live = rw (live 0 row refl)
      (ap (λ rows. row ∷ rows) (all_lives now cells (λ place other at. live (suc place) other at)))

  -- where no alarm is due, all rows live
  pub none_due : (now : ℕ) (cells : List (Option (Row T))) (moments : List ℕ) (alarms : List (Reverse (ℕ × ℕ))) → AreWatched cells moments alarms
      → All (λ one. now < one.0.0) alarms → living now (rows_in cells) ≡ rows_in cells
  none_due now cells moments alarms watched late =
      all_lives now cells (λ place row at. before_end now row.end (λ end ends.
      let watch = watched place row end at ends in
      let later : now < slice_index moments place = All-contains (λ (one : Reverse (ℕ × ℕ)). now < one.0.0) alarms
      (alarm (slice_index moments place) place) late (watch.1) in
      omega (arith, watch.0)))

  pub room_kept : (old new : Store T) → HasRoom old → new.most ≡ old.most → length new.cells.items ≡ length old.cells.items
      → vec_capacity new.cells ≡ vec_capacity old.cells → vec_capacity new.moments ≡ vec_capacity old.moments → new.chains.width ≡ old.chains.width
      → new.chains.room ≡ old.chains.room → old.alarms.room ≤ new.alarms.room → length new.alarms.alarms ≤ 2 * new.most → HasRoom new
  room_kept old new room most long cells moments width chains alarms alarmed = record {
    some = omega (arith, room.some);
    few = omega (arith, room.few);
    width = omega (arith, room.width);
    cells = omega (arith, room.cells);
    moments = omega (arith, room.moments);
    chains = omega (arith, room.chains);
    alarms = omega (arith, room.alarms);
    within = omega (arith, room.within);
    alarmed = alarmed;
  }

  pub open_popped : (moment place : ℕ) (old new : Store T) → IsWhole old → new.most ≡ old.most → new.cells ≡ old.cells → new.moments ≡ old.moments
      → new.chains ≡ old.chains → new.count ≡ old.count → new.alarms.room ≡ old.alarms.room
      → IsPermutation old.alarms.alarms (alarm moment place ∷ new.alarms.alarms) → IsOpen moment place new
  open_popped moment place old new whole most cells moments chains count room taken =
      let shorter : length (alarm moment place ∷ new.alarms.alarms) ≡ length old.alarms.alarms =
      length_permutation old.alarms.alarms (alarm moment place ∷ new.alarms.alarms) taken in
      let items : new.cells.items ≡ old.cells.items = ap (λ v. v.items) cells in
      record {
        room = room_kept old new whole.room most (ap length items) (ap vec_capacity cells) (ap vec_capacity moments) (ap (λ x. x.width) chains)
            (ap (λ x. x.room) chains) (omega arith) (omega (arith, shorter, whole.room.alarmed));
        indexed =
            let P : List (Option (Row T)) → Type 0 = λ all. IsIndexed all new.moments.items new.chains (alarm moment place ∷ new.alarms.alarms) in
            let Q : List ℕ → Type 0 = λ all. IsIndexed old.cells.items all new.chains (alarm moment place ∷ new.alarms.alarms) in
            let R : Chained → Type 0 = λ all. IsIndexed old.cells.items old.moments.items all (alarm moment place ∷ new.alarms.alarms) in
            subst P (sym items) (subst Q (ap (λ v. v.items) (sym moments)) (subst R (sym chains) (record {
              watches = whole.indexed.watches;
              links = whole.indexed.links;
              hashed = whole.indexed.hashed;
              watched = λ other row end at ends.
                  let watch = whole.indexed.watched other row end at ends in (
                    watch.0,
                    Contains-permutation old.alarms.alarms (alarm moment place ∷ new.alarms.alarms)
                        (alarm (slice_index old.moments.items other) other) taken (watch.1),
                  );
            })));
        once = let P : List (Option (Row T)) → Type 0 = λ all. AreOnce all in subst P (sym items) whole.once;
        counted = count ∙ whole.counted ∙ ap (λ all. length (rows_in all)) (sym items);
        few = omega (arith, count, whole.few);
        spare = omega (arith, shorter, whole.room.alarmed);
      }

  -- an alarm that no row waits for is gone
  pub whole_dropped : (moment place : ℕ) (store : Store T) → IsOpen moment place store
      → ((row : Row T) (end : ℕ) → row_at store.cells.items place ≡ Some row → row.end ≡ Some end → slice_index store.moments.items place ≢ moment)
      → IsWhole store
  whole_dropped moment place store open' spare = record {
    room = open'.room;
    indexed = drop_alarm store.cells.items store.moments.items store.chains store.alarms.alarms moment place open'.indexed spare;
    once = open'.once;
    counted = open'.counted;
    few = open'.few;
  }

  pub row_cleared : (cells : List (Option (Row T))) (place : ℕ) → place < length cells → row_at (set cells place None) place ≡ None
  row_cleared cells place within = get_or-set_same cells place None None within

  -- another row with the key of one that ends stands at its place, and its alarm stays
  pub whole_watched : (store : Store T) (place end : ℕ) (new : Row T) → IsWhole store → IsPlaceOf new.key store.cells.items (Some place)
      → new.end ≡ Some end → is_watched (slice_index store.moments.items place) end (row_at store.cells.items place) ≡ true
      → IsWhole (record store { cells = with_item store.cells place (Some new) })
  whole_watched store place end new whole at is watched =
      let cells = store.cells.items in
      let moments = store.moments.items in
      let alarms = store.alarms.alarms in
      record {
        room = room_kept store _ whole.room refl (length-set cells place (Some new)) refl refl refl refl (omega arith) whole.room.alarmed;
        indexed = indexed_set cells moments moments store.chains alarms alarms place at.1.0 new at.0 at.1.1 at.1.2 whole.indexed refl
            (λ other not_here. refl) (λ one there. there) (λ other ends.
            let same : end ≡ other = same_Some end other (sym is ∙ ends) in
            watched_then cells moments alarms place (row_at cells place) other whole.indexed.watched refl
            (ap (λ one. is_watched (slice_index moments place) one (row_at cells place)) (sym same) ∙ watched));
        once = once_set cells place at.1.0 new at.0 whole.once at.1.1 at.1.2;
        counted = whole.counted ∙ sym (count_set cells place at.1.0 new at.1.1);
        few = whole.few;
      }
