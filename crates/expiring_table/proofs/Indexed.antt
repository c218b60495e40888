-- Rows that can be found.
use Rattle.std.proofs.Common.{◌≡◌, inl, inr, ℕ, ◌+◌, ◌<◌, ◌≤◌, List, [], ◌∷◌, ◌++◌, length, slice_index, take, vec_capacity, Option, Some, None, IsSome, ap, sym, ◌∙◌, subst, arith, length-append, Contains}
use Rattle.std.specs.declared.cmp.Reverse.{Reverse}
use Rattle.std.proofs.lemmas.List.{get_or_append_left, get_or_push, take_more}
use Rattle.std.proofs.lemmas.List.Elements.{Contains-append_left, Contains-append_right, Contains-push}
use Rattle.std.proofs.lemmas.List.Sorted.{Contains-permutation, length_permutation}
use Rattle.std.proofs.lemmas.Option.{none-some, same_Some}
use Rattle.expiring_table.specs.declared.row.Row.{Row}
use Rattle.expiring_table.specs.declared.store.Store.{Store}
use Rattle.expiring_table.specs.Prelude.{alarm, Chained, rows_in, row_at, bucket_of, IsIndexed, AreOnce, IsListed, IsWhole, IsPlaceOf, HasRoom}
use Rattle.expiring_table.specs.Inside.Chained.{with_place}
use Rattle.expiring_table.specs.Inside.Kept.{first_moment, HasAlarm, CanAppend}
use Rattle.expiring_table.proofs.Cells.{push_cases, rows_push, once_push}

-- ## Alarms

pub contains_front : (one : Reverse (ℕ × ℕ)) (alarms : List (Reverse (ℕ × ℕ))) → Contains (one ∷ alarms) one
contains_front one alarms = Contains-append_left (one ∷ []) alarms one (Contains-push [] one)

pub contains_rest : (one first : Reverse (ℕ × ℕ)) (alarms : List (Reverse (ℕ × ℕ))) → Contains alarms one → Contains (first ∷ alarms) one
contains_rest one first alarms h = Contains-append_right (first ∷ []) alarms one h

-- the earlier alarms stay
pub alarm_stays : (end : Option ℕ) (place : ℕ) (old new : List (Reverse (ℕ × ℕ))) (one : Reverse (ℕ × ℕ)) → HasAlarm end place old new
    → Contains old one → Contains new one
alarm_stays None place old new one alarmed h = let P : List (Reverse (ℕ × ℕ)) → Type 0 = λ alarms. Contains alarms one in subst P (sym alarmed) h
alarm_stays (Some end) place old new one alarmed h = Contains-permutation (alarm end place ∷ old) new one alarmed
    (contains_rest one (alarm end place) old h)

pub alarm_added : (end : Option ℕ) (moment place : ℕ) (old new : List (Reverse (ℕ × ℕ))) → HasAlarm end place old new → end ≡ Some moment
    → Contains new (alarm (first_moment end) place)
alarm_added None moment place old new alarmed is = absurd (none-some moment is)
alarm_added (Some end) moment place old new alarmed is = Contains-permutation (alarm end place ∷ old) new (alarm end place) alarmed
    (contains_front (alarm end place) old)

pub alarmed_length : (end : Option ℕ) (place : ℕ) (old new : List (Reverse (ℕ × ℕ))) → HasAlarm end place old new → length new ≤ length old + 1
alarmed_length None place old new alarmed = omega (arith, ap length alarmed)
alarmed_length (Some end) place old new alarmed = omega (arith, length_permutation (alarm end place ∷ old) new alarmed)

moment_is : (end : Option ℕ) (moment : ℕ) → end ≡ Some moment → first_moment end ≤ moment
moment_is None moment is = absurd (none-some moment is)
moment_is (Some end) moment is = let e : end ≡ moment = cc in omega arith

module _ {T : Type 0} where
  -- one more row can be found
  pub indexed_push : (cells : List (Option (Row T))) (moments : List ℕ) (chained : Chained) (alarms alarms' : List (Reverse (ℕ × ℕ))) (new : Row T)
      → IsIndexed cells moments chained alarms → HasAlarm new.end (length moments) alarms alarms'
      → IsIndexed (cells ++ Some new ∷ []) (moments ++ first_moment new.end ∷ []) (with_place (bucket_of chained new.key) chained) alarms'
  indexed_push cells moments chained alarms alarms' new indexed alarmed = record {
    watches = omega (arith, indexed.watches, length-append moments (first_moment new.end ∷ []), length-append cells (Some new ∷ []));
    links = omega (arith, indexed.links, length-append chained.buckets (bucket_of chained new.key ∷ []), length-append cells (Some new ∷ []));
    hashed = λ place row at.
        elim (push_cases cells (Some new) place row at) [
          | inl h ↦ get_or_append_left chained.buckets (bucket_of chained new.key ∷ []) 0 place (omega (arith, h.0, indexed.links))
              ∙ indexed.hashed place row (h.1)
          | inr h ↦ get_or_push chained.buckets (bucket_of chained new.key) 0 place (indexed.links ∙ sym (h.0))
              ∙ ap (λ (found : Row T). bucket_of chained found.key) (same_Some new row (h.1))
        ];
    watched = λ place row end at ends.
        elim (push_cases cells (Some new) place row at) [
          | inl h ↦
              let same : slice_index (moments ++ first_moment new.end ∷ []) place ≡ slice_index moments place =
              get_or_append_left moments (first_moment new.end ∷ []) 0 place (omega (arith, h.0, indexed.watches)) in
              let before = indexed.watched place row end (h.1) ends in
              let P : ℕ → Type 0 = λ ring. (ring ≤ end) × Contains alarms' (alarm ring place) in
              subst P (sym same) (
                before.0,
                alarm_stays new.end (length moments) alarms alarms' (alarm (slice_index moments place) place) alarmed
                    (before.1),
              )
          | inr h ↦
              let at_end : length moments ≡ place = indexed.watches ∙ sym (h.0) in
              let same : slice_index (moments ++ first_moment new.end ∷ []) place ≡ first_moment new.end =
              get_or_push moments (first_moment new.end) 0 place at_end in
              let ends' : new.end ≡ Some end = ap (λ (found : Row T). found.end) (same_Some new row (h.1)) ∙ ends in
              let P : ℕ → Type 0 = λ ring. (ring ≤ end) × Contains alarms' (alarm ring place) in
              let Q : ℕ → Type 0 = λ there. Contains alarms' (alarm (first_moment new.end) there) in
              subst P (sym same) (moment_is new.end end ends', subst Q at_end (alarm_added new.end end (length moments) alarms alarms' alarmed ends'))
        ];
  }

  pub same_indexed : (cells cells' : List (Option (Row T))) (moments moments' : List ℕ) (chained chained' : Chained) (alarms : List (Reverse (ℕ × ℕ)))
      → cells ≡ cells' → moments ≡ moments' → chained ≡ chained' → IsIndexed cells moments chained alarms → IsIndexed cells' moments' chained' alarms
  same_indexed cells cells' moments moments' chained chained' alarms a b c h =
      let P : List (Option (Row T)) → Type 0 = λ x. IsIndexed x moments chained alarms in
      let Q : List ℕ → Type 0 = λ x. IsIndexed cells' x chained alarms in
      let R : Chained → Type 0 = λ x. IsIndexed cells' moments' x alarms in
      subst R c (subst Q b (subst P a h))

  -- one more cell is listed
  pub listed_more : (place : ℕ) (old new : Store T) (row : Row T) → IsListed place old → place < length old.cells.items
      → row_at old.cells.items place ≡ Some row → HasRoom new → new.most ≡ old.most → new.cells ≡ old.cells → new.count ≡ old.count
      → new.moments.items ≡ old.moments.items ++ first_moment row.end ∷ [] → new.chains ≡ with_place (bucket_of old.chains row.key) old.chains
      → HasAlarm row.end (length old.moments.items) old.alarms.alarms new.alarms.alarms → IsListed (place + 1) new
  listed_more place old new row listed within at room same cells count moments chains alarmed =
      let items : new.cells.items ≡ old.cells.items = ap (λ v. v.items) cells in
      let more : take place old.cells.items ++ Some row ∷ [] ≡ take (place + 1) new.cells.items =
      ap (λ cell. take place old.cells.items ++ cell ∷ []) (sym at) ∙ sym (take_more old.cells.items place None within)
      ∙ ap (take (place + 1)) (sym items)
      in
      record {
        room = room;
        indexed = same_indexed _ _ _ _ _ _ new.alarms.alarms more (sym moments) (sym chains)
            (indexed_push (take place old.cells.items) old.moments.items old.chains old.alarms.alarms new.alarms.alarms row listed.indexed alarmed);
        once = let P : List (Option (Row T)) → Type 0 = λ all. AreOnce all in subst P (sym items) listed.once;
        full = let P : List (Option (Row T)) → Type 0 = λ all. (one : ℕ) → one < length all → IsSome (row_at all one) in
            subst P (sym items) listed.full;
        reach = let e : length new.cells.items ≡ length old.cells.items = ap length items in omega arith;
        alarmed = omega (arith, listed.alarmed, alarmed_length row.end (length old.moments.items) old.alarms.alarms new.alarms.alarms alarmed);
        counted = count ∙ listed.counted ∙ ap (λ all. length (rows_in all)) (sym items);
        few = omega (arith, listed.few, count);
      }

  -- one more row stands behind the others, with an index that has it
  pub whole_push : (old listed new : Store T) (row : Row T) → IsWhole old → CanAppend old → old.count < old.most
      → IsPlaceOf row.key old.cells.items None → HasRoom listed → listed.most ≡ old.most → listed.cells ≡ old.cells → listed.count ≡ old.count
      → listed.moments.items ≡ old.moments.items ++ first_moment row.end ∷ [] → listed.chains ≡ with_place (bucket_of old.chains row.key) old.chains
      → HasAlarm row.end (length old.moments.items) old.alarms.alarms listed.alarms.alarms → new.most ≡ listed.most
      → new.cells.items ≡ listed.cells.items ++ Some row ∷ [] → vec_capacity new.cells ≡ vec_capacity listed.cells → new.moments ≡ listed.moments
      → new.chains ≡ listed.chains → new.alarms ≡ listed.alarms → new.count ≡ listed.count + 1 → IsWhole new
  whole_push old listed new row whole can few none room listed_most cells count moments chains alarmed same_most pushed capacity same_moments
      same_chains same_alarms counted =
      let items : new.cells.items ≡ old.cells.items ++ Some row ∷ [] = pushed ∙ ap (λ v. v.items ++ Some row ∷ []) cells in
      let long : length new.cells.items ≡ length old.cells.items + 1 = ap length items ∙ length-append old.cells.items (Some row ∷ []) in
      let pushed_rows : rows_in new.cells.items ≡ rows_in old.cells.items ++ row ∷ [] = ap rows_in items ∙ rows_push old.cells.items row in
      let counts : length (rows_in new.cells.items) ≡ length (rows_in old.cells.items) + 1 = ap length pushed_rows
      ∙ length-append (rows_in old.cells.items) (row ∷ []) in
      record {
        room = record {
          some = omega (arith, room.some);
          few = omega (arith, room.few);
          width = omega (arith, ap (λ x. x.width) same_chains, room.width);
          cells = omega (arith, room.cells, capacity);
          moments = let e : vec_capacity new.moments ≡ vec_capacity listed.moments = ap vec_capacity same_moments in omega (arith, room.moments);
          chains = let e : new.chains.room ≡ listed.chains.room = ap (λ x. x.room) same_chains in omega (arith, room.chains);
          alarms = let e : new.alarms.room ≡ listed.alarms.room = ap (λ x. x.room) same_alarms in omega (arith, room.alarms);
          within = omega (arith, can.cells, long);
          alarmed = let e : length new.alarms.alarms ≡ length listed.alarms.alarms = ap (λ x. length x.alarms) same_alarms in
              omega (arith, room.alarmed);
        };
        indexed =
            let P : List (Reverse (ℕ × ℕ)) → Type 0 = λ alarms. IsIndexed new.cells.items new.moments.items new.chains alarms in
            subst P (ap (λ x. x.alarms) (sym same_alarms))
            (same_indexed _ _ _ _ _ _ listed.alarms.alarms (sym items) (sym (ap (λ x. x.items) same_moments ∙ moments)) (sym (same_chains ∙ chains))
            (indexed_push old.cells.items old.moments.items old.chains old.alarms.alarms listed.alarms.alarms row whole.indexed alarmed));
        once = let P : List (Option (Row T)) → Type 0 = λ all. AreOnce all in subst P (sym items) (once_push old.cells.items row whole.once none);
        counted = omega (arith, counted, count, whole.counted, counts);
        few = omega (arith, few, counted, count);
      }
