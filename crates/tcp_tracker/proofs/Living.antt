-- Rows that live, and one that is taken out.
use Rattle.std.proofs.Common.{◌≡◌, inl, inr, ℕ, ◌==◌, List, [], ◌∷◌, Some, refl, ap, sym, ◌∙◌, subst, option_map, All}
use Rattle.std.proofs.lemmas.Bool.{cases_Bool}
use Rattle.std.proofs.lemmas.List.Elements.{All-head, All-tail, All-filter}
use Rattle.std.proofs.lemmas.Option.{none-some, same_Some}
use Rattle.gate_base.specs.declared.event.Moment.{Moment}
use Rattle.expiring_table.specs.declared.row.Row.{Row}
use Rattle.expiring_table.specs.Prelude.{row_of, without, lives, living, is_before, AreDistinct}
use Rattle.expiring_table.specs.Rows.{IsEnded as IsRowEnded}
use Rattle.tcp_tracker.specs.declared.connection.Connection.{Connection}
use Rattle.tcp_tracker.specs.Prelude.{is_live, live, IsEnded, IsFiled}
use Rattle.tcp_tracker.proofs.Names.{connections_in, found_named, dropped_named}

lives_is : (now : Moment) (row : Row (Connection ℕ)) → IsFiled row → lives now.0 row ≡ is_live now row.value
lives_is now row f = ap (is_before now.0) f.end

pub live_in : (now : Moment) (rows : List (Row (Connection ℕ))) → All IsFiled rows
    → connections_in (living now.0 rows) ≡ live now (connections_in rows)
live_in now [] all = refl
live_in now (row ∷ rows) all =
    let same = lives_is now row (All-head IsFiled row rows all) in
    let rest = live_in now rows (All-tail IsFiled row rows all) in
    elim (cases_Bool (lives now.0 row)) [
      | inl e ↦ rw (e, sym same ∙ e) (ap (λ more. row.value ∷ more) rest)
      | inr e ↦ rw (e, sym same ∙ e) rest
    ]

pub filed_without : (key : ℕ) (rows : List (Row (Connection ℕ))) → All IsFiled rows → All IsFiled (without key rows)
filed_without key rows all = All-filter _ IsFiled rows all

-- what is found is filed
found_filed : (key : ℕ) (rows : List (Row (Connection ℕ))) (row : Row (Connection ℕ)) → All IsFiled rows → row_of key rows ≡ Some row → IsFiled row
found_filed key [] row all found = absurd (none-some row found)
found_filed key (first ∷ rows) row all found =
    elim (cases_Bool (first.key == key)) [
      | inl e ↦ let p : row_of key (first ∷ rows) ≡ Some first = rw e refl in let P : Row (Connection ℕ) → Type 0 = λ one. IsFiled one in
          subst P (same_Some first row (sym p ∙ found)) (All-head IsFiled first rows all)
      | inr e ↦ let p : row_of key (first ∷ rows) ≡ row_of key rows = rw e refl in
          found_filed key rows row (All-tail IsFiled first rows all) (sym p ∙ found)
    ]

pub ended_in : (now : Moment) (row : Row (Connection ℕ)) (old new : List (Row (Connection ℕ))) → All IsFiled old → AreDistinct old
    → IsRowEnded now.0 old new row → IsEnded now (connections_in old) (connections_in new) row.value
ended_in now row old new all distinct taken =
    let f = found_filed row.key old row all taken.there in
    record {
      there = found_named row.value.key old f.key all ∙ ap (λ number. option_map (λ (one : Row (Connection ℕ)). one.value) (row_of number old))
          (sym f.number) ∙ ap (option_map (λ (one : Row (Connection ℕ)). one.value)) taken.there;
      over = sym (lives_is now row f) ∙ taken.ended;
      rest = ap connections_in taken.rest ∙ ap (λ number. connections_in (without number old)) f.number
          ∙ dropped_named row.value.key old f.key all distinct;
    }
