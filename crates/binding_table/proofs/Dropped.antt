-- Bindings that are taken out.
use Rattle.std.proofs.Common.{◌≡◌, ◌<◌, false, List, length, map, Some, None, IsTrue, sym, ◌∙◌, ap, subst, arith, filter}
use Rattle.std.proofs.lemmas.List.{length-map}
use Rattle.gate_base.specs.Prelude.{same_side}
use Rattle.gate_base.specs.declared.event.Moment.{Moment}
use Rattle.gate_base.specs.declared.side.Side.{Side}
use Rattle.gate_base.specs.declared.side.Side.TheVariants.{Left, Right}
use Rattle.expiring_table.specs.declared.row.Row.{Row}
use Rattle.expiring_table.specs.Prelude.{row_of, without, lives, living}
use Rattle.realm_pools.specs.Addresses.{Range, is_taken}
use Rattle.binding_table.specs.declared.binding.Binding.{Binding}
use Rattle.binding_table.specs.Prelude.{is_live, Aliases, AreKept, AreTaken, aliases_with, changed, entries_in, filed, plain_table}
use Rattle.binding_table.proofs.Filed.{entries_are, has_ended, living_filed, others}
use Rattle.binding_table.proofs.Kept.{aliases_gone, between, live_others, others_fewer, taken_between, taken_filter}

pub same_with : (range range' : Range) (side : Side) (xs ys : List Binding) → range ≡ range' → xs ≡ ys
    → aliases_with range side xs ≡ aliases_with range' side ys
same_with range range' side xs ys p q = cc

same_plain : (left left' right right' : Range) (xs ys : List Binding) → left ≡ left' → right ≡ right' → xs ≡ ys
    → plain_table left right xs ≡ plain_table left' right' ys
same_plain left left' right right' xs ys p q r = cc

kept_by : (left right : Aliases) (rows : List (Row Binding)) (one two : Range) (entries : List Binding) → rows ≡ map filed entries
    → AreTaken (plain_table one two entries) → left ≡ aliases_with one Left entries → right ≡ aliases_with two Right entries → AreKept left right rows
kept_by left right rows one two entries is taken left_is right_is =
    let e = entries_are rows entries is in
    let l = ap (λ (aliases : Aliases). aliases.pool.range) left_is in
    let r = ap (λ (aliases : Aliases). aliases.pool.range) right_is in
    record {
      rows_are = is ∙ ap (map filed) (sym e);
      taken = subst AreTaken (sym (same_plain left.pool.range one right.pool.range two (entries_in rows) entries l r e)) taken;
      left_is = left_is ∙ sym (same_with left.pool.range one Left (entries_in rows) entries l e);
      right_is = right_is ∙ sym (same_with right.pool.range two Right (entries_in rows) entries r e);
    }

-- what is left once the row of a binding that ended was taken out, and its alias given back
pub record IsDropped (now : Moment) (left right : Aliases) (rows rest : List (Row Binding)) (binding : Binding) : Type 0 where
  pub left_taken : binding.side ≡ Right → IsTrue (is_taken binding.alias left.pool)
  pub right_taken : binding.side ≡ Left → IsTrue (is_taken binding.alias right.pool)
  pub fewer : length rest < length rows
  pub live : filter (is_live now) (entries_in rest) ≡ filter (is_live now) (entries_in rows)
  pub left_range : (changed Left binding None left).pool.range ≡ left.pool.range
  pub right_range : (changed Right binding None right).pool.range ≡ right.pool.range
  pub kept : AreKept (changed Left binding None left) (changed Right binding None right) rest

pub dropped : (now : Moment) (left right : Aliases) (rows rest : List (Row Binding)) (row : Row Binding) → AreKept left right rows
    → row_of row.key rows ≡ Some row → lives now.0 row ≡ false → rest ≡ without row.key rows → IsDropped now left right rows rest row.value
dropped now left right rows rest row kept there ended without_it =
    let binding = row.value in
    let entries = entries_in rows in
    let one = left.pool.range in
    let two = right.pool.range in
    let table = plain_table one two entries in
    let gone = has_ended now entries rows rest row kept.rows_are there ended without_it in
    let place = between entries binding kept.taken.once gone.found in
    let left_is = ap (changed Left binding None) kept.left_is ∙ aliases_gone table Left binding kept.taken place in
    let right_is = ap (changed Right binding None) kept.right_is ∙ aliases_gone table Right binding kept.taken place in
    let P : Aliases → Type 0 = λ aliases. IsTrue (is_taken binding.alias aliases.pool) in
    let left_over = entries_are rest (others binding entries) gone.left in
    let long = length-map rows (λ (r : Row Binding). r.value) in
    let short = ap length left_over in
    let wide = length-map rest (λ (r : Row Binding). r.value) in
    record {
      left_taken = λ right. subst P (sym kept.left_is)
          (taken_between table Left binding kept.taken place (ap (λ (s : Side). same_side s Right) right));
      right_taken = λ left. subst P (sym kept.right_is)
          (taken_between table Right binding kept.taken place (ap (λ (s : Side). same_side s Left) left));
      fewer = omega (arith, others_fewer entries binding place, long, short, wide);
      live = ap (filter (is_live now)) left_over ∙ live_others now entries binding gone.ended place;
      left_range = ap (λ (aliases : Aliases). aliases.pool.range) left_is;
      right_range = ap (λ (aliases : Aliases). aliases.pool.range) right_is;
      kept = kept_by (changed Left binding None left) (changed Right binding None right) rest one two (others binding entries) gone.left
          (taken_filter _ one two entries kept.taken) left_is right_is;
    }

-- where all rows live, those are left that lived before
pub rows_left : (now : Moment) (rows before : List (Row Binding)) → rows ≡ map filed (entries_in rows) → living now.0 rows ≡ rows
    → filter (is_live now) (entries_in rows) ≡ filter (is_live now) (entries_in before) → rows ≡ map filed (filter (is_live now) (entries_in before))
rows_left now rows before kept live same = sym live ∙ ap (living now.0) kept ∙ living_filed now (entries_in rows) ∙ ap (map filed) same
