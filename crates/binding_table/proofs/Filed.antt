-- Bindings as rows.
use Rattle.std.proofs.Common.{◌≡◌, ℕ, Bool, true, false, if◌then◌else◌, cond, not, ◌&&◌, ◌==◌, List, [], ◌∷◌, map, Option, Some, None, option_map, option_and_then, is_some, refl, ap, sym, ◌∙◌, arith, inl, inr, find, filter}
use Rattle.std.proofs.lemmas.Bool.{cases_Bool, eqb-true}
use Rattle.std.proofs.lemmas.Option.{same_Some}
use Rattle.std.proofs.lemmas.Bool.Decides.{nat_tests}
use Rattle.gate_base.specs.Prelude.{same_side}
use Rattle.gate_base.specs.declared.event.Moment.{Moment}
use Rattle.gate_base.specs.declared.side.Side.{Side}
use Rattle.gate_base.specs.declared.side.Side.TheVariants.{Left, Right}
use Rattle.expiring_table.specs.declared.row.Row.{Row}
use Rattle.expiring_table.specs.Prelude.{Table, row_of, with_row, without, lives, living}
use Rattle.binding_table.specs.declared.binding.Binding.{Binding}
use Rattle.binding_table.specs.Prelude.{is_live, is_of_host, ending, entries_in, filed, moving_row, number_of, unless_fixed}

abbrev table_of : {T : Type 0} → ℕ → List (Row T) → Table T
table_of most rows = record { most = most; rows = rows }

pub same_table : {T : Type 0} (one two : Table T) → one.most ≡ two.most → one.rows ≡ two.rows → one ≡ two
same_table one two p q = ap (λ (most : ℕ). table_of most one.rows) p ∙ ap (table_of two.most) q

number_tells : (one two : Side) (m n : ℕ) → (number_of one m == number_of two n) ≡ (same_side one two && m == n)
number_tells Left Left m n = grind (arith, nat_tests)
number_tells Left Right m n = grind (arith, nat_tests)
number_tells Right Left m n = grind (arith, nat_tests)
number_tells Right Right m n = grind (arith, nat_tests)

-- the number tells the host
named : (side : Side) (host : ℕ) (binding : Binding) → ((filed binding).key == number_of side host) ≡ is_of_host side host binding
named side host binding = number_tells binding.side side binding.host.0 host

entries_filed : (entries : List Binding) → entries_in (map filed entries) ≡ entries
entries_filed [] = refl
entries_filed (binding ∷ rest) = ap (λ more. binding ∷ more) (entries_filed rest)

pub entries_are : (rows : List (Row Binding)) (entries : List Binding) → rows ≡ map filed entries → entries_in rows ≡ entries
entries_are rows entries is = ap entries_in is ∙ entries_filed entries

pub found_filed : (side : Side) (host : ℕ) (entries : List Binding) → row_of (number_of side host) (map filed entries)
    ≡ option_map filed (find (is_of_host side host) entries)
found_filed side host [] = refl
found_filed side host (binding ∷ rest) = elim (cases_Bool (is_of_host side host binding)) [
  | inl e ↦ rw (named side host binding ∙ e, e) refl
  | inr e ↦ rw (named side host binding ∙ e, e) (found_filed side host rest)
]

-- what is found is filed
pub found_is : (key : ℕ) (entries : List Binding) (row : Row Binding) → row_of key (map filed entries) ≡ Some row → row ≡ filed row.value
found_is key [] row h = cc
found_is key (binding ∷ rest) row h = elim (cases_Bool ((filed binding).key == key)) [
  | inl e ↦ let same : filed binding ≡ row = (let s = rw e at h in cc) in sym same ∙ ap filed (ap (λ (r : Row Binding). r.value) same)
  | inr e ↦ found_is key rest row (rw e at h)
]

pub value_filed : (found : Option Binding) → option_map (λ row. row.value) (option_map filed found) ≡ found
value_filed None = refl
value_filed (Some binding) = refl

pub found_value : (side : Side) (host : ℕ) (entries : List Binding) (rows : List (Row Binding)) → rows ≡ map filed entries
    → option_map (λ row. row.value) (row_of (number_of side host) rows) ≡ find (is_of_host side host) entries
found_value side host entries rows kept =
    ap (λ all. option_map (λ (row : Row Binding). row.value) (row_of (number_of side host) all)) kept
    ∙ ap (option_map (λ (row : Row Binding). row.value)) (found_filed side host entries) ∙ value_filed (find (is_of_host side host) entries)

ending_filed : (found : Option Binding) → option_and_then ending (option_map filed found) ≡ option_map filed (option_and_then unless_fixed found)
ending_filed None = refl
ending_filed (Some binding) = elim (cases_Bool binding.fixed) [ inl e ↦ rw e refl | inr e ↦ rw e refl ]

-- and its row unless it is fixed
pub found_moving : (side : Side) (host : ℕ) (entries : List Binding)
    → moving_row (number_of side host) entries ≡ option_map filed (option_and_then unless_fixed (find (is_of_host side host) entries))
found_moving side host entries = ap (option_and_then ending) (found_filed side host entries) ∙ ending_filed (find (is_of_host side host) entries)

found_key : (key : ℕ) (rows : List (Row Binding)) (row : Row Binding) → row_of key rows ≡ Some row → row.key ≡ key
found_key key [] row h = cc
found_key key (one ∷ rest) row h = elim (cases_Bool (one.key == key)) [
  | inl e ↦ let same : Some one ≡ Some row = rw e at h in sym (ap (λ (r : Row Binding). r.key) (same_Some _ _ same)) ∙ eqb-true one.key key e
  | inr e ↦ found_key key rest row (rw e at h)
]

-- a row is that of a binding that isn't fixed
pub record IsMoving (entries : List Binding) (row : Row Binding) : Type 0 where
  pub there : find (is_of_host row.value.side row.value.host.0) entries ≡ Some row.value
  pub filed_is : row ≡ filed row.value
  pub moving : row.value.fixed ≡ false

unfixed : (binding : Binding) → is_some (filed binding).end ≡ true → binding.fixed ≡ false
unfixed binding h = elim (cases_Bool binding.fixed) [ inl e ↦ cc (rw e at h) | inr e ↦ e ]

pub moving_is : (number : ℕ) (entries : List Binding) (row : Row Binding) → moving_row number entries ≡ Some row → IsMoving entries row
moving_is number entries row h =
    let kept = from (row_of number (map filed entries)) refl h in
    let is = found_is number entries row kept.0 in
    let key = ap (λ (r : Row Binding). r.key) (sym is) ∙ found_key number (map filed entries) row kept.0 in
    let binding = row.value in
    let there : option_map filed (find (is_of_host binding.side binding.host.0) entries) ≡ Some row =
    sym (found_filed binding.side binding.host.0 entries) ∙ ap (λ k. row_of k (map filed entries)) key ∙ kept.0 in
    record {
      there = sym (value_filed _) ∙ ap (option_map (λ (r : Row Binding). r.value)) there;
      filed_is = is;
      moving = unfixed binding (ap (λ (r : Row Binding). is_some r.end) (sym is) ∙ kept.1);
    }
  where
    chosen : (one : Row Binding) (test : Bool) → is_some one.end ≡ test → (if test then Some one else None) ≡ Some row → (Some one ≡ Some row)
        × (is_some row.end ≡ true)
    chosen one true e same = (same, ap (λ (r : Row Binding). is_some r.end) (sym (same_Some _ _ same)) ∙ e)
    chosen one false e same = cc

    from : (o : Option (Row Binding)) → row_of number (map filed entries) ≡ o → option_and_then ending o ≡ Some row
        → (row_of number (map filed entries) ≡ Some row) × (is_some row.end ≡ true)
    from None e same = cc
    from (Some one) e same = let kept = chosen one (is_some one.end) refl same in (e ∙ kept.0, kept.1)

-- the other bindings
abbrev pub others : Binding → List Binding → List Binding
others binding entries = filter (λ one. not (is_of_host binding.side binding.host.0 one)) entries

pub without_filed : (binding : Binding) (entries : List Binding) → without (filed binding).key (map filed entries)
    ≡ map filed (others binding entries)
without_filed binding [] = refl
without_filed binding (one ∷ rest) = elim (cases_Bool (is_of_host binding.side binding.host.0 one)) [
  | inl e ↦ rw (named binding.side binding.host.0 one ∙ e, e) (without_filed binding rest)
  | inr e ↦ rw (named binding.side binding.host.0 one ∙ e, e) (ap (λ more. filed one ∷ more) (without_filed binding rest))
]

-- a binding in the place of the one of its host
abbrev pub replaced : Binding → Binding → Binding
replaced binding one = cond (is_of_host binding.side binding.host.0 one) binding one

pub with_filed : (binding : Binding) (entries : List Binding) → with_row (filed binding) (map filed entries)
    ≡ map filed (map (replaced binding) entries)
with_filed binding [] = refl
with_filed binding (one ∷ rest) = elim (cases_Bool (is_of_host binding.side binding.host.0 one)) [
  | inl e ↦ rw (named binding.side binding.host.0 one ∙ e, e) (ap (λ more. filed binding ∷ more) (with_filed binding rest))
  | inr e ↦ rw (named binding.side binding.host.0 one ∙ e, e) (ap (λ more. filed one ∷ more) (with_filed binding rest))
]

lives_filed : (now : Moment) (binding : Binding) → lives now.0 (filed binding) ≡ is_live now binding
lives_filed now binding = elim (cases_Bool binding.fixed) [ inl e ↦ rw e refl | inr e ↦ rw e refl ]

pub living_filed : (now : Moment) (entries : List Binding) → living now.0 (map filed entries) ≡ map filed (filter (is_live now) entries)
living_filed now [] = refl
living_filed now (one ∷ rest) = elim (cases_Bool (is_live now one)) [
  | inl e ↦ rw (lives_filed now one ∙ e, e) (ap (λ more. filed one ∷ more) (living_filed now rest))
  | inr e ↦ rw (lives_filed now one ∙ e, e) (living_filed now rest)
]

-- a row that was taken out is that of a binding that ended
pub record HasEnded (now : Moment) (entries : List Binding) (rest : List (Row Binding)) (binding : Binding) : Type 0 where
  pub found : find (is_of_host binding.side binding.host.0) entries ≡ Some binding
  pub ended : is_live now binding ≡ false
  pub left : rest ≡ map filed (others binding entries)

pub has_ended : (now : Moment) (entries : List Binding) (rows rest : List (Row Binding)) (row : Row Binding) → rows ≡ map filed entries
    → row_of row.key rows ≡ Some row → lives now.0 row ≡ false → rest ≡ without row.key rows → HasEnded now entries rest row.value
has_ended now entries rows rest row kept there ended left =
    let binding = row.value in
    let is : row ≡ filed binding = found_is row.key entries row (ap (row_of row.key) (sym kept) ∙ there) in
    let key : row.key ≡ (filed binding).key = ap (λ (r : Row Binding). r.key) is in
    let found : option_map filed (find (is_of_host binding.side binding.host.0) entries) ≡ Some row =
    sym (found_filed binding.side binding.host.0 entries) ∙ ap (row_of (filed binding).key) (sym kept) ∙ ap (λ k. row_of k rows) (sym key) ∙ there
    in
    record {
      found = sym (value_filed _) ∙ ap (option_map (λ (r : Row Binding). r.value)) found;
      ended = sym (lives_filed now binding) ∙ ap (lives now.0) (sym is) ∙ ended;
      left = left ∙ ap (λ k. without k rows) key ∙ ap (without (filed binding).key) kept ∙ without_filed binding entries;
    }
