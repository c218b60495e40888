-- Fixed bindings, and others behind them.
use Rattle.std.proofs.Common.{◌≡◌, ℕ, ◌*◌, ◌<◌, ◌^◌, not, if◌then◌else◌, IfSome, IfNone, Bool, true, false, ◌==◌, nat_eq, List, [], ◌∷◌, ◌++◌, map, Option, Some, None, option_map, option_and_then, is_some, IsSome, IsSomeAnd, All, refl, sym, ap, ◌∙◌, subst, arith, inl, inr}
use Rattle.std.specs.Option.{option_or}
use Rattle.std.proofs.lemmas.Bool.{cases_Bool, eqb-true}
use Rattle.std.proofs.lemmas.Bool.Decides.{nat_tests}
use Rattle.std.proofs.lemmas.List.{append-nil, map-append}
use Rattle.std.proofs.lemmas.List.Elements.{filter-append, All-filter, All-head, All-map, All-nil, All-push, All-tail, All-weaker}
use Rattle.std.proofs.lemmas.List.Folds.{find-append}
use Rattle.std.proofs.lemmas.Option.{same_Some}
use Rattle.std.specs.Map.{lookup}
use Rattle.gate_base.proofs.Options.{or_none}
use Rattle.expiring_table.specs.declared.row.Row.{Row}
use Rattle.expiring_table.specs.Prelude.{IsTakenOut, Table, row_of, with_row, without, lives, living}
use Rattle.expiring_table.specs.Rows.{is_of}
use Rattle.expiring_table.proofs.Taken.{without_none, with_none}
use Rattle.binding_table.specs.declared.binding.Binding.{Binding}
use Rattle.binding_table.specs.Prelude.{all_rows, AreApart, ending, filed}
use Rattle.binding_table.specs.Inside.Entries.{fixed_row, HaveNoneOf}

-- ## Fixed rows

flip : (m n : ℕ) → nat_eq m n ≡ (n == m)
flip m n = grind (arith, nat_tests)

-- what is found among them
pub fixed_found : (key : ℕ) (entries : List (ℕ × Binding)) → lookup (nat_eq key) entries ≡ option_map (λ row. row.value)
    (row_of key (map fixed_row entries))
fixed_found key [] = refl
fixed_found key (entry ∷ rest) = elim (cases_Bool (entry.0 == key)) [
  | inl same_key ↦ rw (flip key entry.0 ∙ same_key, same_key) refl
  | inr other_key ↦ rw (flip key entry.0 ∙ other_key, other_key) (fixed_found key rest)
]

-- has no end
pub fixed_end : (key : ℕ) (entries : List (ℕ × Binding)) (row : Row Binding) → row_of key (map fixed_row entries) ≡ Some row → row.end ≡ None
fixed_end key [] row h = cc
fixed_end key (entry ∷ rest) row h = elim (cases_Bool (entry.0 == key)) [
  | inl same_key ↦ let same : Some (fixed_row entry) ≡ Some row = rw same_key at h in sym (ap (λ (r : Row Binding). r.end) (same_Some _ _ same))
  | inr other_key ↦ fixed_end key rest row (rw other_key at h)
]

pub fixed_live : (now : ℕ) (entries : List (ℕ × Binding)) → living now (map fixed_row entries) ≡ map fixed_row entries
fixed_live now [] = refl
fixed_live now (entry ∷ rest) = ap (λ (rows : List (Row Binding)). fixed_row entry ∷ rows) (fixed_live now rest)

-- ## Found in front or behind

pub found_behind : (key : ℕ) (front rows : List (Row Binding)) → row_of key front ≡ None → row_of key (front ++ rows) ≡ row_of key rows
found_behind key front rows none = find-append (is_of key) front rows ∙ ap (λ (o : Option (Row Binding)). option_or o (row_of key rows)) none

pub found_in_front : (key : ℕ) (front rows : List (Row Binding)) → row_of key rows ≡ None → row_of key (front ++ rows) ≡ row_of key front
found_in_front key front rows none = find-append (is_of key) front rows ∙ ap (λ (o : Option (Row Binding)). option_or (row_of key front) o) none
    ∙ or_none (row_of key front)

neither : (o p : Option (Row Binding)) → option_or o p ≡ None → (o ≡ None) × (p ≡ None)
neither None None h = (refl, refl)
neither None (Some row) h = cc
neither (Some row) p h = cc

pub none_in : (key : ℕ) (front rows : List (Row Binding)) → row_of key (front ++ rows) ≡ None → (row_of key front ≡ None) × (row_of key rows ≡ None)
none_in key front rows h = neither (row_of key front) (row_of key rows) (sym (find-append (is_of key) front rows) ∙ h)

-- a row with an end isn't fixed
pub record IsBehind (key : ℕ) (fixed rows : List (Row Binding)) : Type 0 where
  pub front : row_of key fixed ≡ None
  pub there : IsSome (row_of key rows)

pub ending_behind : (key : ℕ) (entries : List (ℕ × Binding)) (rows : List (Row Binding))
    → IsSomeAnd (row_of key (map fixed_row entries ++ rows)) (λ found. IsSome found.end) → IsBehind key (map fixed_row entries) rows
ending_behind key entries rows ends = from (row_of key (map fixed_row entries)) (row_of key rows) refl refl
    (subst (λ (o : Option (Row Binding)). IsSomeAnd o (λ found. IsSome found.end)) (find-append (is_of key) (map fixed_row entries) rows) ends)
  where
    from : (o p : Option (Row Binding)) → row_of key (map fixed_row entries) ≡ o → row_of key rows ≡ p
        → IsSomeAnd (option_or o p) (λ found. IsSome found.end) → IsBehind key (map fixed_row entries) rows
    from None None f r h = absurd h
    from None (Some row) f r h = record { front = f; there = ap is_some r }
    from (Some row) p f r h = let none = fixed_end key entries row f in cc

-- what is found has what all have
found_has : (P : Row Binding → Type 0) (key : ℕ) (rows : List (Row Binding)) (row : Row Binding) → All P rows → row_of key rows ≡ Some row → P row
found_has P key [] row all h = cc
found_has P key (one ∷ rest) row all h = elim (cases_Bool (one.key == key)) [
  | inl same_key ↦ let same : Some one ≡ Some row = rw same_key at h in subst P (same_Some _ _ same) (All-head P one rest all)
  | inr other_key ↦ found_has P key rest row (All-tail P one rest all) (rw other_key at h)
]

pub located : (key : ℕ) (fixed : List (Row Binding)) (moving : Table Binding) (row : Row Binding) → AreApart fixed moving
    → row_of key moving.rows ≡ Some row → Some row ≡ option_and_then ending (row_of key (fixed ++ moving.rows))
located key fixed moving row are h =
    let front = are.apart key (ap is_some h) in
    let ends = found_has (λ one. IsSome one.end) key moving.rows row are.ends h in
    let own : ending row ≡ Some row = rw ends refl in
    sym (ap (option_and_then ending) (found_behind key fixed moving.rows front ∙ h) ∙ own)

pub not_located : (key : ℕ) (entries : List (ℕ × Binding)) (rows : List (Row Binding)) → row_of key rows ≡ None
    → None ≡ option_and_then ending (row_of key (map fixed_row entries ++ rows))
not_located key entries rows h = from (row_of key (map fixed_row entries)) refl
    ∙ sym (ap (option_and_then ending) (found_in_front key (map fixed_row entries) rows h))
  where
    from : (o : Option (Row Binding)) → row_of key (map fixed_row entries) ≡ o → None ≡ option_and_then ending (row_of key (map fixed_row entries))
    from None e = rw e refl
    from (Some row) e = let none = fixed_end key entries row e in rw e (rw none refl)

-- ## Numbers that stay apart

pub apart_push : (fixed : List (Row Binding)) (moving new : Table Binding) (row : Row Binding) → AreApart fixed moving → row_of row.key fixed ≡ None
    → IsSome row.end → new ≡ record moving { rows = moving.rows ++ row ∷ [] } → AreApart fixed new
apart_push fixed moving new row are none end is = subst (AreApart fixed) (sym is) (record {
  apart = apart;
  ends = All-push (λ one. IsSome one.end) moving.rows row are.ends end;
  few = are.few;
})
  where
    apart : HaveNoneOf fixed (moving.rows ++ row ∷ [])
    apart key there = elim (cases_Bool (row.key == key)) [
      | inl same_key ↦ subst (λ (k : ℕ). row_of k fixed ≡ None) (eqb-true row.key key same_key) none
      | inr other_key ↦
          let behind : row_of key (row ∷ []) ≡ None = rw other_key refl in
          are.apart key (subst (λ (o : Option (Row Binding)). IsSome o) (found_in_front key moving.rows (row ∷ []) behind) there)
    ]

some_with : (new : Row Binding) (key : ℕ) (rows : List (Row Binding)) → is_some (row_of key (with_row new rows)) ≡ is_some (row_of key rows)
some_with new key [] = refl
some_with new key (row ∷ rest) = elim (cases_Bool (row.key == new.key)) [
  | inl same_key ↦
      let same : (row.key == key) ≡ (new.key == key) = ap (λ (k : ℕ). k == key) (eqb-true row.key new.key same_key) in
      elim (cases_Bool (new.key == key)) [
        | inl a ↦ rw (same_key, a, same ∙ a) refl
        | inr b ↦ rw (same_key, b, same ∙ b) (some_with new key rest)
      ]
  | inr other_key ↦ elim (cases_Bool (row.key == key)) [
    | inl a ↦ rw (other_key, a) refl
    | inr b ↦ rw (other_key, b) (some_with new key rest)
  ]
]

ends_with : (new : Row Binding) (rows : List (Row Binding)) → All (λ row. IsSome row.end) rows → IsSome new.end
    → All (λ row. IsSome row.end) (with_row new rows)
ends_with new rows ends end =
    All-map (λ (row : Row Binding). IsSome row.end) (λ row. if is_of new.key row then new else row) rows
    (All-weaker (λ (row : Row Binding). IsSome row.end) (λ row. IsSome (if is_of new.key row then new else row).end)
    (λ row h. chosen (is_of new.key row) row h) rows ends)
  where
    chosen : (test : Bool) (row : Row Binding) → IsSome row.end → IsSome (if test then new else row).end
    chosen true row h = end
    chosen false row h = h

pub apart_with : (fixed : List (Row Binding)) (moving new : Table Binding) (row : Row Binding) → AreApart fixed moving → IsSome row.end
    → new ≡ record moving { rows = with_row row moving.rows } → AreApart fixed new
apart_with fixed moving new row are end is = subst (AreApart fixed) (sym is) (record {
  apart = λ key there. are.apart key (sym (some_with row key moving.rows) ∙ there);
  ends = ends_with row moving.rows are.ends end;
  few = are.few;
})

-- the row in its place among all
pub set_behind : (fixed : List (Row Binding)) (moving new : Table Binding) (row : Row Binding) → row_of row.key fixed ≡ None
    → new ≡ record moving { rows = with_row row moving.rows } → all_rows fixed new
    ≡ record { most = moving.most; rows = with_row row (fixed ++ moving.rows) }
set_behind fixed moving new row none is =
    ap (all_rows fixed) is
    ∙ ap (λ (rows : List (Row Binding)). let all : Table Binding = record { most = moving.most; rows = rows ++ with_row row moving.rows } in all)
    (sym (with_none row fixed none))
    ∙ ap (λ (rows : List (Row Binding)). let all : Table Binding = record { most = moving.most; rows = rows } in all)
    (sym (map-append (λ one. if is_of row.key one then row else one) fixed moving.rows))

some_without : (gone key : ℕ) (rows : List (Row Binding)) → IsSome (row_of key (without gone rows)) → IsSome (row_of key rows)
some_without gone key [] h = h
some_without gone key (row ∷ rest) h = elim (cases_Bool (row.key == key)) [
  | inl a ↦ rw a refl
  | inr b ↦ rw b (elim (cases_Bool (row.key == gone)) [
    | inl same_key ↦ some_without gone key rest (rw same_key at h)
    | inr other_key ↦ some_without gone key rest (rw (other_key, b) at h)
  ])
]

-- where a row may have been taken out
pub apart_ended : (o : Option (Row Binding)) (now : ℕ) (fixed : List (Row Binding)) (moving new : Table Binding) → AreApart fixed moving
    → IfSome o (IsTakenOut now moving new) → IfNone o (new ≡ moving) → AreApart fixed new
apart_ended None now fixed moving new are some none = subst (AreApart fixed) (sym none) are
apart_ended (Some row) now fixed moving new are some none = record {
  apart = λ key there. are.apart key
      (some_without row.key key moving.rows (subst (λ (rows : List (Row Binding)). IsSome (row_of key rows)) some.1.rest there));
  ends = subst (λ (rows : List (Row Binding)). All (λ one. IsSome one.end) rows) (sym some.1.rest)
      (All-filter (λ one. not (is_of row.key one)) (λ one. IsSome one.end) moving.rows are.ends);
  few = subst (λ (most : ℕ). 2 * most < 2 ^ 32) (sym some.0) are.few;
}

-- it was taken out of all
pub ended_behind : (o : Option (Row Binding)) (now : ℕ) (fixed : List (Row Binding)) (moving new : Table Binding) → AreApart fixed moving
    → IfSome o (IsTakenOut now moving new) → IfSome o (IsTakenOut now (all_rows fixed moving) (all_rows fixed new))
ended_behind None now fixed moving new are some = tt
ended_behind (Some row) now fixed moving new are some =
    let front = are.apart row.key (ap is_some some.1.there) in (
      some.0,
      record {
        there = found_behind row.key fixed moving.rows front ∙ some.1.there;
        ended = some.1.ended;
        rest = ap (λ (rows : List (Row Binding)). fixed ++ rows) some.1.rest ∙ ap (λ (rows : List (Row Binding)). rows ++ without row.key moving.rows)
            (sym (without_none row.key fixed front))
            ∙ sym (filter-append (λ one. not (is_of row.key one)) fixed moving.rows);
      },
    )

pub live_behind : (o : Option (Row Binding)) (now : ℕ) (entries : List (ℕ × Binding)) (rows : List (Row Binding)) → IfNone o (living now rows ≡ rows)
    → IfNone o (living now (map fixed_row entries ++ rows) ≡ map fixed_row entries ++ rows)
live_behind None now entries rows live =
    filter-append (lives now) (map fixed_row entries) rows ∙ ap (λ (front : List (Row Binding)). front ++ living now rows) (fixed_live now entries)
    ∙ ap (λ (behind : List (Row Binding)). map fixed_row entries ++ behind) live
live_behind (Some row) now entries rows live = tt

-- ## Fixed bindings that are put in

-- where no row ends, all are fixed
all_behind : (front rows : List (Row Binding)) → All (λ row. row.end ≡ None) (front ++ rows) → All (λ row. row.end ≡ None) rows
all_behind [] rows h = h
all_behind (row ∷ front) rows h = all_behind front rows (All-tail (λ one. one.end ≡ None) row (front ++ rows) h)

none_ending : (rows : List (Row Binding)) → All (λ row. row.end ≡ None) rows → All (λ row. IsSome row.end) rows → rows ≡ []
none_ending [] none ends = refl
none_ending (row ∷ rest) none ends = let a = All-head (λ one. one.end ≡ None) row rest none in
    let b = All-head (λ one. IsSome one.end) row rest ends in cc

pub only_fixed : (front rows : List (Row Binding)) → All (λ row. row.end ≡ None) (front ++ rows) → All (λ row. IsSome row.end) rows → rows ≡ []
only_fixed front rows none ends = none_ending rows (all_behind front rows none) ends

pub apart_none : (fixed : List (Row Binding)) (moving : Table Binding) → moving.rows ≡ [] → 2 * moving.most < 2 ^ 32 → AreApart fixed moving
apart_none fixed moving none few = record {
  apart = λ key there. cc (rw none at there);
  ends = subst (λ (rows : List (Row Binding)). All (λ row. IsSome row.end) rows) (sym none) (All-nil (λ row. IsSome row.end));
  few = few;
}

row_is : (key : ℕ) (binding : Binding) → key ≡ (filed binding).key → binding.fixed ≡ true → fixed_row (key, binding) ≡ filed binding
row_is key binding is fixed =
    let none : (filed binding).end ≡ None = rw fixed refl in
    ap (λ (k : ℕ). fixed_row (k, binding)) is
    ∙ ap (λ (end : Option ℕ). let row : Row Binding = record { key = (filed binding).key; end = end; value = binding } in row) (sym none)

pub fixed_push : (entries new : List (ℕ × Binding)) (moving : Table Binding) (key : ℕ) (binding : Binding) → new ≡ entries ++ (key, binding) ∷ []
    → key ≡ (filed binding).key → binding.fixed ≡ true → moving.rows ≡ []
    → all_rows (map fixed_row new) moving ≡ record { most = moving.most; rows = (map fixed_row entries ++ moving.rows) ++ filed binding ∷ [] }
fixed_push entries new moving key binding is key_is fixed none =
    let old = map fixed_row entries in
    let front : map fixed_row new ≡ old ++ filed binding ∷ [] = ap (map fixed_row) is ∙ map-append fixed_row entries ((key, binding) ∷ [])
    ∙ ap (λ (row : Row Binding). old ++ row ∷ []) (row_is key binding key_is fixed) in
    let nothing : (rows : List (Row Binding)) → rows ++ moving.rows ≡ rows = λ rows. ap (λ (behind : List (Row Binding)). rows ++ behind) none
    ∙ append-nil rows in
    ap (λ (rows : List (Row Binding)). let all : Table Binding = record { most = moving.most; rows = rows } in all)
    (nothing (map fixed_row new) ∙ front ∙ ap (λ (rows : List (Row Binding)). rows ++ filed binding ∷ []) (sym (nothing old)))

-- a fixed binding that isn't there
pub not_there : (key : ℕ) (entries : List (ℕ × Binding)) → row_of key (map fixed_row entries) ≡ None → lookup (nat_eq key) entries ≡ None
not_there key entries none = fixed_found key entries ∙ ap (option_map (λ (row : Row Binding). row.value)) none
