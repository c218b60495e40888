-- Connections under numbers.
use Rattle.std.proofs.Common.{if◌then◌else◌, ◌≡◌, inl, inr, ℕ, suc, ◌+◌, ◌*◌, ◌^◌, ◌<◌, Bool, true, false, cond, nat_lt, ◌==◌, ◌&&◌, is_some, IsSome, List, [], ◌∷◌, ◌++◌, length, map, position, slice_get, Option, Some, None, IfSome, option_map, option_and_then, refl, ap, sym, ◌∙◌, subst, arith}
use Rattle.std.specs.List.{find, position_or_len, All}
use Rattle.std.proofs.lemmas.Bool.{eq-eqb, eqb-true, cases_Bool, ltb-false, ltb-true, lt-ltb, le-ltb, false_from_ne_true}
use Rattle.std.proofs.lemmas.Bool.Decides.{eqb_tells}
use Rattle.std.proofs.lemmas.List.Elements.{All-head, All-tail, All-nil, All-cons}
use Rattle.std.proofs.lemmas.List.Folds.{find_at}
use Rattle.std.proofs.lemmas.Option.{none-some, slice_get_past}
use Rattle.expiring_table.specs.declared.row.Row.{Row}
use Rattle.expiring_table.specs.Prelude.{row_of, with_row, without, AreDistinct}
use Rattle.expiring_table.proofs.Taken.{without_none, with_none}
use Rattle.tcp_tracker.specs.declared.connection.ConnKey.{ConnKey}
use Rattle.tcp_tracker.specs.declared.connection.Connection.{Connection}
use Rattle.gate_base.specs.declared.event.Moment.{Moment}
use Rattle.gate_base.specs.declared.side.Side.{Side}
use Rattle.gate_base.specs.declared.side.Side.TheVariants.{Left, Right}
use Rattle.gate_base.proofs.Options.{some_mapped}
use Rattle.tcp_segments.specs.Prelude.{flags_of}
use Rattle.tcp_tracker.specs.Prelude.{is_of, place_of, connection_of, AreNamedOnce, changed, after, held, with_flags, unused, is_reset, starts_anew, timeout_or_short, kept, kept_or_begun, IsFiled}
use Rattle.tcp_tracker.specs.Inside.Filed.{IsKey, number_of, filed}

-- ## Names and numbers

abbrev pub connections_in : List (Row (Connection ℕ)) → List (Connection ℕ)
connections_in rows = map (λ row. row.value) rows

pub record AreSame (a b : ConnKey) : Type 0 where
  pub left : a.left.0 ≡ b.left.0
  pub left_port : a.left_port ≡ b.left_port
  pub right : a.right.0 ≡ b.right.0
  pub right_port : a.right_port ≡ b.right_port

split : (high low high' low' : ℕ) → low < 2 ^ 16 → low' < 2 ^ 16 → high * 2 ^ 16 + low ≡ high' * 2 ^ 16 + low' → (high ≡ high') × (low ≡ low')
split high low high' low' a b e = (omega arith, omega arith)

halve : (high low high' low' : ℕ) → low < 2 ^ 48 → low' < 2 ^ 48 → high * 2 ^ 48 + low ≡ high' * 2 ^ 48 + low' → (high ≡ high') × (low ≡ low')
halve high low high' low' a b e = (omega arith, omega arith)

short : (high low : ℕ) → high < 2 ^ 32 → low < 2 ^ 16 → high * 2 ^ 16 + low < 2 ^ 48
short high low a b = omega arith

same_from_number : (a b : ConnKey) → IsKey a → IsKey b → number_of a ≡ number_of b → AreSame a b
same_from_number a b p q e =
    let halves = halve (a.left.0 * 2 ^ 16 + a.left_port) (a.right.0 * 2 ^ 16 + a.right_port) (b.left.0 * 2 ^ 16 + b.left_port)
    (b.right.0 * 2 ^ 16 + b.right_port) (short a.right.0 a.right_port p.right p.right_port) (short b.right.0 b.right_port q.right q.right_port)
    e in
    let first = split a.left.0 a.left_port b.left.0 b.left_port p.left_port q.left_port (halves.0) in
    let second = split a.right.0 a.right_port b.right.0 b.right_port p.right_port q.right_port (halves.1) in
    record { left = first.0; left_port = first.1; right = second.0; right_port = second.1 }

number_from_same : (a b : ConnKey) → AreSame a b → number_of a ≡ number_of b
number_from_same a b e = omega (arith, e.left, e.left_port, e.right, e.right_port)

and_all : (a b c d : Bool) → a ≡ true → b ≡ true → c ≡ true → d ≡ true → (((a && b) && c) && d) ≡ true
and_all a b c d p q r s = rw (p, q, r, s) refl

and_parts : (a b c d : Bool) → (((a && b) && c) && d) ≡ true → (a ≡ true) × (b ≡ true) × (c ≡ true) × (d ≡ true)
and_parts true true true true e = (refl, refl, refl, refl)
and_parts true true true false e = let bad : ⊥ = cc in absurd bad
and_parts true true false d e = let bad : ⊥ = cc in absurd bad
and_parts true false c d e = let bad : ⊥ = cc in absurd bad
and_parts false b c d e = let bad : ⊥ = cc in absurd bad

same_from_is_of : (key : ConnKey) (c : Connection ℕ) → is_of key c ≡ true → AreSame c.key key
same_from_is_of key c is =
    let parts = and_parts (c.key.left.0 == key.left.0) (c.key.left_port == key.left_port) (c.key.right.0 == key.right.0)
    (c.key.right_port == key.right_port) is in
    record {
      left = eqb-true c.key.left.0 key.left.0 (parts.0);
      left_port = eqb-true c.key.left_port key.left_port (parts.1);
      right = eqb-true c.key.right.0 key.right.0 (parts.2);
      right_port = eqb-true c.key.right_port key.right_port (parts.3);
    }

is_of_from_same : (key : ConnKey) (c : Connection ℕ) → AreSame c.key key → is_of key c ≡ true
is_of_from_same key c e =
    and_all (c.key.left.0 == key.left.0) (c.key.left_port == key.left_port) (c.key.right.0 == key.right.0) (c.key.right_port == key.right_port)
    (eq-eqb c.key.left.0 key.left.0 e.left) (eq-eqb c.key.left_port key.left_port e.left_port) (eq-eqb c.key.right.0 key.right.0 e.right)
    (eq-eqb c.key.right_port key.right_port e.right_port)

-- the name and the number tell the same connection
pub named : (key : ConnKey) (row : Row (Connection ℕ)) → IsKey key → IsFiled row → is_of key row.value ≡ (row.key == number_of key)
named key row k f =
    elim (eqb_tells row.key (number_of key)) [
      | inl h ↦ is_of_from_same key row.value (same_from_number row.value.key key f.key k (sym f.number ∙ h.1)) ∙ sym (h.0)
      | inr h ↦ false_from_ne_true (is_of key row.value)
          (λ is. h.1 (f.number ∙ number_from_same row.value.key key (same_from_is_of key row.value is))) ∙ sym (h.0)
    ]

abbrev key_with : ℕ → ℕ → ℕ → ℕ → ConnKey
key_with left left_port right right_port =
    record { left = record { 0 = left }; left_port = left_port; right = record { 0 = right }; right_port = right_port }

key_from_same : (a b : ConnKey) → AreSame a b → a ≡ b
key_from_same a b e =
    ap (λ one. key_with one a.left_port a.right.0 a.right_port) e.left ∙ ap (λ one. key_with b.left.0 one a.right.0 a.right_port) e.left_port
    ∙ ap (λ one. key_with b.left.0 b.left_port one a.right_port) e.right ∙ ap (λ one. key_with b.left.0 b.left_port b.right.0 one) e.right_port

-- ## Look-ups

pub find_by_place : {X : Type 0} (p : X → Bool) (xs : List X) → option_and_then (slice_get xs) (position p xs) ≡ find p xs
find_by_place {X} p xs =
    elim (cases_Bool (nat_lt (position_or_len p xs) (length xs))) [
      | inl e ↦ rw e (sym (find_at p xs))
      | inr e ↦ rw e (sym (find_at p xs ∙ slice_get_past xs (position_or_len p xs) (ltb-false (position_or_len p xs) (length xs) e)))
    ]

find_named : (key : ConnKey) (rows : List (Row (Connection ℕ))) → IsKey key → All IsFiled rows
    → find (is_of key) (connections_in rows) ≡ option_map (λ row. row.value) (row_of (number_of key) rows)
find_named key [] k all = refl
find_named key (row ∷ rows) k all =
    let same = named key row k (All-head IsFiled row rows all) in
    elim (cases_Bool (row.key == number_of key)) [
      | inl e ↦ rw (same ∙ e) (rw e refl)
      | inr e ↦ rw (same ∙ e) (rw e (find_named key rows k (All-tail IsFiled row rows all)))
    ]

pub found_named : (key : ConnKey) (rows : List (Row (Connection ℕ))) → IsKey key → All IsFiled rows
    → connection_of key (connections_in rows) ≡ option_map (λ row. row.value) (row_of (number_of key) rows)
found_named key rows k all = find_by_place (is_of key) (connections_in rows) ∙ find_named key rows k all

-- ## Places

position_here : {X : Type 0} (p : X → Bool) (x : X) (xs : List X) → p x ≡ true → position p (x ∷ xs) ≡ Some 0
position_here p x xs e = rw e (rw (lt-ltb 0 (length (x ∷ xs)) (omega arith)) refl)

position_later : {X : Type 0} (p : X → Bool) (x : X) (xs : List X) → p x ≡ false → position p (x ∷ xs) ≡ option_map suc (position p xs)
position_later {X} p x xs e =
    let now : position_or_len p (x ∷ xs) ≡ suc (position_or_len p xs) = rw e (omega arith) in
    elim (cases_Bool (nat_lt (position_or_len p xs) (length xs))) [
      | inl t ↦
          let within : nat_lt (position_or_len p (x ∷ xs)) (length (x ∷ xs)) ≡ true =
          lt-ltb (position_or_len p (x ∷ xs)) (length (x ∷ xs)) (omega (arith, ltb-true (position_or_len p xs) (length xs) t)) in
          ap (λ b. cond b (Some (position_or_len p (x ∷ xs))) None) within ∙ ap Some now
          ∙ sym (ap (λ b. option_map suc (cond b (Some (position_or_len p xs)) None)) t)
      | inr f ↦
          let past : nat_lt (position_or_len p (x ∷ xs)) (length (x ∷ xs)) ≡ false =
          le-ltb (position_or_len p (x ∷ xs)) (length (x ∷ xs)) (omega (arith, ltb-false (position_or_len p xs) (length xs) f)) in
          ap (λ b. cond b (Some (position_or_len p (x ∷ xs))) None) past
          ∙ sym (ap (λ b. option_map suc (cond b (Some (position_or_len p xs)) None)) f)
    ]

-- the connections behind the first change
changed_later : (first : Connection ℕ) (rest : List (Connection ℕ)) (place : Option ℕ) (next : Option (Connection ℕ))
    → changed (first ∷ rest) (option_map suc place) next ≡ first ∷ changed rest place next
changed_later first rest None None = refl
changed_later first rest None (Some next) = refl
changed_later first rest (Some place) None = refl
changed_later first rest (Some place) (Some next) = refl

changed_at : (first : Connection ℕ) (rest : List (Connection ℕ)) (key : ConnKey) (next : Option (Connection ℕ)) → is_of key first ≡ false
    → changed (first ∷ rest) (place_of key (first ∷ rest)) next ≡ first ∷ changed rest (place_of key rest) next
changed_at first rest key next other = ap (λ place. changed (first ∷ rest) place next) (position_later (is_of key) first rest other)
    ∙ changed_later first rest (place_of key rest) next

changed_here : (first : Connection ℕ) (rest : List (Connection ℕ)) (key : ConnKey) (next : Option (Connection ℕ)) → is_of key first ≡ true
    → changed (first ∷ rest) (place_of key (first ∷ rest)) next ≡ changed (first ∷ rest) (Some 0) next
changed_here first rest key next same = ap (λ place. changed (first ∷ rest) place next) (position_here (is_of key) first rest same)

-- the rest has no row with the key of the first
rest_none : (key : ConnKey) (row : Row (Connection ℕ)) (rows : List (Row (Connection ℕ))) → AreDistinct (row ∷ rows)
    → (row.key == number_of key) ≡ true → row_of (number_of key) rows ≡ None
rest_none key row rows distinct is =
    let P : ℕ → Type 0 = λ number. row_of number rows ≡ None in subst P (eqb-true row.key (number_of key) is) (distinct.0)

pub dropped_named : (key : ConnKey) (rows : List (Row (Connection ℕ))) → IsKey key → All IsFiled rows → AreDistinct rows
    → connections_in (without (number_of key) rows) ≡ changed (connections_in rows) (place_of key (connections_in rows)) None
dropped_named key [] k all distinct = refl
dropped_named key (row ∷ rows) k all distinct =
    let same = named key row k (All-head IsFiled row rows all) in
    elim (cases_Bool (row.key == number_of key)) [
      | inl e ↦ rw e (ap connections_in (without_none (number_of key) rows (rest_none key row rows distinct e))
          ∙ sym (changed_here row.value (connections_in rows) key None (same ∙ e)))
      | inr e ↦ rw e (ap (λ more. row.value ∷ more) (dropped_named key rows k (All-tail IsFiled row rows all) (distinct.1))
          ∙ sym (changed_at row.value (connections_in rows) key None (same ∙ e)))
    ]

-- the connection is there where its row is
pub there_named : (key : ConnKey) (rows : List (Row (Connection ℕ))) → IsKey key → All IsFiled rows
    → is_some (connection_of key (connections_in rows)) ≡ is_some (row_of (number_of key) rows)
there_named key rows k all = ap is_some (found_named key rows k all) ∙ some_mapped (λ row. row.value) (row_of (number_of key) rows)

-- the row of a connection has the number of its name
number_in : (key : ConnKey) (next : Connection ℕ) (row : Row (Connection ℕ)) → row ≡ filed next → next.key ≡ key → row.key ≡ number_of key
number_in key next row is name = ap (λ (one : Row (Connection ℕ)). one.key) is ∙ ap number_of name

key_in : (key : ConnKey) (next : Connection ℕ) (row : Row (Connection ℕ)) → row ≡ filed next → IsFiled row → next.key ≡ key → IsKey key
key_in key next row is f name =
    let P : ConnKey → Type 0 = λ one. IsKey one in subst P (ap (λ (one : Row (Connection ℕ)). one.value.key) is ∙ name) f.key

-- whether a row is there that has the number of a name
pub row_there : (key : ConnKey) (next : Connection ℕ) (row : Row (Connection ℕ)) (rows : List (Row (Connection ℕ))) (all : List (Connection ℕ))
    (there : Bool) → row ≡ filed next → IsFiled row → next.key ≡ key → All IsFiled rows → connections_in rows ≡ all
    → there ≡ is_some (connection_of key all) → is_some (row_of row.key rows) ≡ there
row_there key next row rows all there is f name every same told =
    ap (λ number. is_some (row_of number rows)) (number_in key next row is name) ∙ sym (there_named key rows (key_in key next row is f name) every)
    ∙ ap (λ one. is_some (connection_of key one)) same ∙ sym told

pub set_named : (key : ConnKey) (rows : List (Row (Connection ℕ))) (next : Connection ℕ) → IsKey key → All IsFiled rows → AreDistinct rows
    → next.key ≡ key → IsSome (row_of (number_of key) rows) → connections_in (with_row (filed next) rows) ≡ changed (connections_in rows)
    (place_of key (connections_in rows)) (Some next)
set_named key [] next k all distinct name there = absurd (let bad : ⊥ = cc in bad)
set_named key (row ∷ rows) next k all distinct name there =
    let same = named key row k (All-head IsFiled row rows all) in
    let number : number_of next.key ≡ number_of key = ap number_of name in
    elim (cases_Bool (row.key == number_of key)) [
      | inl e ↦
          let here : (row.key == number_of next.key) ≡ true = ap (λ one. row.key == one) number ∙ e in
          let P : ℕ → Type 0 = λ one. row_of one rows ≡ None in
          rw here (ap (λ more. next ∷ connections_in more) (with_none (filed next) rows (subst P (sym number) (rest_none key row rows distinct e)))
          ∙ sym (changed_here row.value (connections_in rows) key (Some next) (same ∙ e)))
      | inr e ↦
          let here : (row.key == number_of next.key) ≡ false = ap (λ one. row.key == one) number ∙ e in
          let rest : row_of (number_of key) (row ∷ rows) ≡ row_of (number_of key) rows = rw e refl in
          rw here (ap (λ more. row.value ∷ more)
          (set_named key rows next k (All-tail IsFiled row rows all) (distinct.1) name (ap is_some (sym rest) ∙ there))
          ∙ sym (changed_at row.value (connections_in rows) key (Some next) (same ∙ e)))
    ]

pub place_none : (key : ConnKey) (rows : List (Row (Connection ℕ))) → IsKey key → All IsFiled rows → row_of (number_of key) rows ≡ None
    → place_of key (connections_in rows) ≡ None
place_none key [] k all none = refl
place_none key (row ∷ rows) k all none =
    let same = named key row k (All-head IsFiled row rows all) in
    elim (cases_Bool (row.key == number_of key)) [
      | inl e ↦ let found : row_of (number_of key) (row ∷ rows) ≡ Some row = rw e refl in absurd (none-some row (sym none ∙ found))
      | inr e ↦
          let rest : row_of (number_of key) (row ∷ rows) ≡ row_of (number_of key) rows = rw e refl in
          position_later (is_of key) row.value (connections_in rows) (same ∙ e)
          ∙ ap (option_map suc) (place_none key rows k (All-tail IsFiled row rows all) (sym rest ∙ none))
    ]

-- a row takes the place of the one with its number
pub set_in : (key : ConnKey) (next : Connection ℕ) (row : Row (Connection ℕ)) (rows : List (Row (Connection ℕ))) → row ≡ filed next → IsFiled row
    → next.key ≡ key → All IsFiled rows → AreDistinct rows → IsSome (row_of row.key rows)
    → connections_in (with_row row rows) ≡ changed (connections_in rows) (place_of key (connections_in rows)) (Some next)
set_in key next row rows is f name all distinct there =
    ap (λ one. connections_in (with_row one rows)) is
    ∙ set_named key rows next (key_in key next row is f name) all distinct name
    (ap (λ number. is_some (row_of number rows)) (sym (number_in key next row is name)) ∙ there)

pushed_named : (rows : List (Row (Connection ℕ))) (next : Connection ℕ) → connections_in (rows ++ filed next ∷ []) ≡ connections_in rows ++ next ∷ []
pushed_named [] next = refl
pushed_named (row ∷ rows) next = ap (λ more. row.value ∷ more) (pushed_named rows next)

pub nowhere : (key : ConnKey) (next : Connection ℕ) (row : Row (Connection ℕ)) (rows : List (Row (Connection ℕ))) → row ≡ filed next → IsFiled row
    → next.key ≡ key → All IsFiled rows → row_of row.key rows ≡ None → place_of key (connections_in rows) ≡ None
nowhere key next row rows is f name every none =
    place_none key rows (key_in key next row is f name) every (ap (λ number. row_of number rows) (sym (number_in key next row is name)) ∙ none)

-- a row with a new number stands behind the others
pub push_in : (key : ConnKey) (next : Connection ℕ) (row : Row (Connection ℕ)) (rows : List (Row (Connection ℕ))) → row ≡ filed next
    → place_of key (connections_in rows) ≡ None → connections_in (rows ++ row ∷ []) ≡ changed (connections_in rows)
    (place_of key (connections_in rows)) (Some next)
push_in key next row rows is none =
    ap (λ one. connections_in (rows ++ one ∷ [])) is ∙ pushed_named rows next
    ∙ ap (λ place. changed (connections_in rows) place (Some next)) (sym none)

-- ## What stays filed

one_of : (row new : Row (Connection ℕ)) (b : Bool) → IsFiled row → IsFiled new → IsFiled (cond b new row)
one_of row new true f g = g
one_of row new false f g = f

pub filed_set : (new : Row (Connection ℕ)) (rows : List (Row (Connection ℕ))) → IsFiled new → All IsFiled rows → All IsFiled (with_row new rows)
filed_set new [] is all = All-nil IsFiled
filed_set new (row ∷ rows) is all =
    All-cons IsFiled (cond (row.key == new.key) new row) (with_row new rows) (one_of row new (row.key == new.key) (All-head IsFiled row rows all) is)
    (filed_set new rows is (All-tail IsFiled row rows all))

name_in : (key : ConnKey) (all : List (Connection ℕ)) → IfSome (find (is_of key) all) (λ c. c.key ≡ key)
name_in key [] = tt
name_in key (c ∷ all) =
    let P : Option (Connection ℕ) → Type 0 = λ found. IfSome found (λ c. c.key ≡ key) in
    elim (cases_Bool (is_of key c)) [
      | inl e ↦ let q : find (is_of key) (c ∷ all) ≡ Some c = rw e refl in subst P (sym q) (key_from_same c.key key (same_from_is_of key c e))
      | inr e ↦ let q : find (is_of key) (c ∷ all) ≡ find (is_of key) all = rw e refl in subst P (sym q) (name_in key all)
    ]

-- the connection that is found has the name
pub name_of_found : (key : ConnKey) (all : List (Connection ℕ)) → IfSome (connection_of key all) (λ c. c.key ≡ key)
name_of_found key all = let P : Option (Connection ℕ) → Type 0 = λ found. IfSome found (λ c. c.key ≡ key) in
    subst P (sym (find_by_place (is_of key) all)) (name_in key all)

name_flags : (key : ConnKey) (from : Side) (flags : ℕ) (c : Connection ℕ) → c.key ≡ key → (with_flags from flags c).key ≡ key
name_flags key Left flags c is = is
name_flags key Right flags c is = is

name_begun : (key : ConnKey) (from : Side) (now : Moment) (reset : Bool) (c : Connection ℕ) (flags : ℕ) → c.key ≡ key
    → IfSome (option_map (λ c. held now (with_flags from flags c)) (cond reset None (Some c))) (λ c. c.key ≡ key)
name_begun key from now true c flags is = tt
name_begun key from now false c flags is = name_flags key from flags c is

name_kept : (key : ConnKey) (from : Side) (now : Moment) (reset anew : Bool) (c : Connection ℕ) (flags : ℕ) → c.key ≡ key
    → IfSome (option_map (λ c. held now (with_flags from flags c)) (cond reset None (cond anew (Some (unused c.key None)) (Some c))))
    (λ c. c.key ≡ key)
name_kept key from now true anew c flags is = tt
name_kept key from now false true c flags is = name_flags key from flags (unused c.key None) is
name_kept key from now false false c flags is = name_flags key from flags c is

-- a segment leaves the name as it is
pub name_after : (key : ConnKey) (from : Side) (flags : ℕ) (session : Option ℕ) (now : Moment) (found : Option (Connection ℕ))
    → IfSome found (λ c. c.key ≡ key) → IfSome (after key from flags session now found) (λ c. c.key ≡ key)
name_after key from flags session now None is = name_begun key from now (flags_of flags).reset (unused key session) flags refl
name_after key from flags session now (Some c) is = name_kept key from now (is_reset flags c) (starts_anew flags c) c flags is

-- a connection is held as long, whenever it was noted, and whether or not it has a session
held_timeout : (from : Side) (flags : ℕ) (now : Moment) (next : Option (Connection ℕ))
    → timeout_or_short (option_map (λ c. held now (with_flags from flags c)) next) ≡ timeout_or_short (option_map (with_flags from flags) next)
held_timeout from flags now None = refl
held_timeout Left flags now (Some c) = refl
held_timeout Right flags now (Some c) = refl

abbrev begun : ConnKey → Option ℕ → Bool → Option (Connection ℕ)
begun key session reset = if reset then None else Some (unused key session)

begun_timeout : (key : ConnKey) (from : Side) (flags : ℕ) (session : Option ℕ) (reset : Bool)
    → timeout_or_short (option_map (with_flags from flags) (begun key session reset))
    ≡ timeout_or_short (option_map (with_flags from flags) (begun key None reset))
begun_timeout key from flags session true = refl
begun_timeout key Left flags session false = refl
begun_timeout key Right flags session false = refl

pub timeout_noted : (key : ConnKey) (from : Side) (flags : ℕ) (session : Option ℕ) (now : Moment) (found : Option (Connection ℕ))
    → timeout_or_short (after key from flags session now found)
    ≡ timeout_or_short (option_map (with_flags from flags) (kept_or_begun key flags None found))
timeout_noted key from flags session now None = held_timeout from flags now (kept_or_begun key flags session None)
    ∙ begun_timeout key from flags session (flags_of flags).reset
timeout_noted key from flags session now (Some c) = held_timeout from flags now (kept flags c)

pub named_once : (rows : List (Row (Connection ℕ))) → All IsFiled rows → AreDistinct rows → AreNamedOnce (connections_in rows)
named_once [] all distinct = tt
named_once (row ∷ rows) all distinct =
    let f = All-head IsFiled row rows all in
    let rest = All-tail IsFiled row rows all in
    let P : ℕ → Type 0 = λ number. row_of number rows ≡ None in
    (place_none row.value.key rows f.key rest (subst P f.number (distinct.0)), named_once rows rest (distinct.1))
