-- What the lists of a session rename stays bound while its connection lives.
use Rattle.std.proofs.Common.{◌≡◌, ◌≢◌, ◌≤◌, ◌<◌, ℕ, Bool, true, false, if◌then◌else◌, List, [], ◌∷◌, ◌++◌, length, map, get_or, All, IsSome, Option, Some, None, refl, sym, ◌∙◌, ap, subst, append_assoc, arith, inl, inr, length-append}
use Rattle.std.specs.List.{AllByRecursion}
use Rattle.std.proofs.lemmas.Bool.{cases_Bool}
use Rattle.std.proofs.lemmas.List.Elements.{All-nil, All-head, All-tail, All-cons, All-get_or}
use Rattle.std.proofs.lemmas.List.Sums.{fold-append}
use Rattle.gate_base.specs.Prelude.{other}
use Rattle.gate_base.specs.declared.address.Addr.{Addr}
use Rattle.gate_base.specs.declared.side.Side.{Side}
use Rattle.dialogue.specs.Prelude.{Entry, is_listed}
use Rattle.binding_table.specs.declared.binding.Crossing.{Crossing}
use Rattle.binding_table.specs.declared.binding.Crossing.TheVariants.{Same, Bound, New, Unbound, Empty}
use Rattle.binding_table.specs.Prelude.{Bindings, is_same, in_pool, free, seen, known_or, new_or_empty, pool_of, host_of, alias_of, IsLawful, Use, AreUsesOf, used, after_uses, unless_same, image_after, needed, fresh_after}
use Rattle.binding_table.specs.Bindings.{cross, pool_crossing, host_crossing}
use Rattle.binding_table.proofs.Fresh.{fresh_cons}
use Rattle.binding_table.proofs.Used.{all_seen}
use Rattle.gate_model.specs.Prelude.{IsImage, IsEntryBound, enter, entered, renamed_in, uses_until}
use Rattle.realm_pools.specs.Addresses.{least_free}
use Rattle.gate_model.proofs.BoundTables.{lawful_used, lawful_after}
use Rattle.gate_model.proofs.BoundUses.{use_of}
use Rattle.gate_model.proofs.ListsBound.{as_seen, as_differs, same_after, entries_later, entries_last, Crosses, use_crosses, all_cross_later}
use Rattle.gate_model.proofs.Entering.{all_append}

-- ## How many of the first addresses need a binding

fresh_front : (table : Bindings) (side : Side) (earlier xs ys : List Addr)
    → length (fresh_after table side earlier xs) ≤ length (fresh_after table side earlier (xs ++ ys))
fresh_front table side earlier [] ys = omega arith
fresh_front table side earlier (x ∷ xs) ys =
    omega (arith, fresh_cons table side earlier x xs, fresh_cons table side earlier x (xs ++ ys), fresh_front table side (earlier ++ x ∷ []) xs ys)

pub needed_front : (table : Bindings) (side : Side) (xs ys : List Addr) → needed table side xs ≤ needed table side (xs ++ ys)
needed_front table side xs ys = fresh_front table side [] xs ys

-- ## What is used in its order crosses, and for as long

pub uses_are : (side : Side) (until : ℕ) (addresses : List Addr) → AreUsesOf side addresses (uses_until side until addresses)
uses_are side until addresses = record { sides = sides addresses; each = each addresses }
  where
    sides : (xs : List Addr) → All (λ (one : Use). one.side ≡ side) (uses_until side until xs)
    sides [] = All-nil (λ (one : Use). one.side ≡ side)
    sides (x ∷ xs) = All-cons (λ (one : Use). one.side ≡ side) (use_of side x.0 until) (uses_until side until xs) refl (sides xs)

    each : (xs : List Addr) → map (λ (one : Use). one.address) (uses_until side until xs) ≡ xs
    each [] = refl
    each (x ∷ xs) = ap (λ (rest : List Addr). x ∷ rest) (each xs)

pub uses_append : (side : Side) (until : ℕ) (xs ys : List Addr)
    → uses_until side until (xs ++ ys) ≡ uses_until side until xs ++ uses_until side until ys
uses_append side until [] ys = refl
uses_append side until (x ∷ xs) ys = ap (λ (us : List Use). use_of side x.0 until ∷ us) (uses_append side until xs ys)

last_of : (xs : List Addr) (x d : Addr) → get_or (xs ++ x ∷ []) (length xs) d ≡ x
last_of [] x d = refl
last_of (y ∷ xs) x d = last_of xs x d

pub all_front : (P : Addr → Type 0) (xs ys : List Addr) → All P (xs ++ ys) → All P xs
all_front P [] ys h = All-nil P
all_front P (x ∷ xs) ys h = All-cons P x xs (All-head P x (xs ++ ys) h) (all_front P xs ys (All-tail P x (xs ++ ys) h))

-- the table after some first addresses
abbrev pub table_of : Bindings → Side → ℕ → List Addr → Bindings
table_of table side until addresses = after_uses table (uses_until side until addresses)

table_more : (table : Bindings) (side : Side) (until : ℕ) (xs ys : List Addr)
    → table_of table side until (xs ++ ys) ≡ after_uses (table_of table side until xs) (uses_until side until ys)
table_more table side until xs ys = ap (after_uses table) (uses_append side until xs ys)
    ∙ fold-append used table (uses_until side until xs) (uses_until side until ys)

-- the address behind some first ones crosses once it is used
one_crosses : (table : Bindings) (side : Side) (until : ℕ) (front : List Addr) (a : Addr) → IsLawful table
    → All (λ address. cross table side address ≢ Unbound) (front ++ a ∷ []) → needed table side (front ++ a ∷ []) ≤ free table (other side)
    → Crosses (used (table_of table side until front) (use_of side a.0 until)) side until a
one_crosses table side until front a lawful bound room =
    let seen_all =
    all_seen table side (front ++ a ∷ []) (uses_until side until (front ++ a ∷ [])) lawful (uses_are side until (front ++ a ∷ [])) bound room in
    let within : length front < length (front ++ a ∷ []) = omega (arith, length-append front (a ∷ [])) in
    let at : IsSome (seen (table_of table side until (front ++ a ∷ [])) side a) =
    subst (λ (x : Addr). IsSome (seen (table_of table side until (front ++ a ∷ [])) side x)) (last_of front a a)
    (All-get_or (λ address. IsSome (seen (table_of table side until (front ++ a ∷ [])) side address)) (front ++ a ∷ [])
    (length front) a within seen_all) in
    use_crosses (table_of table side until front) side a.0 until (lawful_after (uses_until side until front) table lawful)
    (subst (λ (t : Bindings). IsSome (seen t side a)) (table_more table side until front (a ∷ [])) at)

pub all_cross : (table : Bindings) (side : Side) (until : ℕ) (front rest : List Addr) → IsLawful table
    → All (λ address. cross table side address ≢ Unbound) (front ++ rest) → needed table side (front ++ rest) ≤ free table (other side)
    → AllByRecursion (Crosses (after_uses (table_of table side until front) (uses_until side until rest)) side until) rest
all_cross table side until front [] lawful bound room = tt
all_cross table side until front (a ∷ rest) lawful bound room =
    let same : (front ++ a ∷ []) ++ rest ≡ front ++ a ∷ rest = append_assoc front (a ∷ []) rest in
    let bound' : All (λ address. cross table side address ≢ Unbound) ((front ++ a ∷ []) ++ rest) =
    subst (λ (xs : List Addr). All (λ address. cross table side address ≢ Unbound) xs) (sym same) bound in
    let room' : needed table side ((front ++ a ∷ []) ++ rest) ≤ free table (other side) =
    subst (λ (xs : List Addr). needed table side xs ≤ free table (other side)) (sym same) room in
    let first : needed table side (front ++ a ∷ []) ≤ free table (other side) =
    omega (arith, needed_front table side (front ++ a ∷ []) rest, room') in
    let t = used (table_of table side until front) (use_of side a.0 until) in
    let lawful_t : IsLawful (used (table_of table side until front) (use_of side a.0 until)) =
    lawful_used (table_of table side until front) (use_of side a.0 until) (lawful_after (uses_until side until front) table lawful) in
    let one =
    one_crosses table side until front a lawful (all_front (λ address. cross table side address ≢ Unbound) (front ++ a ∷ []) rest bound') first in
    let more = all_cross table side until (front ++ a ∷ []) rest lawful bound' room' in (
      (all_cross_later (uses_until side until rest) (used (table_of table side until front) (use_of side a.0 until)) side until (a ∷ []) lawful_t
          (one, tt)).0,
      subst (λ (x : Bindings). AllByRecursion (Crosses (after_uses x (uses_until side until rest)) side until) rest)
          (table_more table side until front (a ∷ [])) more,
    )

-- ## What is entered is called as it crosses

pub unless : (c : Crossing) (x : Option Addr) → c ≢ Same → unless_same c x ≡ x
unless Same x h = absurd (h refl)
unless (Bound image) x h = refl
unless (New alias) x h = refl
unless Unbound x h = refl
unless Empty x h = refl

cross_pool : (table : Bindings) (side : Side) (address : Addr) → is_same table address ≡ false → in_pool table side address ≡ true
    → cross table side address ≡ pool_crossing table side address
unfolding cross
cross_pool table side address differs pool = rw (differs, pool) refl

pub cross_host : (table : Bindings) (side : Side) (address : Addr) → is_same table address ≡ false → in_pool table side address ≡ false
    → cross table side address ≡ host_crossing table side address
unfolding cross
cross_host table side address differs pool = rw (differs, pool) refl

known_differs : (c : Crossing) (o : Option Addr) → c ≢ Same → known_or c o ≢ Same
known_differs c None h e = h e
known_differs c (Some a) h e = cc

new_differs : (o : Option Addr) → new_or_empty o ≢ Same
new_differs None e = cc
new_differs (Some a) e = cc

unbound_differs : Unbound ≢ Same
unbound_differs e = cc

pub differs_cross : (table : Bindings) (side : Side) (address : Addr) → is_same table address ≡ false → cross table side address ≢ Same
differs_cross table side address differs e =
    elim (cases_Bool (in_pool table side address)) [
      | inl pool ↦ known_differs Unbound (host_of side address table.entries) unbound_differs (sym (cross_pool table side address differs pool) ∙ e)
      | inr host ↦ known_differs (new_or_empty (least_free (pool_of table (other side)))) (alias_of side address table.entries)
          (new_differs (least_free (pool_of table (other side)))) (sym (cross_host table side address differs host) ∙ e)
    ]

pub same_cross : (table : Bindings) (side : Side) (address : Addr) → is_same table address ≡ true → cross table side address ≡ Same
unfolding cross
same_cross table side address same = rw same refl

never_unbound : (same : Bool) (alias least : Option Addr) → (if same then Same else known_or (new_or_empty least) alias) ≡ Unbound → ⊥
never_unbound true alias least e = cc
never_unbound false (Some a) least e = cc
never_unbound false None (Some a) e = cc
never_unbound false None None e = cc

-- an address outside the pool isn't unbound
pub known_unbound : (table : Bindings) (side : Side) (address : Addr) → in_pool table side address ≡ false → cross table side address ≢ Unbound
unfolding cross
known_unbound table side address outside e =
    never_unbound (is_same table address) (alias_of side address table.entries) (least_free (pool_of table (other side))) (rw outside at e)

-- what a name is called afterwards is its image
name_image : (table later : Bindings) (side : Side) (until : ℕ) (address : Addr) → IsLawful later → is_same later address ≡ is_same table address
    → Crosses later side until address → IsImage later side until address (image_after table later side address)
name_image table later side until address lawful same (inl h) =
    subst (λ (o : Option Addr). IsImage later side until address o)
    (sym (ap (λ (c : Crossing). unless_same c (seen later side address)) (same_cross table side address (sym same ∙ h)))) h
name_image table later side until address lawful same (inr h) =
    let is : image_after table later side address ≡ Some h.0 =
    unless (cross table side address) (seen later side address)
    (differs_cross table side address (sym same ∙ as_differs later side address.0 h.0.0 until lawful h.1))
    ∙ as_seen later side address.0 h.0.0 until lawful h.1 in
    subst (λ (o : Option Addr). IsImage later side until address o) (sym is) h.1

names_images : (table later : Bindings) (side : Side) (until : ℕ) (names : List Addr) → IsLawful later
    → ((address : Addr) → is_same later address ≡ is_same table address) → AllByRecursion (Crosses later side until) names
    → AllByRecursion (λ a. IsImage later side until a (image_after table later side a)) names
names_images table later side until [] lawful same h = tt
names_images table later side until (a ∷ names) lawful same h =
    (name_image table later side until a lawful (same a) h.0, names_images table later side until names lawful same h.1)

enter_bound : (table : Bindings) (side : Side) (until : ℕ) (image : Addr → Option Addr) (es : List Entry) (a : Addr)
    → AllByRecursion (IsEntryBound table side until) es → IsImage table side until a (image a)
    → AllByRecursion (IsEntryBound table side until) (enter image es a)
enter_bound table side until image es a h k = by_test (is_listed es a.0)
  where
    by_test : (b : Bool) → AllByRecursion (IsEntryBound table side until) (if b then es else es ++ (a, image a) ∷ [])
    by_test true = h
    by_test false = all_append (IsEntryBound table side until) es ((a, image a) ∷ []) h (k, tt)

pub entered_bound : (table : Bindings) (side : Side) (until : ℕ) (image : Addr → Option Addr) (es : List Entry) (names : List Addr)
    → AllByRecursion (IsEntryBound table side until) es → AllByRecursion (λ a. IsImage table side until a (image a)) names
    → AllByRecursion (IsEntryBound table side until) (entered image es names)
entered_bound table side until image es [] h k = h
entered_bound table side until image es (a ∷ names) h k =
    entered_bound table side until image (enter image es a) names (enter_bound table side until image es a h k.0) k.1

-- ## All uses of a segment of a session

-- what the uses of a segment leave of both lists: the table before it, both addresses of its header and the names of its units, used from its side, and then both lists
pub record Listing : Type 0 where
  pub table : Bindings
  pub side : Side
  pub until : ℕ
  pub header : List Addr
  pub names : List Addr
  pub client : Side
  pub one : List Entry
  pub two : List Entry

-- the uses of both lists
abbrev pub both_lists : Listing → List Use
both_lists l = uses_until l.client l.until (renamed_in l.one) ++ uses_until (other l.client) l.until (renamed_in l.two)

abbrev pub table_with : Listing → Bindings
table_with l = after_uses l.table (uses_until l.side l.until l.header ++ (uses_until l.side l.until l.names ++ both_lists l))

-- the same, one after the other
in_turn : (l : Listing)
    → table_with l ≡ after_uses (after_uses (table_of l.table l.side l.until (l.header ++ l.names)) (uses_until l.client l.until (renamed_in l.one)))
    (uses_until (other l.client) l.until (renamed_in l.two))
in_turn l =
    ap (after_uses l.table)
    (sym (append_assoc (uses_until l.side l.until l.header) (uses_until l.side l.until l.names) (both_lists l))
    ∙ ap (λ (us : List Use). us ++ both_lists l) (sym (uses_append l.side l.until l.header l.names)))
    ∙ fold-append used l.table (uses_until l.side l.until (l.header ++ l.names)) (both_lists l)
    ∙ fold-append used (table_of l.table l.side l.until (l.header ++ l.names)) (uses_until l.client l.until (renamed_in l.one))
    (uses_until (other l.client) l.until (renamed_in l.two))

-- both lists last as long as the segment's timeout, and each name crosses for as long
pub record ListsLast (l : Listing) : Type 0 where
  pub one : AllByRecursion (IsEntryBound (table_with l) l.client l.until) l.one
  pub two : AllByRecursion (IsEntryBound (table_with l) (other l.client) l.until) l.two
  pub names : AllByRecursion (λ a. IsImage (table_with l) l.side l.until a (image_after l.table (table_with l) l.side a)) l.names

pub lists_last : (l : Listing) (sooner : ℕ) → IsLawful l.table → AllByRecursion (IsEntryBound l.table l.client sooner) l.one
    → AllByRecursion (IsEntryBound l.table (other l.client) sooner) l.two
    → All (λ address. cross l.table l.side address ≢ Unbound) (l.header ++ l.names) → needed l.table l.side (l.header ++ l.names)
    ≤ free l.table (other l.side) → ListsLast l
lists_last l sooner lawful h k bound room =
    let first = uses_until l.side l.until (l.header ++ l.names) in
    let ones = uses_until l.client l.until (renamed_in l.one) in
    let twos = uses_until (other l.client) l.until (renamed_in l.two) in
    let a = table_of l.table l.side l.until (l.header ++ l.names) in
    let b = after_uses (table_of l.table l.side l.until (l.header ++ l.names)) (uses_until l.client l.until (renamed_in l.one)) in
    let c = after_uses (after_uses (table_of l.table l.side l.until (l.header ++ l.names)) (uses_until l.client l.until (renamed_in l.one)))
    (uses_until (other l.client) l.until (renamed_in l.two)) in
    let lawful_a : IsLawful (table_of l.table l.side l.until (l.header ++ l.names)) =
    lawful_after (uses_until l.side l.until (l.header ++ l.names)) l.table lawful in
    let lawful_b : IsLawful (after_uses (table_of l.table l.side l.until (l.header ++ l.names)) (uses_until l.client l.until (renamed_in l.one))) =
    lawful_after (uses_until l.client l.until (renamed_in l.one)) (table_of l.table l.side l.until (l.header ++ l.names)) lawful_a in
    let one_a = entries_later first l.table l.client sooner l.one lawful h in
    let two_a = entries_later first l.table (other l.client) sooner l.two lawful k in
    let one_b = entries_last (table_of l.table l.side l.until (l.header ++ l.names)) l.client sooner l.until l.one lawful_a one_a in
    let two_b = entries_later ones (table_of l.table l.side l.until (l.header ++ l.names)) (other l.client) sooner l.two lawful_a two_a in
    let one_c =
    entries_later twos
    (after_uses (table_of l.table l.side l.until (l.header ++ l.names)) (uses_until l.client l.until (renamed_in l.one))) l.client l.until
    l.one lawful_b one_b in
    let two_c =
    entries_last (after_uses (table_of l.table l.side l.until (l.header ++ l.names)) (uses_until l.client l.until (renamed_in l.one)))
    (other l.client) sooner l.until l.two lawful_b two_b in
    let crossing = all_cross l.table l.side l.until l.header l.names lawful bound room in
    let names_a : AllByRecursion (Crosses (table_of l.table l.side l.until (l.header ++ l.names)) l.side l.until) l.names =
    subst (λ (t : Bindings). AllByRecursion (Crosses t l.side l.until) l.names)
    (sym (table_more l.table l.side l.until l.header l.names)) crossing in
    let names_b = all_cross_later ones (table_of l.table l.side l.until (l.header ++ l.names)) l.side l.until l.names lawful_a names_a in
    let names_c =
    all_cross_later twos
    (after_uses (table_of l.table l.side l.until (l.header ++ l.names)) (uses_until l.client l.until (renamed_in l.one))) l.side l.until
    l.names lawful_b names_b in
    let lawful_all : IsLawful (table_with l) =
    lawful_after (uses_until l.side l.until l.header ++ (uses_until l.side l.until l.names ++ both_lists l)) l.table lawful in
    record {
      one = subst (λ (t : Bindings). AllByRecursion (IsEntryBound t l.client l.until) l.one) (sym (in_turn l)) one_c;
      two = subst (λ (t : Bindings). AllByRecursion (IsEntryBound t (other l.client) l.until) l.two) (sym (in_turn l)) two_c;
      names = names_images l.table (table_with l) l.side l.until l.names lawful_all
          (λ address. same_after (uses_until l.side l.until l.header ++ (uses_until l.side l.until l.names ++ both_lists l)) l.table address)
          (subst (λ (t : Bindings). AllByRecursion (Crosses t l.side l.until) l.names) (sym (in_turn l)) names_c);
    }
