-- What a sorted list says of an address, and what an entry that is put in its place does to it.
use Rattle.std.proofs.Common.{◌≡◌, ℕ, zero, suc, ◌+◌, ◌-◌, ◌<◌, ◌≤◌, eqb, ◌≢◌, Bool, true, false, cond, List, [], ◌∷◌, ◌++◌, length, get_or, Some, None, Result, Ok, Err, IfOk, IfErr, refl, sym, ◌∙◌, ap, subst, arith, Option, option_map, insert, find, eqb-true}
use Rattle.std.specs.Option.{option_or}
use Rattle.std.specs.List.Sorted.{IsSearchInRange, IsBinarySearchResult, IsNonDecreasingBy}
use Rattle.std.specs.Ordering.{nat_cmp, ordering_index}
use Rattle.std.proofs.lemmas.Bool.Decides.{nat_tests}
use Rattle.std.proofs.lemmas.Cmp.{ranked}
use Rattle.std.proofs.lemmas.List.{length_push, get_or_read}
use Rattle.std.proofs.lemmas.List.Sorted.{IsNonDecreasingBy-from_default}
use Rattle.std.proofs.lemmas.List.Edits.{length-insert, get_or-insert_below, get_or-insert_at, get_or-insert_above}
use Rattle.gate_base.specs.declared.address.Addr.{Addr}
use Rattle.dialogue.specs.Prelude.{Entry, is_of, listed_image}
use Rattle.dialogue.proofs.ListedImages.{image_of_joined}
use Rattle.dns_stream.specs.Prelude.{AreOneList}
use Rattle.dns_stream.specs.Inside.Order.{no_entry, address_at, Rises, IsAt, IsGapFor}

-- ---- a look-up, by an entry at a time

image_over : (b : Bool) (e : Entry) (o : Option Entry) → option_map (λ entry. entry.1) (cond b (Some e) o)
    ≡ cond b (Some e.1) (option_map (λ entry. entry.1) o)
image_over true e o = refl
image_over false e o = refl

image_step : (e : Entry) (l : List Entry) (a : ℕ) → listed_image (e ∷ l) a ≡ cond (eqb e.0.0 a) (Some e.1) (listed_image l a)
image_step e l a = image_over (eqb e.0.0 a) e (find (is_of a) l)

-- no entry before a place is of the address
abbrev NoneBefore : List Entry → ℕ → ℕ → Type 0
NoneBefore l a i = (j : ℕ) → j < i → address_at l j ≢ a

none_in_tail : (e : Entry) (l : List Entry) (a i : ℕ) → NoneBefore (e ∷ l) a (suc i) → NoneBefore l a i
none_in_tail e l a i none j lt = none (suc j) (omega arith)

at_in_tail : (e : Entry) (l : List Entry) (a i : ℕ) → IsAt (e ∷ l) a (suc i) → IsAt l a i
at_in_tail e l a i at = record { in_range = omega (arith, at.in_range); is_this = at.is_this }

absent : (l : List Entry) (a : ℕ) → NoneBefore l a (length l) → listed_image l a ≡ None
absent [] a none = refl
absent (e ∷ l) a none = rw image_step (grind (arith, nat_tests, none 0 (omega arith), absent l a (none_in_tail e l a _ none)))

present : (l : List Entry) (a i : ℕ) → IsAt l a i → NoneBefore l a i → listed_image l a ≡ Some (get_or l i no_entry).1
present [] a i at none = absurd (omega (arith, at.in_range))
present (e ∷ l) a zero at none = rw image_step (grind (arith, nat_tests, at.is_this))
present (e ∷ l) a (suc i) at none =
    rw image_step (grind (arith, nat_tests, none 0 (omega arith), present l a i (at_in_tail e l a i at) (none_in_tail e l a i none)))

-- an entry that is put in gives its address its image, and changes no other
inserted : (l : List Entry) (e : Entry) (i : ℕ) → NoneBefore l e.0.0 i → (a : ℕ)
    → listed_image (insert l i e) a ≡ cond (eqb e.0.0 a) (Some e.1) (listed_image l a)
inserted l e zero none a = image_step e l a
inserted [] e (suc i) none a = image_step e [] a
inserted (x ∷ l) e (suc i) none a =
    rw (image_step x (insert l i e) a, image_step x l a)
    (grind (arith, nat_tests, none 0 (omega arith), inserted l e i (none_in_tail x l e.0.0 i none) a))

-- the image that an entry adds to a list's
abbrev added : Entry → ℕ → Option (Option Addr) → Option (Option Addr)
added e a o = option_or o (cond (eqb e.0.0 a) (Some e.1) None)

appended : (l : List Entry) (e : Entry) (a : ℕ) → listed_image (l ++ e ∷ []) a ≡ added e a (listed_image l a)
appended l e a = image_of_joined l (e ∷ []) a ∙ ap (option_or (listed_image l a)) (image_step e [] a)

-- ---- a search

module _ (l : List Entry) (rises : Rises l) (a : ℕ) where
  comparisons_rise : IsNonDecreasingBy (λ entry. ordering_index (nat_cmp entry.0.0 a)) l
  comparisons_rise = IsNonDecreasingBy-from_default (λ entry. ordering_index (nat_cmp entry.0.0 a)) l no_entry (λ i j le in_range.
      let addresses_rise : address_at l i ≤ address_at l j = grind (arith, rises i j, λ (same : i ≡ j). ap (address_at l) same) in
      grind (arith, nat_tests))

  -- halving ends at the address, or at the place for it
  pub searched : (r : Result ℕ ℕ) → IsSearchInRange r (length l) → IsBinarySearchResult (λ entry. nat_cmp entry.0.0 a) l r
      → record { found : IfOk r (IsAt l a); absent : IfErr r (IsGapFor l a) }
  searched (Ok i) in_range equal = record { found = record { in_range = in_range; is_this = ranked _ a _ (sym (equal no_entry)) }; absent = tt }
  searched (Err i) in_range parted = record {
    found = tt;
    absent = record {
      in_range = in_range;
      lower_before = λ j lt. ranked _ a _ (sym ((parted comparisons_rise).0 j no_entry (omega arith) lt));
      higher_after = λ j le lt. ranked _ a _ (sym ((parted comparisons_rise).1 j no_entry le lt));
    };
  }

  image_at : (i : ℕ) → IsAt l a i → listed_image l a ≡ Some (get_or l i no_entry).1
  image_at i at = present l a i at (λ j lt same. omega (arith, rises j i lt at.in_range, at.is_this))

image_in_gap : (l : List Entry) (a i : ℕ) → IsGapFor l a i → listed_image l a ≡ None
image_in_gap l a i gap = absent l a (λ j lt same. grind (arith, gap.lower_before j, gap.higher_after j))

pub found : (entries sorted : List Entry) → AreOneList entries sorted → (a i : ℕ) → IsAt sorted a i → (e : Entry) → e ≡ get_or sorted i e
    → Some e.1 ≡ listed_image entries a
found entries sorted one a i at e read =
    ap (λ (x : Entry). Some x.1) (get_or_read sorted i e at.in_range read no_entry)
    ∙ sym (image_at sorted one.rises a i at)
    ∙ one.same a

pub not_found : (entries sorted : List Entry) → AreOneList entries sorted → (a i : ℕ) → IsGapFor sorted a i → None ≡ listed_image entries a
not_found entries sorted one a i gap = sym (image_in_gap sorted a i gap) ∙ one.same a

-- ---- an entry more

rises_inserted : (l : List Entry) (e : Entry) (at : ℕ) → IsGapFor l e.0.0 at → Rises l → Rises (insert l at e)
rises_inserted l e at gap rises i j lt in_range =
    let new = insert l at e in
    let address = λ (x : Entry). x.0.0 in
    let length_new = length-insert l at e gap.in_range in
    let below : (i : ℕ) → i < at → address_at new i ≡ address_at l i =
    λ i below. ap address (get_or-insert_below l at e no_entry i below gap.in_range) in
    let here : (i : ℕ) → i ≡ at → address_at new i ≡ e.0.0 = λ i here. rw here (ap address (get_or-insert_at l at e no_entry gap.in_range)) in
    let above : (i : ℕ) → at < i → address_at new i ≡ address_at l (i - 1) =
    λ i above. subst (λ q. address_at new q ≡ address_at l (i - 1)) {x = i - 1 + 1} (omega arith)
    (ap address (get_or-insert_above l at e no_entry (i - 1) (omega arith) gap.in_range)) in
    grind (
      arith,
      below i,
      here i,
      above i,
      below j,
      here j,
      above j,
      rises i j,
      rises i (j - 1),
      rises (i - 1) (j - 1),
      gap.lower_before i,
      gap.higher_after (j - 1),
    )

-- in the gap for its address
new_image : (b : Bool) (image : Option Addr) (o : Option (Option Addr)) → (b ≡ true → o ≡ None)
    → cond b (Some image) o ≡ option_or o (cond b (Some image) None)
new_image true image o none = rw (none refl) refl
new_image false image None none = refl
new_image false image (Some x) none = refl

pub put_new : (entries sorted : List Entry) (e : Entry) (i : ℕ) → IsGapFor sorted e.0.0 i → length entries < 256 → AreOneList entries sorted
    → AreOneList (entries ++ e ∷ []) (insert sorted i e)
put_new entries sorted e i gap few one = record {
  few = omega (arith, length_push entries e);
  fewer = omega (arith, length_push entries e, length-insert sorted i e gap.in_range, one.fewer);
  rises = rises_inserted sorted e i gap one.rises;
  same = λ a.
      inserted sorted e i (λ j lt same. omega (arith, gap.lower_before j lt)) a
      ∙ new_image (eqb e.0.0 a) e.1 (listed_image sorted a)
      (λ t. subst (λ q. listed_image sorted q ≡ None) (eqb-true e.0.0 a t) (image_in_gap sorted e.0.0 i gap))
      ∙ ap (added e a) (one.same a)
      ∙ sym (appended entries e a);
}

-- where its address has an entry
known_image : (b : Bool) (image x : Option Addr) (o : Option (Option Addr)) → (b ≡ true → o ≡ Some x) → o ≡ option_or o (cond b (Some image) None)
known_image true image x o some = rw (some refl) refl
known_image false image x None some = refl
known_image false image x (Some y) some = refl

pub put_known : (entries sorted : List Entry) (e : Entry) (i : ℕ) → IsAt sorted e.0.0 i → length entries < 256 → AreOneList entries sorted
    → AreOneList (entries ++ e ∷ []) sorted
put_known entries sorted e i at few one = record {
  few = omega (arith, length_push entries e);
  fewer = omega (arith, length_push entries e, one.fewer);
  rises = one.rises;
  same = λ a.
      known_image (eqb e.0.0 a) e.1 (get_or sorted i no_entry).1 (listed_image sorted a)
      (λ t. subst (λ q. listed_image sorted q ≡ Some (get_or sorted i no_entry).1) (eqb-true e.0.0 a t) (image_at sorted one.rises e.0.0 i at))
      ∙ ap (added e a) (one.same a)
      ∙ sym (appended entries e a);
}
