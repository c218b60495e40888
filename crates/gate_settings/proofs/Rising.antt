-- Blocks in the order of their first addresses make ranges that rise, and one of these decides where an address lies.
use Rattle.std.proofs.Common.{◌≡◌, ◌≤◌, ◌<◌, ◌-◌, ℕ, zero, suc, max, Bool, true, false, List, [], ◌∷◌, length, get_or, refl, sym, ◌∙◌, ap, arith, ◌&&◌, ◌||◌, ◌⊎◌, inl, inr, nat_le}
use Rattle.std.specs.List.{list_any}
use Rattle.std.specs.List.Sorted.{IsNonDecreasingBy, IsPartitionPoint, IsPermutation}
use Rattle.std.proofs.lemmas.Bool.{cases_lt, leb-true, le-leb}
use Rattle.std.proofs.lemmas.Bool.Decides.{nat_tests}
use Rattle.std.proofs.lemmas.List.Elements.{All-from_get_or}
use Rattle.std.proofs.lemmas.List.Folds.{list_any_none, list_any_at}
use Rattle.std.proofs.lemmas.List.Sorted.{list_any-IsPermutation}
use Rattle.gate_settings.specs.declared.settings.Block.{Block}
use Rattle.gate_settings.specs.declared.same.SameRange.{SameRange}
use Rattle.gate_settings.specs.Prelude.{block_end, is_in_block, is_in_same, ranges_from, AreRanges}
use Rattle.gate_settings.specs.Inside.Ranges.{is_in_range, Rise}

-- ## The order of what blocks make

abbrev Ordered : List Block → Type 0
Ordered blocks = IsNonDecreasingBy (λ (b : Block). b.base.0) blocks

same_firsts : (last : ℕ) (blocks : List Block) (j : ℕ) (d : SameRange) (e : Block) → j < length (ranges_from last blocks) → (j < length blocks)
    × ((get_or (ranges_from last blocks) j d).first ≡ (get_or blocks j e).base.0)
same_firsts last [] j d e l = absurd (omega arith)
same_firsts last (b ∷ bs) zero d e l = (omega arith, refl)
same_firsts last (b ∷ bs) (suc j) d e l = let found = same_firsts (max last (block_end b)) bs j d e (omega arith) in (omega (arith, found.0), found.1)

firsts_rise : (last : ℕ) (blocks : List Block) → Ordered blocks → IsNonDecreasingBy (λ (r : SameRange). r.first) (ranges_from last blocks)
firsts_rise last blocks h i j d l m =
    let e : Block = record { base = record { 0 = 0 }; bits = 0 } in
    let later = same_firsts last blocks j d e m in
    omega (arith, later.1, (same_firsts last blocks i d e (omega arith)).1, h i j e l later.0)

-- none ends before an earlier block
above : (last : ℕ) (blocks : List Block) (j : ℕ) (d : SameRange) → j < length (ranges_from last blocks)
    → last ≤ (get_or (ranges_from last blocks) j d).last
above last [] j d l = absurd (omega arith)
above last (b ∷ bs) zero d l = omega arith
above last (b ∷ bs) (suc j) d l = omega (arith, above (max last (block_end b)) bs j d (omega arith))

lasts_rise : (last : ℕ) (blocks : List Block) → IsNonDecreasingBy (λ (r : SameRange). r.last) (ranges_from last blocks)
lasts_rise last [] i j d l m = absurd (omega arith)
lasts_rise last (b ∷ bs) zero zero d l m = omega arith
lasts_rise last (b ∷ bs) zero (suc j) d l m = above (max last (block_end b)) bs j d (omega arith)
lasts_rise last (b ∷ bs) (suc i) zero d l m = absurd (omega arith)
lasts_rise last (b ∷ bs) (suc i) (suc j) d l m = lasts_rise (max last (block_end b)) bs i j d (omega arith) (omega arith)

-- ## An address lies in a range exactly if it lies in a block

abbrev within : ℕ → ℕ → ℕ → Bool
within first last a = nat_le first a && nat_le a last

-- what an earlier block reaches is no new address
no_new : (f g last end a : ℕ) (rest : Bool) → f ≤ g → (within f last a || (within g (max last end) a || rest))
    ≡ (within f last a || (within g end a || rest))
no_new f g last end a rest l = grind (arith, nat_tests)

carried : (b : Block) (last : ℕ) (bs : List Block) (a : ℕ) → Ordered (b ∷ bs)
    → (within b.base.0 last a || list_any (is_in_range a) (ranges_from last bs))
    ≡ (within b.base.0 last a || list_any (is_in_block (record { 0 = a })) bs)
carried b last [] a h = refl
carried b last (x ∷ xs) a h =
    let rest = carried x (max last (block_end x)) xs a (λ i j d l m. h (suc i) (suc j) d (omega arith) (omega arith)) in
    ap (λ r. within b.base.0 last a || r) rest ∙ no_new b.base.0 x.base.0 last (block_end x) a _ (h 0 1 b (omega arith) (omega arith))

covered : (blocks : List Block) (a : ℕ) → Ordered blocks → list_any (is_in_range a) (ranges_from 0 blocks) ≡ is_in_same (record { 0 = a }) blocks
covered [] a h = refl
covered (b ∷ bs) a h =
    let first : max 0 (block_end b) ≡ block_end b = omega arith in
    carried b (max 0 (block_end b)) bs a h ∙ ap (λ n. within b.base.0 n a || list_any (is_in_block (record { 0 = a })) bs) first

pub are_ranges : (blocks sorted : List Block) → IsPermutation blocks sorted → Ordered sorted → AreRanges blocks (ranges_from 0 sorted)
are_ranges blocks sorted moved order = record {
  rise = record { firsts = firsts_rise 0 sorted order; lasts = lasts_rise 0 sorted };
  same = λ address. covered sorted address.0 order ∙ sym (list_any-IsPermutation (is_in_block address) blocks sorted moved);
}

-- ## One range decides

abbrev pub IsPoint : ℕ → List SameRange → ℕ → Type 0
IsPoint a ranges n = IsPartitionPoint (λ (r : SameRange). nat_le r.first a ≡ true) (λ (r : SameRange). nat_le r.first a ≡ false) ranges n

-- none of these that begin above an address holds it, and none that ends below it
not_below : (first last a : ℕ) → nat_le first a ≡ false → within first last a ≡ false
not_below first last a h = ap (λ b. b && nat_le a last) h

not_above : (first last a : ℕ) → last < a → within first last a ≡ false
not_above first last a l = grind (arith, nat_tests)

pub none_begun : (a : ℕ) (ranges : List SameRange) → IsPoint a ranges 0 → list_any (is_in_range a) ranges ≡ false
none_begun a ranges h =
    let d : SameRange = record { first = 0; last = 0 } in
    list_any_none (is_in_range a) ranges (All-from_get_or (λ r. is_in_range a r ≡ false) ranges d (λ i l. not_below _ _ a (h.1 i d (omega arith) l)))

pub last_decides : (a n : ℕ) (ranges : List SameRange) (d : SameRange) → Rise ranges → 0 < n → n ≤ length ranges → IsPoint a ranges n
    → nat_le a (get_or ranges (n - 1) d).last ≡ list_any (is_in_range a) ranges
last_decides a n ranges d rise some few point = by_last (cases_lt (get_or ranges (n - 1) d).last a)
  where
    begun : (i : ℕ) → i < n → (get_or ranges i d).first ≤ a
    begun i l = leb-true _ _ (point.0 i d (omega arith) l)

    outside : (get_or ranges (n - 1) d).last < a → (i : ℕ) → i < length ranges → is_in_range a (get_or ranges i d) ≡ false
    outside l i m = elim (cases_lt i n) as (λ t. is_in_range a (get_or ranges i d) ≡ false) [
      | inl b ↦ not_above (get_or ranges i d).first _ a (omega (arith, rise.lasts i (n - 1) d (omega arith) (omega arith)))
      | inr b ↦ not_below _ (get_or ranges i d).last a (point.1 i d b m)
    ]

    by_last : ((get_or ranges (n - 1) d).last < a) ⊎ (a ≤ (get_or ranges (n - 1) d).last)
        → nat_le a (get_or ranges (n - 1) d).last ≡ list_any (is_in_range a) ranges
    by_last (inl l) = (let test : nat_le a (get_or ranges (n - 1) d).last ≡ false = grind (arith, nat_tests) in test
        ∙ sym (list_any_none (is_in_range a) ranges (All-from_get_or (λ r. is_in_range a r ≡ false) ranges d (outside l))))
    by_last (inr l) =
        let test : nat_le a (get_or ranges (n - 1) d).last ≡ true = le-leb _ _ l in
        let both : is_in_range a (get_or ranges (n - 1) d) ≡ true = ap (λ b. b && nat_le a (get_or ranges (n - 1) d).last)
        (le-leb _ _ (begun (n - 1) (omega arith))) ∙ test in
        test ∙ sym (list_any_at (is_in_range a) ranges (n - 1) d (omega arith) both)
