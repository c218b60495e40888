-- Units that lie one behind the other, and the point from which a walk over them stops.
use Rattle.std.proofs.Common.{◌≡◌, ◌≤◌, ◌<◌, ◌+◌, ℕ, zero, suc, Bool, true, false, not, cond, List, [], ◌∷◌, ◌++◌, length, drop, get_or, refl, sym, ◌∙◌, ap, arith, inl, inr, map, filter, nat_lt, nat_le}
use Rattle.std.specs.List.Sorted.{IsNonDecreasingBy, IsPartitionPoint}
use Rattle.std.proofs.lemmas.Bool.{cases_lt, cases_Bool, lt-ltb, le-ltb, le-leb, lt-leb}
use Rattle.std.proofs.lemmas.List.{drop_more, drop_all, drop-map}
use Rattle.shift_ledger.specs.declared.ledger.ChangedUnit.{ChangedUnit}
use Rattle.shift_ledger.specs.Prelude.{unit_of, KeptUnit, AreInOrder}

-- they may begin earlier and end later
pub AreInOrder-within : (us : List KeptUnit) (s a i o s' a' i' o' : ℕ) → s' ≤ s → a' ≤ a → i ≤ i' → o ≤ o' → AreInOrder s a us i o
    → AreInOrder s' a' us i' o'
AreInOrder-within [] s a i o s' a' i' o' ls la li lo k = (omega arith, omega arith)
AreInOrder-within (u ∷ us) s a i o s' a' i' o' ls la li lo k =
    (omega arith, omega arith, AreInOrder-within us _ _ i o _ _ i' o' (omega arith) (omega arith) li lo k.2)

-- one more unit
pub AreInOrder-push : (us : List KeptUnit) (s a i o i' o' : ℕ) (u : KeptUnit) → i ≤ u.start → o ≤ u.at → u.start + u.unit ≤ i'
    → u.at + length u.image ≤ o' → AreInOrder s a us i o → AreInOrder s a (us ++ u ∷ []) i' o'
AreInOrder-push [] s a i o i' o' u li lo hi ho k = (omega arith, omega arith, (hi, ho))
AreInOrder-push (v ∷ us) s a i o i' o' u li lo hi ho k = (k.0, k.1, AreInOrder-push us _ _ i o i' o' u li lo hi ho k.2)

-- fewer at the front
pub AreInOrder-drop : (n : ℕ) (us : List KeptUnit) (s a i o : ℕ) → AreInOrder s a us i o → AreInOrder s a (drop n us) i o
AreInOrder-drop zero us s a i o k = k
AreInOrder-drop (suc n) [] s a i o k = k
AreInOrder-drop (suc n) (u ∷ us) s a i o k =
    AreInOrder-drop n us s a i o (AreInOrder-within us _ _ i o s a i o (omega (arith, k.0)) (omega (arith, k.1)) (omega arith) (omega arith) k.2)

-- each unit ends after the first place, and no later than the next, and so does its image
ends_from : (xs : List ChangedUnit) (s a i o j : ℕ) (d : ChangedUnit) → j < length xs → AreInOrder s a (map unit_of xs) i o
    → (s ≤ (get_or xs j d).start + (get_or xs j d).unit) × (a ≤ (get_or xs j d).at + length (get_or xs j d).image.items)
ends_from [] s a i o j d l k = absurd (omega arith)
ends_from (x ∷ xs) s a i o zero d l k = (omega (arith, k.0), omega (arith, k.1))
ends_from (x ∷ xs) s a i o (suc j) d l k =
    let rest = ends_from xs _ _ i o j d (omega arith) k.2 in
    (omega (arith, k.0, rest.0), omega (arith, k.1, rest.1))

pub ends_rise : (xs : List ChangedUnit) (s a i o : ℕ) → AreInOrder s a (map unit_of xs) i o
    → IsNonDecreasingBy (λ (x : ChangedUnit). x.start + x.unit) xs
ends_rise [] s a i o k m n d l h = absurd (omega arith)
ends_rise (x ∷ xs) s a i o k zero zero d l h = omega arith
ends_rise (x ∷ xs) s a i o k zero (suc n) d l h = (ends_from xs _ _ i o n d (omega arith) k.2).0
ends_rise (x ∷ xs) s a i o k (suc m) zero d l h = absurd (omega arith)
ends_rise (x ∷ xs) s a i o k (suc m) (suc n) d l h = ends_rise xs _ _ i o k.2 m n d (omega arith) (omega arith)

pub images_rise : (xs : List ChangedUnit) (s a i o : ℕ) → AreInOrder s a (map unit_of xs) i o
    → IsNonDecreasingBy (λ (x : ChangedUnit). x.at + length x.image.items) xs
images_rise [] s a i o k m n d l h = absurd (omega arith)
images_rise (x ∷ xs) s a i o k zero zero d l h = omega arith
images_rise (x ∷ xs) s a i o k zero (suc n) d l h = (ends_from xs _ _ i o n d (omega arith) k.2).1
images_rise (x ∷ xs) s a i o k (suc m) zero d l h = absurd (omega arith)
images_rise (x ∷ xs) s a i o k (suc m) (suc n) d l h = images_rise xs _ _ i o k.2 m n d (omega arith) (omega arith)

pub lt_not_le : (q n : ℕ) → nat_lt q n ≡ not (nat_le n q)
lt_not_le q n =
    elim (cases_lt q n) [
      | inl less ↦ lt-ltb q n less ∙ ap not (sym (lt-leb n q less))
      | inr more ↦ le-ltb q n more ∙ ap not (sym (le-leb n q more))
    ]

pub le_not_lt : (e n : ℕ) → nat_le e n ≡ not (nat_lt n e)
le_not_lt e n =
    elim (cases_lt n e) [
      | inl less ↦ lt-leb e n less ∙ ap not (sym (lt-ltb n e less))
      | inr more ↦ le-leb e n more ∙ ap not (sym (le-ltb n e more))
    ]

-- the units from the point on are those that fail the test that the ones before it pass
pub from_point : (p f : KeptUnit → Bool) → ((u : KeptUnit) → f u ≡ not (p u)) → (xs : List ChangedUnit) (i : ℕ) → i ≤ length xs
    → IsPartitionPoint (λ x. p (unit_of x) ≡ true) (λ x. p (unit_of x) ≡ false) xs i → drop i (map unit_of xs) ≡ filter f (map unit_of xs)
from_point p f other [] zero l point = refl
from_point p f other [] (suc i) l point = absurd (omega arith)
from_point p f other (x ∷ xs) zero l point =
    let stays : f (unit_of x) ≡ true = other (unit_of x) ∙ ap not (point.1 0 x (omega arith) (omega arith)) in
    rw stays (ap (λ us. unit_of x ∷ us)
    (from_point p f other xs zero (omega arith) (λ k d h r. absurd (omega arith), λ k d h r. point.1 (suc k) d (omega arith) (omega arith))))
from_point p f other (x ∷ xs) (suc i) l point =
    let goes : f (unit_of x) ≡ false = other (unit_of x) ∙ ap not (point.0 0 x (omega arith) (omega arith)) in
    rw goes (from_point p f other xs i (omega arith)
    (λ k d h r. point.0 (suc k) d (omega arith) (omega arith), λ k d h r. point.1 (suc k) d (omega arith) (omega arith)))

first_passes : (f : KeptUnit → Bool) (us vs : List KeptUnit) (v : KeptUnit) → filter f us ≡ v ∷ vs → f v ≡ true
first_passes f [] vs v e = absurd (cc)
first_passes f (u ∷ us) vs v e =
    elim (cases_Bool (f u)) [
      | inl y ↦
          let all : filter f (u ∷ us) ≡ u ∷ filter f us = rw y refl in
          let same : u ≡ v = let h : u ∷ filter f us ≡ v ∷ vs = sym all ∙ e in cc in
          ap f (sym same) ∙ y
      | inr n ↦
          let fewer : filter f (u ∷ us) ≡ filter f us = rw n refl in
          first_passes f us vs v (sym fewer ∙ e)
    ]

-- a walk passes over the units that it doesn't stop at
pub walk-filter : (W : List KeptUnit → ℕ) (f : KeptUnit → Bool) (g : KeptUnit → ℕ)
    → ((v : KeptUnit) (us : List KeptUnit) → W (v ∷ us) ≡ cond (f v) (g v) (W us)) → (us : List KeptUnit) → W (filter f us) ≡ W us
walk-filter W f g step [] = refl
walk-filter W f g step (u ∷ us) =
    elim (cases_Bool (f u)) [
      | inl y ↦
          let all : filter f (u ∷ us) ≡ u ∷ filter f us = rw y refl in
          let left : cond (f u) (g u) (W (filter f us)) ≡ g u = rw y refl in
          let right : cond (f u) (g u) (W us) ≡ g u = rw y refl in
          ap W all ∙ step u (filter f us) ∙ left ∙ sym right ∙ sym (step u us)
      | inr n ↦
          let fewer : filter f (u ∷ us) ≡ filter f us = rw n refl in
          let right : cond (f u) (g u) (W us) ≡ W us = rw n refl in
          ap W fewer ∙ walk-filter W f g step us ∙ sym right ∙ sym (step u us)
    ]

pub entry_at : (xs : List ChangedUnit) (i : ℕ) (x : ChangedUnit) → i < length xs → x ≡ get_or xs i x
    → drop i (map unit_of xs) ≡ unit_of x ∷ drop (i + 1) (map unit_of xs)
entry_at xs i x l is =
    drop-map unit_of i xs
    ∙ ap (map unit_of) (drop_more xs i x l)
    ∙ ap (λ y. unit_of y ∷ map unit_of (drop (i + 1) xs)) (sym is)
    ∙ ap (λ us. unit_of x ∷ us) (sym (drop-map unit_of (i + 1) xs))

pub entry_none : (xs : List ChangedUnit) (i : ℕ) → length xs ≤ i → drop i (map unit_of xs) ≡ []
entry_none xs i l = drop-map unit_of i xs ∙ ap (map unit_of) (drop_all i xs l)

-- it answers by the unit at the point
pub stops_at : (W : List KeptUnit → ℕ) (f : KeptUnit → Bool) (g : KeptUnit → ℕ)
    → ((v : KeptUnit) (us : List KeptUnit) → W (v ∷ us) ≡ cond (f v) (g v) (W us)) → (us vs : List KeptUnit) (v : KeptUnit) (i : ℕ)
    → drop i us ≡ filter f us → drop i us ≡ v ∷ vs → W us ≡ g v
stops_at W f g step us vs v i from is =
    let found : filter f us ≡ v ∷ vs = sym from ∙ is in
    let passes : f v ≡ true = first_passes f us vs v found in
    let here : cond (f v) (g v) (W vs) ≡ g v = rw passes refl in
    sym (walk-filter W f g step us) ∙ ap W found ∙ step v vs ∙ here

-- and without one as at the end
pub stops_nowhere : (W : List KeptUnit → ℕ) (f : KeptUnit → Bool) (g : KeptUnit → ℕ)
    → ((v : KeptUnit) (us : List KeptUnit) → W (v ∷ us) ≡ cond (f v) (g v) (W us)) → (us : List KeptUnit) (i : ℕ) → drop i us ≡ filter f us
    → drop i us ≡ [] → W us ≡ W []
stops_nowhere W f g step us i from none = sym (walk-filter W f g step us) ∙ ap W (sym from ∙ none)
