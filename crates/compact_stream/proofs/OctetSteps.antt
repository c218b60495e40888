-- One octet more.
use Rattle.std.proofs.Common.{◌≡◌, ◌+◌, ℕ, Bool, true, false, List, [], ◌∷◌, ◌++◌, length, refl, sym, ◌∙◌, ap, subst, arith, append_assoc, inl, inr, Option, Some, None, is_some, map, option_map, bytes_eq}
use Rattle.std.proofs.lemmas.List.{length-append, map-append}
use Rattle.std.proofs.lemmas.Bool.{cases_Bool, false≢true}
use Rattle.gate_base.proofs.Options.{none_there}
use Rattle.dialogue.specs.Prelude.{Meaning, IsUnit, IsRest, IsReleased, IsLawful, is_held, is_empty, is_released, Push, Plain, Changed, Cut, cut, cut_at, add_octet, due_rest, push_of}
use Rattle.dialogue.proofs.CutLemmas.{IsUnit-push}
use Rattle.dialogue.proofs.Growth.{push_of-kept}
use Rattle.shift_ledger.specs.Prelude.{Kept, StandsFor}
use Rattle.compact_stream.specs.Prelude.{sent_pushes, held_rest}
use Rattle.compact_stream.proofs.SamePushes.{IsSame, StandsFor-same, join_plain, plain_unit, changed_unit}

-- a held rest, or else whether there is a released one, and a ledger are kept of octets that are cut so, whose image is acknowledged up to k
pub record IsKeptOf (m : Meaning) (rest : List ℕ) (released : Bool) (ledger : Kept) (c : Cut) (k : ℕ) : Type 0 where
  pub rest_is : rest ≡ held_rest m c.rest
  pub released_is : released ≡ is_released m c.rest
  pub ledger_is : StandsFor ledger (sent_pushes m false c) k

abbrev pub IsKept : Meaning → List ℕ → Bool → Kept → List ℕ → ℕ → Type 0
IsKept m rest released ledger s k = IsKeptOf m rest released ledger (cut m s) k

from_some : (o : Option ℕ) → is_some o ≡ true → (n : ℕ) × (o ≡ Some n)
from_some None e = absurd (let f : false ≡ true = e in cc)
from_some (Some n) e = (n, refl)

-- where a first unit stands after one octet more, it is the whole
pub unit_here : (m : Meaning) → IsLawful m → (rest : List ℕ) (x : ℕ) → IsRest m rest → is_some (m.first_end (rest ++ x ∷ [])) ≡ true
    → IsUnit m (rest ++ x ∷ [])
unit_here m law rest x r e = let p : (n : ℕ) × (m.first_end (rest ++ x ∷ []) ≡ Some n) = from_some (m.first_end (rest ++ x ∷ [])) e in
    IsUnit-push m law rest x p.0 r p.1

is_held-push : (m : Meaning) (r : List ℕ) (x : ℕ) → is_held m (r ++ x ∷ []) ≡ m.holds (r ++ x ∷ [])
is_held-push m [] x = refl
is_held-push m (y ∷ r) x = refl

is_empty-push : (r : List ℕ) (x : ℕ) → is_empty (r ++ x ∷ []) ≡ false
is_empty-push [] x = refl
is_empty-push (y ∷ r) x = refl

-- a rest that is not released is kept, and nothing of it is due
pub open_rest : (m : Meaning) (r rest : List ℕ) → rest ≡ held_rest m r → false ≡ is_released m r → (rest ≡ r) × (due_rest m false r ≡ [])
open_rest m [] rest e f = (e, refl)
open_rest m (y ∷ r) rest e f =
    elim (cases_Bool (m.holds (y ∷ r))) [
      | inl h ↦ (e ∙ rw h refl, rw h refl)
      | inr h ↦ absurd (let g : false ≡ true = f ∙ rw h refl in false≢true g)
    ]

-- a released rest is due, and none of it is kept
pub free_rest : (m : Meaning) (r rest : List ℕ) → IsRest m r → rest ≡ held_rest m r → true ≡ is_released m r → (rest ≡ []) × IsReleased m r
    × (due_rest m false r ≡ r)
free_rest m [] rest ir e f = absurd (false≢true (sym f))
free_rest m (y ∷ r) rest ir e f =
    elim (cases_Bool (m.holds (y ∷ r))) [
      | inl h ↦ absurd (let g : true ≡ false = f ∙ rw h refl in false≢true (sym g))
      | inr h ↦ (e ∙ rw h refl, record { rest = ir; some = omega arith; free = h }, rw h refl)
    ]

-- the pushes that were due, by what was due of the rest
old_pushes : (m : Meaning) (c : Cut) (r : List ℕ) → due_rest m false c.rest ≡ r
    → sent_pushes m false c ≡ map (push_of m) c.units ++ Plain (length r) ∷ []
old_pushes m c r e = ap (λ r. map (push_of m) c.units ++ Plain (length r) ∷ []) e

-- a ledger after one push more, whose pushes a ledger cannot tell from those that are due now
moved : (m : Meaning) (c : Cut) (l : Kept) (r : List ℕ) (p : Push) (qs : List Push) (k : ℕ) → due_rest m false c.rest ≡ r
    → IsSame (Plain (length r) ∷ p ∷ []) qs → StandsFor l (sent_pushes m false c ++ p ∷ []) k → StandsFor l (map (push_of m) c.units ++ qs) k
moved m c l r p qs k e same st =
    let hs = map (push_of m) c.units in
    let st' : StandsFor l (hs ++ (Plain (length r) ∷ p ∷ [])) k =
    subst (λ (h : List Push). StandsFor l h k) (ap (λ h. h ++ p ∷ []) (old_pushes m c r e) ∙ append_assoc hs (Plain (length r) ∷ []) (p ∷ [])) st in
    StandsFor-same l hs (Plain (length r) ∷ p ∷ []) qs k same st'

-- the pushes after a unit that has this push
unit_pushes : (m : Meaning) (c : Cut) (u : List ℕ) (p : Push) → push_of m u ≡ p
    → map (push_of m) c.units ++ p ∷ Plain 0 ∷ [] ≡ sent_pushes m false (cut_at c u true)
unit_pushes m c u p e =
    sym (append_assoc (map (push_of m) c.units) (p ∷ []) (Plain 0 ∷ []))
    ∙ ap (λ q. map (push_of m) c.units ++ q ∷ [] ++ Plain 0 ∷ []) (sym e)
    ∙ ap (λ h. h ++ Plain 0 ∷ []) (sym (map-append (push_of m) c.units (u ∷ [])))

-- a held rest, or none, goes on and is held
pub step_hold : (m : Meaning) (rest : List ℕ) (l : Kept) (c : Cut) (x k : ℕ) → IsKeptOf m rest false l c k
    → is_some (m.first_end (rest ++ x ∷ [])) ≡ false → m.holds (rest ++ x ∷ []) ≡ true → IsKeptOf m (rest ++ x ∷ []) false l (add_octet m c x) k
step_hold m rest l c x k kept none holds =
    let r : (rest ≡ c.rest) × (due_rest m false c.rest ≡ []) = open_rest m c.rest rest kept.rest_is kept.released_is in
    let u_is : rest ++ x ∷ [] ≡ c.rest ++ x ∷ [] = ap (λ t. t ++ x ∷ []) r.0 in
    let none' : is_some (m.first_end (c.rest ++ x ∷ [])) ≡ false = subst (λ (u : List ℕ). is_some (m.first_end u) ≡ false) u_is none in
    let held : is_held m (c.rest ++ x ∷ []) ≡ true = is_held-push m c.rest x ∙ sym (ap m.holds u_is) ∙ holds in
    rw none' (record {
      rest_is = rw held u_is;
      released_is = rw held refl;
      ledger_is = rw held (subst (λ (h : List Push). StandsFor l h k) (old_pushes m c [] r.1) kept.ledger_is);
    })

-- it goes on and is released
pub step_release : (m : Meaning) (rest : List ℕ) (l : Kept) (l' : Kept) (c : Cut) (x k n : ℕ) → n ≡ length (rest ++ x ∷ [])
    → IsKeptOf m rest false l c k → is_some (m.first_end (rest ++ x ∷ [])) ≡ false → m.holds (rest ++ x ∷ []) ≡ false
    → StandsFor l' (sent_pushes m false c ++ Plain n ∷ []) k → IsKeptOf m [] true l' (add_octet m c x) k
step_release m rest l l' c x k n n_is kept none free st =
    let r : (rest ≡ c.rest) × (due_rest m false c.rest ≡ []) = open_rest m c.rest rest kept.rest_is kept.released_is in
    let u_is : rest ++ x ∷ [] ≡ c.rest ++ x ∷ [] = ap (λ t. t ++ x ∷ []) r.0 in
    let none' : is_some (m.first_end (c.rest ++ x ∷ [])) ≡ false = subst (λ (u : List ℕ). is_some (m.first_end u) ≡ false) u_is none in
    let held : is_held m (c.rest ++ x ∷ []) ≡ false = is_held-push m c.rest x ∙ sym (ap m.holds u_is) ∙ free in
    rw none' (record {
      rest_is = rw held refl;
      released_is = rw (held, is_empty-push c.rest x) refl;
      ledger_is =
          rw held (moved m c l' [] (Plain n) (Plain (length (c.rest ++ x ∷ [])) ∷ []) k r.1 (join_plain 0 n _ (omega (arith, ap length u_is))) st);
    })

-- it ends as a unit that its image equals
pub step_plain_unit : (m : Meaning) (rest : List ℕ) (l : Kept) (l' : Kept) (c : Cut) (x k n : ℕ) → n ≡ length (rest ++ x ∷ [])
    → IsKeptOf m rest false l c k → is_some (m.first_end (rest ++ x ∷ [])) ≡ true → m.image (rest ++ x ∷ []) ≡ rest ++ x ∷ []
    → StandsFor l' (sent_pushes m false c ++ Plain n ∷ []) k → IsKeptOf m [] false l' (add_octet m c x) k
step_plain_unit m rest l l' c x k n n_is kept ends same st =
    let r : (rest ≡ c.rest) × (due_rest m false c.rest ≡ []) = open_rest m c.rest rest kept.rest_is kept.released_is in
    let u_is : rest ++ x ∷ [] ≡ c.rest ++ x ∷ [] = ap (λ t. t ++ x ∷ []) r.0 in
    let ends' : is_some (m.first_end (c.rest ++ x ∷ [])) ≡ true = subst (λ (u : List ℕ). is_some (m.first_end u) ≡ true) u_is ends in
    let same' : m.image (c.rest ++ x ∷ []) ≡ c.rest ++ x ∷ [] = subst (λ (u : List ℕ). m.image u ≡ u) u_is same in
    rw ends' (record {
      rest_is = refl;
      released_is = refl;
      ledger_is = subst (λ (h : List Push). StandsFor l' h k)
          (unit_pushes m c (c.rest ++ x ∷ []) (Plain (length (c.rest ++ x ∷ []))) (push_of-kept m (c.rest ++ x ∷ []) same'))
          (moved m c l' [] (Plain n) _ k r.1 (plain_unit 0 n _ (omega (arith, ap length u_is))) st);
    })

-- it ends as a unit with another image
pub step_changed_unit : (m : Meaning) (rest image : List ℕ) (l : Kept) (l' : Kept) (c : Cut) (x k n : ℕ) → n ≡ length (rest ++ x ∷ [])
    → IsKeptOf m rest false l c k → is_some (m.first_end (rest ++ x ∷ [])) ≡ true → image ≡ m.image (rest ++ x ∷ [])
    → bytes_eq image (rest ++ x ∷ []) ≡ false → StandsFor l' (sent_pushes m false c ++ Changed n image ∷ []) k
    → IsKeptOf m [] false l' (add_octet m c x) k
step_changed_unit m rest image l l' c x k n n_is kept ends is other st =
    let r : (rest ≡ c.rest) × (due_rest m false c.rest ≡ []) = open_rest m c.rest rest kept.rest_is kept.released_is in
    let u_is : rest ++ x ∷ [] ≡ c.rest ++ x ∷ [] = ap (λ t. t ++ x ∷ []) r.0 in
    let ends' : is_some (m.first_end (c.rest ++ x ∷ [])) ≡ true = subst (λ (u : List ℕ). is_some (m.first_end u) ≡ true) u_is ends in
    let is' : image ≡ m.image (c.rest ++ x ∷ []) = is ∙ ap m.image u_is in
    let other' : bytes_eq (m.image (c.rest ++ x ∷ [])) (c.rest ++ x ∷ []) ≡ false =
    subst (λ (i : List ℕ). bytes_eq i (c.rest ++ x ∷ []) ≡ false) is' (subst (λ (u : List ℕ). bytes_eq image u ≡ false) u_is other) in
    let p_is : push_of m (c.rest ++ x ∷ []) ≡ Changed n image =
    rw other' (ap (λ k. Changed k (m.image (c.rest ++ x ∷ []))) (sym (n_is ∙ ap length u_is)) ∙ ap (Changed n) (sym is')) in
    rw ends' (record {
      rest_is = refl;
      released_is = refl;
      ledger_is = subst (λ (h : List Push). StandsFor l' h k)
          (unit_pushes m c (c.rest ++ x ∷ []) (Changed n image) p_is)
          (moved m c l' [] (Changed n image) _ k r.1 (changed_unit n image) st);
    })

-- a released rest goes on
pub step_free : (m : Meaning) → IsLawful m → (rest : List ℕ) (l : Kept) (l' : Kept) (c : Cut) (x k : ℕ) → IsRest m c.rest → IsKeptOf m rest true l c k
    → is_some (m.first_end (x ∷ [])) ≡ false → StandsFor l' (sent_pushes m false c ++ Plain 1 ∷ []) k → IsKeptOf m rest true l' (add_octet m c x) k
step_free m law rest l l' c x k ir kept none st =
    let r : (rest ≡ []) × IsReleased m c.rest × (due_rest m false c.rest ≡ c.rest) = free_rest m c.rest rest ir kept.rest_is kept.released_is in
    let alone : m.first_end (x ∷ []) ≡ None = none_there (m.first_end (x ∷ [])) none in
    let on : m.first_end (c.rest ++ x ∷ []) ≡ None = law.ends c.rest (x ∷ []) r.1 ∙ ap (option_map (λ n. length c.rest + n)) alone in
    let free : is_held m (c.rest ++ x ∷ []) ≡ false = is_held-push m c.rest x ∙ law.stays c.rest (x ∷ []) r.1 on in
    rw on (record {
      rest_is = rw free r.0;
      released_is = rw (free, is_empty-push c.rest x) refl;
      ledger_is =
          rw free (moved m c l' c.rest (Plain 1) (Plain (length (c.rest ++ x ∷ [])) ∷ []) k r.2
          (join_plain (length c.rest) 1 _ (omega (arith, length-append c.rest (x ∷ [])))) st);
    })

-- a released rest ends
pub step_free_unit : (m : Meaning) → IsLawful m → (rest : List ℕ) (l : Kept) (l' : Kept) (c : Cut) (x k : ℕ) → IsRest m c.rest
    → IsKeptOf m rest true l c k → is_some (m.first_end (x ∷ [])) ≡ true → StandsFor l' (sent_pushes m false c ++ Plain 1 ∷ []) k
    → IsKeptOf m rest false l' (add_octet m c x) k
step_free_unit m law rest l l' c x k ir kept ends st =
    let r : (rest ≡ []) × IsReleased m c.rest × (due_rest m false c.rest ≡ c.rest) = free_rest m c.rest rest ir kept.rest_is kept.released_is in
    let p : (n : ℕ) × (m.first_end (x ∷ []) ≡ Some n) = from_some (m.first_end (x ∷ [])) ends in
    let on : m.first_end (c.rest ++ x ∷ []) ≡ Some (length c.rest + p.0) = law.ends c.rest (x ∷ []) r.1
    ∙ ap (option_map (λ n. length c.rest + n)) p.1 in
    let unit : IsUnit m (c.rest ++ x ∷ []) = IsUnit-push m law c.rest x _ ir on in
    let same : m.image (c.rest ++ x ∷ []) ≡ c.rest ++ x ∷ [] = law.kept (c.rest ++ x ∷ []) unit (law.released c.rest (x ∷ []) r.1 unit) in
    rw on (record {
      rest_is = r.0;
      released_is = refl;
      ledger_is = subst (λ (h : List Push). StandsFor l' h k)
          (unit_pushes m c (c.rest ++ x ∷ []) (Plain (length (c.rest ++ x ∷ []))) (push_of-kept m (c.rest ++ x ∷ []) same))
          (moved m c l' c.rest (Plain 1) _ k r.2 (plain_unit (length c.rest) 1 _ (omega (arith, length-append c.rest (x ∷ [])))) st);
    })
