-- The machine over what is kept keeps standing for the stream.
use Rattle.std.proofs.Common.{◌≡◌, ℕ, Bool, true, false, List, [], ◌∷◌, ◌++◌, length, refl, sym, subst, inl, inr, is_some, fold, bytes_eq}
use Rattle.std.proofs.lemmas.List.Sums.{fold_push, fold-append}
use Rattle.std.proofs.lemmas.Bool.{cases_Bool}
use Rattle.std.proofs.lemmas.Slice.Eq.{bytes_eq-Decides}
use Rattle.dialogue.specs.Prelude.{Meaning, IsUnit, IsRest, IsLawful, Push, Plain, Changed, Cut, cut, add_octet}
use Rattle.dialogue.proofs.CutLemmas.{IsRest-cut, IsRest-add_octet}
use Rattle.shift_ledger.specs.Prelude.{Kept, StandsFor, pushed}
use Rattle.shift_ledger.proofs.Walks.{StandsFor-push_plain, StandsFor-push_changed}
use Rattle.compact_stream.specs.Prelude.{sent_pushes, Run, run, all_pushed, next}
use Rattle.compact_stream.specs.Runs.{next_by}
use Rattle.compact_stream.proofs.OctetSteps.{IsKeptOf, IsKept, unit_here, open_rest, free_rest, step_hold, step_release, step_plain_unit, step_changed_unit, step_free, step_free_unit}

pub all_pushed-push : (l : Kept) (ps : List Push) (p : Push) → all_pushed l (ps ++ p ∷ []) ≡ pushed (all_pushed l ps) p
all_pushed-push l ps p = fold_push pushed l ps p

-- the same with one push more
with_push : (m : Meaning) (rest : List ℕ) (released : Bool) (l : Kept) (ps : List Push) (p : Push) (c : Cut) (k : ℕ)
    → IsKeptOf m rest released (pushed (all_pushed l ps) p) c k → IsKeptOf m rest released (all_pushed l (ps ++ p ∷ [])) c k
with_push m rest released l ps p c k h = subst (λ (n : Kept). IsKeptOf m rest released n c k) (sym (all_pushed-push l ps p)) h

step_released : (m : Meaning) → IsLawful m → (r : Run) (l : Kept) (c : Cut) (x k : ℕ) → IsRest m c.rest
    → IsKeptOf m r.rest true (all_pushed l r.pushes) c k
    → IsKeptOf m (next_by m r x true).rest (next_by m r x true).released (all_pushed l (next_by m r x true).pushes) (add_octet m c x) k
step_released m law r l c x k ir kept =
    let now : Kept = all_pushed l r.pushes in
    let none : r.rest ≡ [] = (free_rest m c.rest r.rest ir kept.rest_is kept.released_is).0 in
    let kept' : IsKeptOf m [] true now c k = subst (λ (s : List ℕ). IsKeptOf m s true now c k) none kept in
    let st : StandsFor (pushed now (Plain 1)) (sent_pushes m false c ++ Plain 1 ∷ []) k =
    StandsFor-push_plain now (sent_pushes m false c) k 1 now.spare kept.ledger_is in
    elim (cases_Bool (is_some (m.first_end (x ∷ [])))) [
      | inl e ↦ rw e
          (with_push m [] false l r.pushes (Plain 1) (add_octet m c x) k (step_free_unit m law [] now (pushed now (Plain 1)) c x k ir kept' e st))
      | inr e ↦ rw e
          (with_push m [] true l r.pushes (Plain 1) (add_octet m c x) k (step_free m law [] now (pushed now (Plain 1)) c x k ir kept' e st))
    ]

step_open : (m : Meaning) → IsLawful m → (r : Run) (l : Kept) (c : Cut) (x k : ℕ) → IsRest m c.rest
    → IsKeptOf m r.rest false (all_pushed l r.pushes) c k
    → IsKeptOf m (next_by m r x false).rest (next_by m r x false).released (all_pushed l (next_by m r x false).pushes) (add_octet m c x) k
step_open m law r l c x k ir kept =
    let now : Kept = all_pushed l r.pushes in
    let u = r.rest ++ x ∷ [] in
    let rest_is : r.rest ≡ c.rest = (open_rest m c.rest r.rest kept.rest_is kept.released_is).0 in
    let rest_ir : IsRest m r.rest = subst (λ (s : List ℕ). IsRest m s) (sym rest_is) ir in
    elim (cases_Bool (is_some (m.first_end u))) [
      | inl ends ↦
          let unit : IsUnit m u = unit_here m law r.rest x rest_ir ends in
          elim (cases_Bool (bytes_eq (m.image u) u)) [
            | inl plain ↦
                let same : m.image u ≡ u = (bytes_eq-Decides (m.image u) u).0 plain in
                let st : StandsFor (pushed now (Plain (length u))) (sent_pushes m false c ++ Plain (length u) ∷ []) k =
                StandsFor-push_plain now (sent_pushes m false c) k (length u) now.spare kept.ledger_is in
                rw (ends, plain) (with_push m [] false l r.pushes (Plain (length u)) (add_octet m c x) k
                (step_plain_unit m r.rest now (pushed now (Plain (length u))) c x k (length u) refl kept ends same st))
            | inr changed ↦
                let st : StandsFor (pushed now (Changed (length u) (m.image u))) (sent_pushes m false c ++ Changed (length u) (m.image u) ∷ []) k =
                StandsFor-push_changed now (sent_pushes m false c) k (length u) now.spare (m.image u) (law.within u (length u) unit).0
                (law.some u unit) kept.ledger_is in
                rw (ends, changed) (with_push m [] false l r.pushes (Changed (length u) (m.image u)) (add_octet m c x) k
                (step_changed_unit m r.rest (m.image u) now (pushed now (Changed (length u) (m.image u))) c x k
                (length u) refl kept ends refl changed st))
          ]
      | inr goes ↦
          elim (cases_Bool (m.holds u)) [
            | inl holds ↦ rw (goes, holds) (step_hold m r.rest now c x k kept goes holds)
            | inr free ↦
                let st : StandsFor (pushed now (Plain (length u))) (sent_pushes m false c ++ Plain (length u) ∷ []) k =
                StandsFor-push_plain now (sent_pushes m false c) k (length u) now.spare kept.ledger_is in
                rw (goes, free) (with_push m [] true l r.pushes (Plain (length u)) (add_octet m c x) k
                (step_release m r.rest now (pushed now (Plain (length u))) c x k (length u) refl kept goes free st))
          ]
    ]

-- one octet: what is kept of the cut so far, with the ledger after the pushes so far
step : (m : Meaning) → IsLawful m → (r : Run) (l : Kept) (c : Cut) (x k : ℕ) → IsRest m c.rest
    → IsKeptOf m r.rest r.released (all_pushed l r.pushes) c k
    → IsKeptOf m (next m r x).rest (next m r x).released (all_pushed l (next m r x).pushes) (add_octet m c x) k
step m law r l c x k ir kept =
    elim (cases_Bool r.released) [
      | inl e ↦ rw e (step_released m law r l c x k ir (subst (λ (b : Bool). IsKeptOf m r.rest b (all_pushed l r.pushes) c k) e kept))
      | inr e ↦ rw e (step_open m law r l c x k ir (subst (λ (b : Bool). IsKeptOf m r.rest b (all_pushed l r.pushes) c k) e kept))
    ]

pub steps : (m : Meaning) → IsLawful m → (t : List ℕ) (r : Run) (l : Kept) (c : Cut) (k : ℕ) → IsRest m c.rest
    → IsKeptOf m r.rest r.released (all_pushed l r.pushes) c k
    → IsKeptOf m (run m r t).rest (run m r t).released (all_pushed l (run m r t).pushes) (fold (add_octet m) c t) k
steps m law [] r l c k ir kept = kept
steps m law (x ∷ t) r l c k ir kept = steps m law t (next m r x) l (add_octet m c x) k (IsRest-add_octet m law c x ir) (step m law r l c x k ir kept)

pub kept_on : (m : Meaning) → IsLawful m → (rest : List ℕ) (released : Bool) (l : Kept) (s t : List ℕ) (k : ℕ) → IsKept m rest released l s k
    → let r = run m (record { rest = rest; released = released; pushes = [] }) t in IsKept m r.rest r.released (all_pushed l r.pushes) (s ++ t) k
kept_on m law rest released l s t k kept =
    let r : Run = run m (record { rest = rest; released = released; pushes = [] }) t in
    subst (λ (c : Cut). IsKeptOf m r.rest r.released (all_pushed l r.pushes) c k)
    (sym (fold-append (add_octet m) (record { units = []; rest = [] }) s t))
    (steps m law t (record { rest = rest; released = released; pushes = [] }) l (cut m s) k (IsRest-cut m law s) kept)
