-- What stands at a place decides how a name goes on there.
use Rattle.std.proofs.Common.{◌≡◌, ℕ, ◌+◌, ◌<◌, List, [], ◌∷◌, length, refl, sym, ap, subst, ◌∙◌}
use Rattle.dns_names.specs.Prelude.{Root, Label, Pointer, Nothing, piece_at, Stands, AtRoot, AtLabel, AtPointer}

pub record GoesOn (m : List ℕ) (start next : ℕ) (l : List ℕ) (ls : List (List ℕ)) (after : ℕ) : Type 0 where
  pub rest : List (List ℕ)
  pub is : ls ≡ l ∷ rest
  pub stands : Stands m start next rest after

pub at_root : (m : List ℕ) (start place : ℕ) (ls : List (List ℕ)) (after : ℕ) → Stands m start place ls after → piece_at m place ≡ Root → (ls ≡ [])
    × (after ≡ place + 1)
at_root m _ _ _ _ (AtRoot start place e) p = (refl, refl)
at_root m _ _ _ _ (AtLabel start place l ls after e s) p = absurd cc
at_root m _ _ _ _ (AtPointer start place to ls after e lt s) p = absurd cc

pub at_label : (m : List ℕ) (start place : ℕ) (ls : List (List ℕ)) (after : ℕ) (l : List ℕ) → Stands m start place ls after
    → piece_at m place ≡ Label l → GoesOn m start (place + 1 + length l) l ls after
at_label m _ _ _ _ k (AtRoot start place e) p = absurd cc
at_label m _ _ _ _ k (AtLabel start place l ls after e s) p =
    let q : l ≡ k = cc in
    record { rest = ls; is = ap (λ (x : List ℕ). x ∷ ls) q; stands = subst (λ (x : List ℕ). Stands m start (place + 1 + length x) ls after) q s }
at_label m _ _ _ _ k (AtPointer start place to ls after e lt s) p = absurd cc

pub at_pointer : (m : List ℕ) (start place : ℕ) (ls : List (List ℕ)) (after to : ℕ) → Stands m start place ls after → piece_at m place ≡ Pointer to
    → (to < start) × (after ≡ place + 2) × ((b : ℕ) × Stands m to to ls b)
at_pointer m _ _ _ _ k (AtRoot start place e) p = absurd cc
at_pointer m _ _ _ _ k (AtLabel start place l ls after e s) p = absurd cc
at_pointer m _ _ _ _ k (AtPointer start place to ls after e lt s) p =
    let q : to ≡ k = cc in
    (subst (λ (x : ℕ). x < start) q lt, refl, (after, subst (λ (x : ℕ). Stands m x x ls after) q s))

pub at_nothing : (m : List ℕ) (start place : ℕ) (ls : List (List ℕ)) (after : ℕ) → Stands m start place ls after → piece_at m place ≡ Nothing → ⊥
at_nothing m _ _ _ _ (AtRoot start place e) p = absurd cc
at_nothing m _ _ _ _ (AtLabel start place l ls after e s) p = absurd cc
at_nothing m _ _ _ _ (AtPointer start place to ls after e lt s) p = absurd cc

-- The labels and the place after them are determined.
pub same_name : (m : List ℕ) (start place : ℕ) (ls ks : List (List ℕ)) (after past : ℕ) → Stands m start place ls after → Stands m start place ks past
    → (ls ≡ ks) × (after ≡ past)
same_name m _ _ _ ks _ past (AtRoot start place e) t =
    let r = at_root m start place ks past t e in (sym r.0, sym r.1)
same_name m _ _ _ ks _ past (AtLabel start place l ls after e s) t =
    let r = at_label m start place ks past l t e in
    let q = same_name m start (place + 1 + length l) ls r.rest after past s r.stands in
    (ap (λ (x : List (List ℕ)). l ∷ x) q.0 ∙ sym r.is, q.1)
same_name m _ _ _ ks _ past (AtPointer start place to ls after e lt s) t =
    let r = at_pointer m start place ks past to t e in
    let q = same_name m to to ls ks after r.2.0 s r.2.1 in
    (q.0, sym r.1)
