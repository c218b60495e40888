-- The walk finds the name that stands at a place, and no other.
use Rattle.std.proofs.Common.{◌≡◌, ℕ, zero, suc, ◌+◌, ◌-◌, ◌≤◌, ◌<◌, false, ltb, List, [], ◌∷◌, length, Some, None, refl, sym, ap, subst}
use Rattle.std.proofs.Common.{arith, inl, inr, nat_lt, ltb-false, ltb-true, le-ltb, lt-ltb, length-append, option_map, IfOk, Result, Ok, Err}
use Rattle.dns_names.specs.Prelude.{Root, Label, Pointer, Nothing, piece_at, Stands, AtRoot, AtLabel, AtPointer, NameAt, spelled, ReturnsRead}
use Rattle.dns_names.specs.Names.{Piece}
use Rattle.dns_names.specs.Walk.{Walked, walk_on, walk, name_at}
use Rattle.dns_names.proofs.Walking.{chosen}
use Rattle.dns_names.specs.declared.stop.NameStop.{NameStop}
use Rattle.dns_names.specs.declared.stop.NameStop.TheVariants.{BadDns, OutOfMemory}

walk-finds : (m : List ℕ) (start place : ℕ) (ls : List (List ℕ)) (after : ℕ) → Stands m start place ls after → (n room : ℕ)
    → length (spelled ls) ≤ room → start + room < n → walk n m room start place ≡ Some (ls, after)
walk-finds m _ _ _ _ s zero room le fuel = absurd (omega arith)
walk-finds m _ _ _ _ (AtRoot start place e) (suc n) room le fuel = rw e refl
walk-finds m _ _ _ _ (AtLabel start place l ls after e s) (suc n) room le fuel =
    let size = length-append l (spelled ls) in
    let fits : ltb room (1 + length l) ≡ false = le-ltb _ _ (omega arith) in
    rw (e, fits, walk-finds m start (place + 1 + length l) ls after s n (room - (1 + length l)) (omega arith) (omega arith)) refl
walk-finds m _ _ _ _ (AtPointer start place to ls after e lt s) (suc n) room le fuel =
    rw (e, lt-ltb _ _ lt, walk-finds m to to ls after s n room le (omega arith)) refl

pub record IsWalked (m : List ℕ) (room start place : ℕ) (ls : List (List ℕ)) (after : ℕ) : Type 0 where
  pub stands : Stands m start place ls after
  pub short : length (spelled ls) ≤ room

abbrev no_walk : Walked
no_walk = None

pub record Labelled (l : List ℕ) (w : Walked) (ls : List (List ℕ)) (after : ℕ) : Type 0 where
  pub rest : List (List ℕ)
  pub is : ls ≡ l ∷ rest
  pub was : w ≡ Some (rest, after)

labelled : (l : List ℕ) (w : Walked) (ls : List (List ℕ)) (after : ℕ)
    → option_map {U = List (List ℕ) × ℕ} (λ x. (l ∷ x.0, x.1)) w ≡ Some (ls, after) → Labelled l w ls after
labelled l None ls after e = absurd cc
labelled l (Some x) ls after e =
    let p : (l ∷ x.0, x.1) ≡ (ls, after) = cc in
    let q : x.1 ≡ after = ap (λ (y : List (List ℕ) × ℕ). y.1) p in
    record { rest = x.0; is = ap (λ (y : List (List ℕ) × ℕ). y.0) (sym p); was = ap (λ (k : ℕ). Some (x.0, k)) q }

pub record Ended (at : ℕ) (w : Walked) (ls : List (List ℕ)) (after : ℕ) : Type 0 where
  pub before : ℕ
  pub is : after ≡ at
  pub was : w ≡ Some (ls, before)

ended : (at : ℕ) (w : Walked) (ls : List (List ℕ)) (after : ℕ) → option_map {U = List (List ℕ) × ℕ} (λ x. (x.0, at)) w ≡ Some (ls, after)
    → Ended at w ls after
ended at None ls after e = absurd cc
ended at (Some x) ls after e =
    let p : (x.0, at) ≡ (ls, after) = cc in
    let q : x.0 ≡ ls = ap (λ (y : List (List ℕ) × ℕ). y.0) p in
    record { before = x.1; is = ap (λ (y : List (List ℕ) × ℕ). y.1) (sym p); was = ap (λ (k : List (List ℕ)). Some (k, x.1)) q }

walk_on-stands : (go : ℕ → ℕ → ℕ → Walked) (m : List ℕ)
    → ((room start place : ℕ) (ls : List (List ℕ)) (after : ℕ) → go room start place ≡ Some (ls, after) → IsWalked m room start place ls after) →
    (room start place : ℕ) (ls : List (List ℕ)) (after : ℕ) (p : Piece) → piece_at m place ≡ p → walk_on go p room start place ≡ Some (ls, after)
    → IsWalked m room start place ls after
walk_on-stands go m finds room start place ls after Root is e =
    let p : ([], place + 1) ≡ (ls, after) = cc in
    subst (λ (x : List (List ℕ) × ℕ). IsWalked m room start place x.0 x.1) p (record { stands = AtRoot start place is; short = omega arith })
walk_on-stands go m finds room start place ls after (Label l) is e =
    let rest = go (room - (1 + length l)) start (place + 1 + length l) in
    elim (chosen (nat_lt room (1 + length l)) no_walk (option_map {U = List (List ℕ) × ℕ} (λ x. (l ∷ x.0, x.1)) rest) (Some (ls, after)) e) [
      | inl t ↦ absurd (let q : no_walk ≡ Some (ls, after) = t.1 in cc)
      | inr f ↦
          let fits : 1 + length l ≤ room = ltb-false _ _ f.0 in
          let g = labelled l rest ls after f.1 in
          let r = finds (room - (1 + length l)) start (place + 1 + length l) g.rest after g.was in
          subst (λ (x : List (List ℕ)). IsWalked m room start place x after) (sym g.is) (record {
            stands = AtLabel start place l g.rest after is r.stands;
            short = omega (arith, length-append l (spelled g.rest), r.short);
          })
    ]
walk_on-stands go m finds room start place ls after (Pointer to) is e =
    elim (chosen (nat_lt to start) (option_map {U = List (List ℕ) × ℕ} (λ x. (x.0, place + 2)) (go room to to)) no_walk (Some (ls, after)) e) [
      | inl t ↦
          let g = ended (place + 2) (go room to to) ls after t.1 in
          let r = finds room to to ls g.before g.was in
          subst (λ (k : ℕ). IsWalked m room start place ls k) (sym g.is) (record {
            stands = AtPointer start place to ls g.before is (ltb-true _ _ t.0) r.stands;
            short = r.short;
          })
      | inr f ↦ absurd (let q : no_walk ≡ Some (ls, after) = f.1 in cc)
    ]
walk_on-stands go m finds room start place ls after Nothing is e = absurd cc

walk-stands : (n : ℕ) (m : List ℕ) (room start place : ℕ) (ls : List (List ℕ)) (after : ℕ) → walk n m room start place ≡ Some (ls, after)
    → IsWalked m room start place ls after
walk-stands zero m room start place ls after e = absurd cc
walk-stands (suc n) m room start place ls after e = walk_on-stands (λ r s p. walk n m r s p) m (λ r s p k a w. walk-stands n m r s p k a w) room start
    place ls after (piece_at m place) refl e

pub name_at-finds : (m : List ℕ) (place : ℕ) (ls : List (List ℕ)) (after : ℕ) → NameAt m place ls after → name_at m place ≡ Some (ls, after)
unfolding name_at
name_at-finds m place ls after n = walk-finds m place place ls after n.stands (suc (place + 254)) 254 n.short (omega arith)

pub name_at-is : (m : List ℕ) (place : ℕ) (ls : List (List ℕ)) (after : ℕ) → name_at m place ≡ Some (ls, after) → NameAt m place ls after
unfolding name_at
name_at-is m place ls after e = let r = walk-stands (suc (place + 254)) m 254 place place ls after e in record { stands = r.stands; short = r.short }

-- ---- what the reader returned

no_name : (m : List ℕ) (place : ℕ) (w : Walked) → name_at m place ≡ w → ((ls : List (List ℕ)) (after : ℕ) → NameAt m place ls after → ⊥)
    → name_at m place ≡ None
no_name m place None e h = e
no_name m place (Some x) e h = absurd (h x.0 x.1 (name_at-is m place x.0 x.1 e))

pub name-gives : (m : List ℕ) (place : ℕ) (r : Result (List (List ℕ) × ℕ) NameStop) → IfOk r (λ x. NameAt m place x.0 x.1)
    → (r ≡ Err BadDns → (ls : List (List ℕ)) (after : ℕ) → NameAt m place ls after → ⊥) → ReturnsRead (λ x. (x.0, x.1)) r (name_at m place)
name-gives m place (Ok x) found none = name_at-finds m place x.0 x.1 found
name-gives m place (Err BadDns) found none = no_name m place (name_at m place) refl (none refl)
name-gives m place (Err OutOfMemory) found none = tt
