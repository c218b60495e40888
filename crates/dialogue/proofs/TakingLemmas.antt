-- The fronts of a rest.
use Rattle.std.proofs.Common.{◌≡◌, ◌≤◌, ℕ, true, false, List, ◌++◌, length, take, drop, sym, subst, arith, inl, inr, length-take-le, take-append-drop}
use Rattle.std.proofs.lemmas.Bool.{cases_Bool}
use Rattle.dialogue.specs.Prelude.{Meaning, IsRest, IsReleased, IsLawful}
use Rattle.dialogue.proofs.CutLemmas.{front_rest}

-- a front of a rest is a rest
pub rest-take : (m : Meaning) → IsLawful m → (w : List ℕ) (k : ℕ) → IsRest m w → IsRest m (take k w)
rest-take m law w k rest = front_rest m law (take k w) (drop k w) (subst (λ (u : List ℕ). IsRest m u) (sym (take-append-drop k w)) rest)

-- what is held, has been held with fewer octets too
pub held-take : (m : Meaning) → IsLawful m → (w : List ℕ) (k : ℕ) → IsRest m w → m.holds w ≡ true → 1 ≤ k → k ≤ length w → m.holds (take k w) ≡ true
held-take m law w k rest held low high =
    elim (cases_Bool (m.holds (take k w))) [
      | inl e ↦ e
      | inr free ↦
          let released : IsReleased m (take k w) =
          record { rest = rest-take m law w k rest; some = omega (arith, length-take-le k w high); free = free } in
          let whole : take k w ++ drop k w ≡ w = take-append-drop k w in
          let later : m.holds (take k w ++ drop k w) ≡ false = law.stays (take k w) (drop k w) released
          (subst (λ (u : List ℕ). IsRest m u) (sym whole) rest) in
          let now : m.holds w ≡ false = subst (λ (u : List ℕ). m.holds u ≡ false) whole later in
          cc
    ]
