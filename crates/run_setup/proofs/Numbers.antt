-- Decimal numbers, digit by digit.
use Rattle.std.proofs.Common.{◌≡◌, ℕ, ◌+◌, ◌*◌, ◌<◌, List, [], ◌∷◌, Some, None, nat_le, true, false, inl, inr, length, refl, arith}
use Rattle.std.proofs.lemmas.Bool.{cases_Bool, leb-true}
use Rattle.gate_base.specs.Address.{number_of}
use Rattle.run_setup.specs.Command.{number_behind}

pub no_digits : (limit number : ℕ) (xs : List ℕ) → length xs ≡ 0 → number_behind limit number xs ≡ Some number
unfolding number_behind
no_digits limit number [] e = refl
no_digits limit number (x ∷ xs) e = absurd (omega (arith, e))

pub other_octet : (limit number x : ℕ) (xs : List ℕ) → number_of (x ∷ []) ≡ None → number_behind limit number (x ∷ xs) ≡ None
unfolding number_behind number_of
other_octet limit number x xs e = rw e refl

pub above_limit : (limit number x digit : ℕ) (xs : List ℕ) → number_of (x ∷ []) ≡ Some digit → nat_le (10 * number + digit) limit ≡ false
    → number_behind limit number (x ∷ xs) ≡ None
unfolding number_behind number_of
above_limit limit number x digit xs e more = rw e (rw more refl)

pub one_digit : (limit number x digit : ℕ) (xs : List ℕ) → number_of (x ∷ []) ≡ Some digit → nat_le (10 * number + digit) limit ≡ true
    → number_behind limit number (x ∷ xs) ≡ number_behind limit (10 * number + digit) xs
unfolding number_behind number_of
one_digit limit number x digit xs e fits = rw e (rw fits refl)

pub more_than : (m n : ℕ) → n < m → nat_le m n ≡ false
more_than m n more = elim (cases_Bool (nat_le m n)) [ inl fits ↦ absurd (omega (arith, more, leb-true m n fits)) | inr less ↦ less ]
