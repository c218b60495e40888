-- Sub-identifiers one after another.
use Rattle.std.proofs.Common.{◌≡◌, ℕ, ◌+◌, ◌-◌, ◌*◌, ◌%◌, ◌<◌, ◌≤◌, ◌==◌, ◌&&◌, Bool, true, false, nat_lt, if◌then◌else◌, List, [], ◌∷◌, get_or, take, drop, length, ◌||◌, Option, Some, None, option_map, unwrap_or, is_some, IsSome, IfNone, refl, ap, sym, ◌∙◌, arith, drop-cons, add-one}
use Rattle.std.proofs.lemmas.Bool.{and_parts}
use Rattle.std.proofs.lemmas.Bool.Decides.{nat_tests}
use Rattle.std.proofs.lemmas.List.{drop_all, take_rest}
use Rattle.gate_base.proofs.Options.{some_mapped}
use Rattle.gate_base.specs.Prelude.{◌>>=◌}
use Rattle.gate_base.specs.declared.rule.TheConstants.{GREATEST_ARC}
use Rattle.snmp_oids.specs.Arcs.{joined, numbers_from, numbers_of}

-- numbers go on with one more octet
numbers_at : (s : ℕ) (xs : List ℕ) (i : ℕ) → i < length xs → numbers_from s (drop i xs)
    ≡ (joined s (get_or xs i 0) >>= λ number. if nat_lt (get_or xs i 0) 128 then option_map (λ numbers. number ∷ numbers)
    (numbers_from 0 (drop (i + 1) xs)) else numbers_from number (drop (i + 1) xs))
unfolding numbers_from
numbers_at s xs i below = rw (add-one, drop-cons xs i 0)

by_octet : {A : Type 0} (o : Option ℕ) (f : ℕ → Option A) (r : Option A) → r ≡ (o >>= f) → (p : Option ℕ) → p ≡ o → (v : Option A) → (p >>= f) ≡ v
    → r ≡ v
by_octet o f r e p same v is = e ∙ ap (λ o. o >>= f) (sym same) ∙ is

chosen : {A : Type 0} (test : Bool) (value : Bool) (x y : A) → test ≡ value → (if test then x else y) ≡ (if value then x else y)
chosen test value x y e = ap (λ b. if b then x else y) e

below_128 : (octet : ℕ) → octet < 128 → nat_lt octet 128 ≡ true
below_128 octet below = grind (arith, nat_tests)

above_128 : (octet : ℕ) → 128 ≤ octet → nat_lt octet 128 ≡ false
above_128 octet above = grind (arith, nat_tests)

pub numbers_stop : (s : ℕ) (xs : List ℕ) (i : ℕ) (o : Option ℕ) → i < length xs → o ≡ joined s (get_or xs i 0) → o ≡ None
    → numbers_from s (drop i xs) ≡ None
numbers_stop s xs i o below found none = by_octet _ _ _ (numbers_at s xs i below) None (sym none ∙ found) _ refl

pub numbers_go : (s : ℕ) (xs : List ℕ) (i : ℕ) (o : Option ℕ) (n : ℕ) → i < length xs → o ≡ joined s (get_or xs i 0) → o ≡ Some n
    → 128 ≤ get_or xs i 0 → numbers_from s (drop i xs) ≡ numbers_from n (drop (i + 1) xs)
numbers_go s xs i o n below found is above =
    by_octet _ _ _ (numbers_at s xs i below) (Some n) (sym is ∙ found) _
    (chosen (nat_lt (get_or xs i 0) 128) false _ _ (above_128 (get_or xs i 0) above))

pub numbers_end : (s : ℕ) (xs : List ℕ) (i : ℕ) (o : Option ℕ) (n : ℕ) → i < length xs → o ≡ joined s (get_or xs i 0) → o ≡ Some n
    → get_or xs i 0 < 128 → numbers_from s (drop i xs) ≡ option_map (λ numbers. n ∷ numbers) (numbers_of (drop (i + 1) xs))
numbers_end s xs i o n below found is under =
    by_octet _ _ _ (numbers_at s xs i below) (Some n) (sym is ∙ found) _
    (chosen (nat_lt (get_or xs i 0) 128) true _ _ (below_128 (get_or xs i 0) under))

-- a sub-identifier of one octet
joined_one : (octet : ℕ) → octet < 128 → joined 0 octet ≡ Some octet
joined_one octet below =
    let number : 128 * 0 + octet % 128 ≡ octet = omega (arith, below) in
    let other : (octet == 128) ≡ false = grind (arith, nat_tests) in
    let fits : nat_lt GREATEST_ARC octet ≡ false = grind (arith, nat_tests) in
    ap (λ n. if (octet == 128) || nat_lt GREATEST_ARC n then None else Some n) number
    ∙ ap (λ b. if b || nat_lt GREATEST_ARC octet then None else Some octet) other
    ∙ ap (λ b. if b then None else Some octet) fits

pub one_octet : (octet number : ℕ) (xs rest : List ℕ) → xs ≡ octet ∷ rest → number ≡ octet → octet < 128
    → numbers_of xs ≡ option_map (λ numbers. number ∷ numbers) (numbers_of rest)
unfolding numbers_from
one_octet octet number xs rest is same below =
    ap numbers_of is
    ∙ ap (λ o. o >>= λ n. if nat_lt octet 128 then option_map (λ numbers. n ∷ numbers) (numbers_from 0 rest) else numbers_from n rest)
    (joined_one octet below)
    ∙ chosen (nat_lt octet 128) true _ _ (below_128 octet below)
    ∙ ap (λ n. option_map (λ numbers. n ∷ numbers) (numbers_from 0 rest)) (sym same)

pub numbers_past : (s : ℕ) (xs : List ℕ) (i : ℕ) → length xs ≤ i → numbers_from s (drop i xs) ≡ (if s == 0 then Some [] else None)
unfolding numbers_from
numbers_past s xs i past = rw drop_all

pub some_test : {A : Type 0} (b : Bool) (x : A) → is_some (if b then Some x else None) ≡ b
some_test true x = refl
some_test false x = refl

-- one octet more
pub whole_goes : (s : ℕ) (xs : List ℕ) (i : ℕ) (b : Bool) → i < length xs → b ≡ (s == 0 && nat_lt (get_or xs i 0) 128) → b ≡ true
    → is_some (numbers_from s (drop (i + 1) xs)) ≡ is_some (numbers_from s (drop i xs))
whole_goes s xs i b below is yes_is =
    let octet = get_or xs i 0 in
    let both = and_parts (s == 0) (nat_lt octet 128) (sym is ∙ yes_is) in
    let first : (s == 0) ≡ true = both.0 in
    let second : nat_lt octet 128 ≡ true = both.1 in
    let begins : s ≡ 0 = grind (arith, nat_tests) in
    let under : octet < 128 = grind (arith, nat_tests) in
    ap (λ n. is_some (numbers_from n (drop (i + 1) xs))) begins
    ∙ sym (some_mapped (λ numbers. octet ∷ numbers) (numbers_of (drop (i + 1) xs)))
    ∙ sym (ap is_some (numbers_end 0 xs i (Some octet) octet below (sym (joined_one octet under)) refl under))
    ∙ sym (ap (λ n. is_some (numbers_from n (drop i xs))) begins)

pub number_found : (s : ℕ) (xs : List ℕ) (i : ℕ) (o : Option ℕ) (n : ℕ) → i < length xs → o ≡ joined s (get_or xs i 0) → o ≡ Some n
    → get_or xs i 0 < 128 → numbers_from s (drop i xs) ≡ numbers_from 0 xs
    → numbers_of xs ≡ option_map (λ numbers. n ∷ numbers) (numbers_of (take (length xs - (i + 1)) (drop (i + 1) xs)))
number_found s xs i o n below found is under same =
    sym same ∙ numbers_end s xs i o n below found is under ∙ ap (λ ys. option_map (λ numbers. n ∷ numbers) (numbers_of ys))
    (sym (take_rest xs (i + 1)))

pub never_none : {A : Type 0} (r : Option A) (o : Option (List ℕ)) → o ≡ None → IfNone r (IsSome o → o ≡ Some [])
never_none None o none = λ some. cc
never_none (Some x) o none = tt

pub at_end : (s : ℕ) (o : Option (List ℕ)) → o ≡ (if s == 0 then Some [] else None) → IsSome o → o ≡ Some []
at_end s o e some = by_test (s == 0) e
  where
    by_test : (b : Bool) → o ≡ (if b then Some [] else None) → o ≡ Some []
    by_test true is = is
    by_test false is = (let wrong = sym (ap is_some is) ∙ some in cc)

-- one number more
pub record More (o rest : Option (List ℕ)) (n : ℕ) : Type 0 where
  pub is : unwrap_or o [] ≡ n ∷ unwrap_or rest []
  pub some : IsSome rest
  pub rest_is : rest ≡ Some (unwrap_or rest [])
  pub all_is : o ≡ Some (n ∷ unwrap_or rest [])

pub one_more : (o rest : Option (List ℕ)) (n : ℕ) → o ≡ option_map (λ numbers. n ∷ numbers) rest → IsSome o → More o rest n
one_more o None n e some = (let wrong = sym (ap is_some e) ∙ some in absurd cc)
one_more o (Some ns) n e some = record { is = ap (λ o. unwrap_or o []) e; some = refl; rest_is = refl; all_is = e }

pub none_left : (o : Option (List ℕ)) → o ≡ Some [] → unwrap_or o [] ≡ []
none_left o e = ap (λ o. unwrap_or o []) e

pub all_of : {A : Type 0} (o : Option (List A)) → IsSome o → o ≡ Some (unwrap_or o [])
all_of None some = cc
all_of (Some x) some = refl
