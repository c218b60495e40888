-- The sums of joined octets.
use Rattle.std.proofs.Common.{◌==◌, take, append_assoc, length-append, length-drop, zero, suc, get_or, drop, ◌≡◌, ℕ, ◌+◌, ◌-◌, ◌*◌, ◌/◌, ◌%◌, ◌^◌, ◌<◌, ◌≤◌, List, [], ◌∷◌, ◌++◌, length, sum, refl, ap, ◌∙◌, sym, arith, take-append-drop, drop-drop, length-take-le}
use Rattle.std.proofs.lemmas.Bool.Decides.{nat_tests}
use Rattle.std.proofs.lemmas.List.Sums.{sum_by-append, sum_by-cons}
use Rattle.byteorder.specs.Endian.{big_number, big_bytes, little_number, little_from}
use Rattle.gate_base.specs.Prelude.{u16_at, with_u16}
use Rattle.inet_sum.specs.Sum.{is_right, checksum, IsRight, pseudo_header, words, total, fold_of}

pub total_pair : (high low : ℕ) (rest : List ℕ) → total (high ∷ low ∷ rest) ≡ (high * 256 + low) + total rest
unfolding words
total_pair high low rest = sum_by-cons (λ x. x) (high * 256 + low) (words rest)

-- the words before an even place, and those behind it
pub words-append : (front back : List ℕ) → length front % 2 ≡ 0 → words (front ++ back) ≡ words front ++ words back
unfolding words
words-append [] back even = refl
words-append (x ∷ []) back even = cc
words-append (x ∷ y ∷ rest) back even = ap (λ ws. (x * 256 + y) ∷ ws) (words-append rest back (omega arith))

pub total-append : (front back : List ℕ) → length front % 2 ≡ 0 → total (front ++ back) ≡ total front + total back
total-append front back even = ap sum (words-append front back even) ∙ sum_by-append (λ x. x) (words front) (words back)

-- the total before an even place, and that behind it
pub total_cut : (place : ℕ) (octets : List ℕ) → place % 2 ≡ 0 → place ≤ length octets
    → total octets ≡ total (take place octets) + total (drop place octets)
total_cut place octets even within =
    let front : length (take place octets) % 2 ≡ 0 = rw (length-take-le place octets within) even in
    ap total (sym (take-append-drop place octets)) ∙ total-append (take place octets) (drop place octets) front

pub total_one : (x : ℕ) → total (x ∷ []) ≡ x * 256
unfolding words
total_one x = omega arith

pub total_none : total [] ≡ 0
unfolding words
total_none = refl

pub one_octet : (octets : List ℕ) → length octets ≡ 1 → total octets ≡ get_or octets 0 0 * 256
one_octet [] one = cc
one_octet (x ∷ []) one = total_one x
one_octet (x ∷ y ∷ more) one = absurd (omega arith)

pub third_octet : (octets : List ℕ) → length octets ≡ 3 → total (drop 2 octets) ≡ get_or octets 2 0 * 256
third_octet [] three = absurd (omega (arith, three))
third_octet (x ∷ []) three = absurd (omega (arith, three))
third_octet (x ∷ y ∷ rest) three = one_octet rest (omega (arith, three))

pub no_octet : (octets : List ℕ) → length octets < 1 → total octets ≡ 0
no_octet [] none = total_none
no_octet (x ∷ more) none = absurd (omega arith)

pub fold_again : (a b : ℕ) → fold_of (fold_of a + b) ≡ fold_of (a + b)
unfolding fold_of
fold_again a b = grind (arith, nat_tests)

pub fold_small : (n : ℕ) → fold_of n ≤ 65535
unfolding fold_of
fold_small n = grind (arith, nat_tests)

pub fold_complement : (n : ℕ) → fold_of (n + (65535 - fold_of n)) ≡ 65535
unfolding fold_of
fold_complement n = grind (arith, nat_tests)

-- 65535 more make no difference, but to nothing
fold_more : (a q : ℕ) → (a ≡ 0 → q ≡ 0) → fold_of (a + 65535 * q) ≡ fold_of a
unfolding fold_of
fold_more a q none = grind (arith, nat_tests)

-- numbers that fold the same
pub fold_same : (s a b : ℕ) → fold_of a ≡ fold_of b → fold_of (s + a) ≡ fold_of (s + b)
fold_same s a b same =
    let left : s + a ≡ a + s = omega arith in
    let right : b + s ≡ s + b = omega arith in
    ap fold_of left ∙ sym (fold_again a s) ∙ ap (λ n. fold_of (n + s)) same ∙ fold_again b s ∙ ap fold_of right

pub fold_both : (a b c d : ℕ) → fold_of a ≡ fold_of c → fold_of b ≡ fold_of d → fold_of (a + b) ≡ fold_of (c + d)
fold_both a b c d first second = sym (fold_again a b) ∙ ap (λ n. fold_of (n + b)) first ∙ fold_again c b ∙ fold_same c b d second

scaled : (a : ℕ) → fold_of (256 * fold_of a) ≡ fold_of (256 * a)
unfolding fold_of
scaled a = grind (arith, nat_tests)

-- a number times 256
pub fold_scaled : (a b : ℕ) → fold_of a ≡ fold_of b → fold_of (256 * a) ≡ fold_of (256 * b)
fold_scaled a b same = sym (scaled a) ∙ ap (λ n. fold_of (256 * n)) same ∙ scaled b

-- the halves of a number, of 128 bits and of 64
pub fold_wide : (n : ℕ) → fold_of (n / 18446744073709551616 + n % 18446744073709551616) ≡ fold_of n
fold_wide n =
    let halves = n / 18446744073709551616 + n % 18446744073709551616 in
    let parts : halves + 65535 * (281479271743489 * (n / 18446744073709551616)) ≡ n = omega arith in
    sym (fold_more halves (281479271743489 * (n / 18446744073709551616)) (λ none. omega (arith, none))) ∙ ap fold_of parts

pub fold_halves : (n : ℕ) → fold_of (n / 4294967296 + n % 4294967296) ≡ fold_of n
fold_halves n =
    let halves = n / 4294967296 + n % 4294967296 in
    let parts : halves + 65535 * (65537 * (n / 4294967296)) ≡ n = omega arith in
    sym (fold_more halves (65537 * (n / 4294967296)) (λ none. omega (arith, none))) ∙ ap fold_of parts

little_behind : (i n x : ℕ) (octets : List ℕ) → little_from (suc i) n (x ∷ octets) ≡ little_from i n octets
little_behind i zero x octets = refl
little_behind i (suc n) x octets = ap (λ m. get_or octets i 0 + 256 * m) (little_behind (suc i) n x octets)

-- an even number of octets, the lowest first, and what follows
pub lowest_first : (n : ℕ) (octets : List ℕ) → n % 2 ≡ 0 → n ≤ length octets
    → fold_of (256 * little_number n octets + total (drop n octets)) ≡ fold_of (total octets)
lowest_first zero octets even long = ap fold_of (omega arith)
lowest_first (suc zero) octets even long = absurd (omega arith)
lowest_first (suc (suc n)) [] even long = absurd (omega arith)
lowest_first (suc (suc n)) (x ∷ []) even long = absurd (omega arith)
lowest_first (suc (suc n)) (x ∷ y ∷ rest) even long =
    let low = 256 * little_number n rest in
    let behind : little_from 2 n (x ∷ y ∷ rest) ≡ little_number n rest = little_behind 1 n x (y ∷ rest) ∙ little_behind 0 n y rest in
    let word = x * 256 + y in
    let words = word + (low + total (drop n rest)) in
    let parts : 256 * little_number (suc (suc n)) (x ∷ y ∷ rest) + total (drop n rest) ≡ words + 65535 * (y + low) =
    omega (arith, behind)
    in
    ap fold_of parts ∙ fold_more words (y + low) (λ none. omega (arith, none))
    ∙ fold_same word (low + total (drop n rest)) (total rest) (lowest_first n rest (omega arith) (omega arith))
    ∙ ap fold_of (sym (total_pair x y rest))

-- one number of an even number of octets
pub number_folds : (n : ℕ) (octets : List ℕ) → n % 2 ≡ 0 → length octets ≡ n
    → fold_of (256 * little_number n octets) ≡ fold_of (total octets)
number_folds n octets even same =
    let none = no_octet (drop n octets) (omega (arith, length-drop n octets)) in
    ap fold_of (omega (arith, none)) ∙ lowest_first n octets even (omega arith)

-- one more part, that folds as its words do, and what follows
pub part_more : (s n : ℕ) (part rest : List ℕ) → length part % 2 ≡ 0 → fold_of (256 * n) ≡ fold_of (total part)
    → fold_of (256 * (s + n) + total rest) ≡ fold_of (256 * s + total (part ++ rest))
part_more s n part rest even folds =
    let before = 256 * s + total rest in
    let left : 256 * (s + n) + total rest ≡ before + 256 * n = omega arith in
    let right : before + total part ≡ 256 * s + total (part ++ rest) = omega (arith, total-append part rest even) in
    ap fold_of left ∙ fold_same before (256 * n) (total part) folds ∙ ap fold_of right

-- a right sum, of which a part is replaced
pub fold_moved : (a b f t : ℕ) → a ≤ 262140 → f ≤ 65535 → 0 < t → fold_of (a + (f + t)) ≡ 65535 → fold_of ((b + (327675 - a)) + (65535 - f))
    ≡ fold_of (b + t)
unfolding fold_of
fold_moved a b f t = grind (arith, nat_tests)

-- a right sum, and the field in it
pub fold_field : (r f : ℕ) → f < 65535 → fold_of (r + f) ≡ 65535 → f ≡ 65535 - fold_of r
unfolding fold_of
fold_field r f small right = grind (arith, nat_tests)

-- a checksum of 0 says that the one in the list is right
pub zero_if_right : (octets : List ℕ) → (checksum octets == 0) ≡ is_right octets
zero_if_right octets = let small = fold_small (total octets) in grind (arith, nat_tests)

-- octets that begin with a word
first_word : (octets : List ℕ) → 2 ≤ length octets → total octets ≡ big_number 2 octets + total (drop 2 octets)
first_word [] two = absurd (omega arith)
first_word (x ∷ []) two = absurd (omega arith)
first_word (x ∷ y ∷ rest) two = total_pair x y rest ∙ omega arith

-- the word at an even place, and the total of the rest
pub total_at : (place : ℕ) (octets : List ℕ) → place % 2 ≡ 0 → place + 2 ≤ length octets
    → total octets ≡ total (take place octets) + (u16_at place octets + total (drop (place + 2) octets))
total_at place octets even within =
    let long : 2 ≤ length (drop place octets) = omega (arith, length-drop place octets) in
    total_cut place octets even (omega arith)
    ∙ ap (λ n. total (take place octets) + n)
    (first_word (drop place octets) long ∙ ap (λ back. u16_at place octets + total back) (drop-drop 2 place octets))

pub total_with : (place value : ℕ) (octets : List ℕ) → value < 2 ^ 16 → place % 2 ≡ 0 → place + 2 ≤ length octets
    → total (with_u16 place value octets) ≡ total (take place octets) + (value + total (drop (place + 2) octets))
total_with place value octets small even within =
    let front : length (take place octets) % 2 ≡ 0 = rw (length-take-le place octets (omega arith)) even in
    ap total (append_assoc (take place octets) (big_bytes 2 value) (drop (place + 2) octets))
    ∙ total-append (take place octets) (big_bytes 2 value ++ drop (place + 2) octets) front
    ∙ ap (λ n. total (take place octets) + n) (total_pair (value / 256 % 256) (value % 256) (drop (place + 2) octets) ∙ omega arith)

-- a checksum in its field makes the list right
pub right_again : (place : ℕ) (octets : List ℕ) → place % 2 ≡ 0 → place + 2 ≤ length octets → u16_at place octets ≡ 0
    → IsRight (with_u16 place (checksum octets) octets)
right_again place octets even within empty =
    let new : total (with_u16 place (checksum octets) octets) ≡ total octets + checksum octets =
    omega (arith, total_with place (checksum octets) octets (omega arith) even within, total_at place octets even within)
    in
    ap fold_of new ∙ fold_complement (total octets)

high_word : (n : ℕ) → n < 2 ^ 32 → n / 16777216 % 256 * 256 + n / 65536 % 256 ≡ n / 65536
high_word n small = omega arith

low_word : (n : ℕ) → n / 256 % 256 * 256 + n % 256 ≡ n % 65536
low_word n = omega arith

-- an address, and what follows
total_address : (n : ℕ) (rest : List ℕ) → n < 2 ^ 32 → total (big_bytes 4 n ++ rest) ≡ (n / 65536 + n % 65536) + total rest
total_address n rest small =
    omega (
      arith,
      high_word n small,
      low_word n,
      total_pair (n / 16777216 % 256) (n / 65536 % 256) ((n / 256 % 256) ∷ (n % 256) ∷ rest),
      total_pair (n / 256 % 256) (n % 256) rest,
    )

pub total_pseudo : (source destination protocol count : ℕ) (octets : List ℕ) → source < 2 ^ 32 → destination < 2 ^ 32 → count < 2 ^ 16
    → total (pseudo_header source destination protocol count ++ octets)
    ≡ ((((source / 65536 + source % 65536) + (destination / 65536 + destination % 65536)) + protocol) + count) + total octets
total_pseudo source destination protocol count octets s d n =
    let last = big_bytes 2 count ++ octets in
    let from_protocol = 0 ∷ protocol ∷ last in
    omega (
      arith,
      total_address source (big_bytes 4 destination ++ from_protocol) s,
      total_address destination from_protocol d,
      total_pair 0 protocol last,
      total_pair (count / 256 % 256) (count % 256) octets,
      low_word count,
    )

pub length-with_u16 : (place value : ℕ) (octets : List ℕ) → place + 2 ≤ length octets → length (with_u16 place value octets) ≡ length octets
length-with_u16 place value octets within =
    omega (
      arith,
      length-append (take place octets) (value / 256 % 256 ∷ value % 256 ∷ []),
      length-append (take place octets ++ (value / 256 % 256 ∷ value % 256 ∷ [])) (drop (place + 2) octets),
      length-take-le place octets (omega arith),
      length-drop (place + 2) octets,
    )
