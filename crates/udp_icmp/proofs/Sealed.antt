-- Checksums that were made right.
use Rattle.std.proofs.Common.{Fits, w8, ◌||◌, get_or-drop, nat_lt, inl, inr, length-drop, ◌≡◌, ◌≢◌, ℕ, ◌+◌, ◌-◌, ◌*◌, ◌/◌, ◌%◌, ◌^◌, ◌<◌, ◌≤◌, ◌==◌, Bool, true, false, not, ◌&&◌, List, ◌++◌, get_or, length, drop, Ok, refl, ap, ◌∙◌, sym, subst, arith, eq-eqb}
use Rattle.std.proofs.lemmas.Bool.{cases_Bool}
use Rattle.std.proofs.lemmas.Bool.Decides.{nat_tests}
use Rattle.gate_base.specs.Prelude.{u16_at, with_u16}
use Rattle.inet_sum.specs.Sum.{total, fold_of, is_right, checksum, pseudo_header}
use Rattle.inet_sum.proofs.Words.{right_again, total_at, total_with, total_pseudo}
use Rattle.ipv4_frames.proofs.Items.{items, front_items}
use Rattle.udp_icmp.specs.Udp.{udp_fields_of, has_bad_length, has_bad_sum, udp_covered, udp_sum_of, read_udp, sealed_udp}
use Rattle.udp_icmp.specs.Icmp.{icmp_fields_of, read_icmp, sealed_icmp}

long_enough : (n : ℕ) → 8 ≤ n → nat_lt n 8 ≡ false
long_enough n long = grind (arith, nat_tests)

sealed_icmp_shown : (front rest : List ℕ) → read_icmp (sealed_icmp (items 0 8 front ++ rest)) ≡ Ok (icmp_fields_of (items 0 8 front ++ rest))
unfolding read_icmp sealed_icmp
sealed_icmp_shown front rest =
    let right = right_again 2 (with_u16 2 0 (items 0 8 front ++ rest)) refl (omega arith) refl in
    rw (long_enough (length (sealed_icmp (items 0 8 front ++ rest))) (omega arith), eq-eqb _ _ right)

pub sealed_icmp_reads : (message : List ℕ) → 8 ≤ length message → read_icmp (sealed_icmp message) ≡ Ok (icmp_fields_of message)
sealed_icmp_reads message long =
    let P : List ℕ → Type 0 = λ m. read_icmp (sealed_icmp m) ≡ Ok (icmp_fields_of m) in
    subst P (sym (front_items 8 message long)) (sealed_icmp_shown message (drop 8 message))

-- a sum as UDP writes it makes the octets right
written_fold : (n : ℕ) → fold_of (n + udp_sum_of (65535 - fold_of n)) ≡ 65535
unfolding fold_of
written_fold n = grind (arith, nat_tests)

written_range : (n : ℕ) → (udp_sum_of (65535 - n) < 2 ^ 16) × (udp_sum_of (65535 - n) ≢ 0)
written_range n = grind (arith, nat_tests)

sum_field : (n : ℕ) → n < 2 ^ 16 → n ≢ 0 → (n / 256 % 256 * 256 + (n % 256 * 1 + 0) == 0) ≡ false
sum_field n small some = grind (arith, nat_tests)

-- the covered octets with a checksum in its field
covered_total : (source destination sum : ℕ) (segment : List ℕ) → source < 2 ^ 32 → destination < 2 ^ 32 → sum < 2 ^ 16 → 8 ≤ length segment
    → length segment < 2 ^ 16 → u16_at 6 segment ≡ 0 → length (with_u16 6 sum segment) ≡ length segment
    → total (udp_covered source destination (with_u16 6 sum segment)) ≡ total (udp_covered source destination segment) + sum
covered_total source destination sum segment s d small long short empty count =
    ap (λ n. total (pseudo_header source destination 17 n ++ with_u16 6 sum segment)) count
    ∙ omega (
      arith,
      total_pseudo source destination 17 (length segment) segment s d short,
      total_pseudo source destination 17 (length segment) (with_u16 6 sum segment) s d short,
      total_at 6 segment refl (omega arith),
      total_with 6 sum segment small refl (omega arith),
    )

passes : (segment : List ℕ) (source destination : ℕ) → has_bad_length segment ≡ false → has_bad_sum source destination segment ≡ false
    → read_udp segment source destination ≡ Ok (udp_fields_of segment)
unfolding read_udp
passes segment source destination lengths sum = rw (lengths, sum)

is_sealed : (source destination : ℕ) (segment : List ℕ) → (u16_at 6 segment == 0) ≡ false
    → sealed_udp source destination segment ≡ with_u16 6 (udp_sum_of (checksum (udp_covered source destination (with_u16 6 0 segment))))
    (with_u16 6 0 segment)
unfolding sealed_udp
is_sealed source destination segment some = rw some

not_sealed : (source destination : ℕ) (segment : List ℕ) → (u16_at 6 segment == 0) ≡ true → sealed_udp source destination segment ≡ segment
unfolding sealed_udp
not_sealed source destination segment none = rw none

wrong_sum : (field_is_0 is_right : Bool) → field_is_0 ≡ false → is_right ≡ true → (not field_is_0 && not is_right) ≡ false
wrong_sum a b some right = rw (some, right)

-- a new checksum in its field
reads_with_sum : (source destination : ℕ) (front rest : List ℕ) → source < 2 ^ 32 → destination < 2 ^ 32 → 8 + length rest < 2 ^ 16 → let segment =
    items 0 8 front ++ rest in has_bad_length segment ≡ false → (u16_at 6 segment == 0) ≡ false
    → read_udp (sealed_udp source destination segment) source destination ≡ Ok (udp_fields_of segment)
reads_with_sum source destination front rest s d short lengths some =
    let segment = items 0 8 front ++ rest in
    let empty = with_u16 6 0 segment in
    let before = total (udp_covered source destination empty) in
    let sum = udp_sum_of (65535 - fold_of before) in
    let new = with_u16 6 sum empty in
    let range = written_range (fold_of before) in
    let field : (u16_at 6 new == 0) ≡ false = sum_field sum range.0 range.1 in
    let right : is_right (udp_covered source destination new) ≡ true =
    eq-eqb _ _ (ap fold_of (covered_total source destination sum empty s d range.0 (omega arith) (omega arith) refl refl) ∙ written_fold before)
    in
    ap (λ sealed. read_udp sealed source destination) (is_sealed source destination segment some)
    ∙ passes new source destination lengths (wrong_sum (u16_at 6 new == 0) (is_right (udp_covered source destination new)) field right)
    ∙ ap (λ has. Ok (record { source_port = u16_at 0 segment; destination_port = u16_at 2 segment; has_sum = not has; payload = rest }))
    (field ∙ sym some)

-- no checksum
reads_without_sum : (source destination : ℕ) (segment : List ℕ) → has_bad_length segment ≡ false → (u16_at 6 segment == 0) ≡ true
    → read_udp (sealed_udp source destination segment) source destination ≡ Ok (udp_fields_of segment)
reads_without_sum source destination segment lengths none =
    ap (λ sealed. read_udp sealed source destination) (not_sealed source destination segment none)
    ∙ passes segment source destination lengths (ap (λ b. not b && not (is_right (udp_covered source destination segment))) none)

pub long_segment : (segment : List ℕ) → has_bad_length segment ≡ false → 8 ≤ length segment
long_segment segment lengths = grind (arith, nat_tests)

pub sealed_udp_reads : (source destination : ℕ) (segment : List ℕ) → source < 2 ^ 32 → destination < 2 ^ 32 → length segment < 2 ^ 16
    → has_bad_length segment ≡ false → read_udp (sealed_udp source destination segment) source destination ≡ Ok (udp_fields_of segment)
sealed_udp_reads source destination segment s d short lengths =
    let P : List ℕ → Type 0 = λ m. has_bad_length m ≡ false → (u16_at 6 m == 0) ≡ false
    → read_udp (sealed_udp source destination m) source destination ≡ Ok (udp_fields_of m) in
    let long = long_segment segment lengths in
    elim (cases_Bool (u16_at 6 segment == 0)) [
      | inl none ↦ reads_without_sum source destination segment lengths none
      | inr some ↦ subst P (sym (front_items 8 segment long))
          (reads_with_sum source destination segment (drop 8 segment) s d (omega (arith, length-drop 8 segment))) lengths some
    ]

short_by : (high low count : ℕ) → high < 256 → low < 256 → (nat_lt count 8 || not (high * 256 + (low * 1 + 0) == count)) ≡ false → count < 2 ^ 16
short_by high low count h l lengths = grind (arith, nat_tests)

pub short_segment : (segment : List ℕ) → ((k : ℕ) → Fits w8 (get_or segment k 0)) → has_bad_length segment ≡ false → length segment < 2 ^ 16
short_segment segment fits lengths =
    let octet : (k : ℕ) → get_or (drop 4 segment) k 0 < 256 = λ k. rw (get_or-drop 4 segment k 0) (omega (arith, fits (4 + k))) in
    short_by (get_or (drop 4 segment) 0 0) (get_or (drop 4 segment) 1 0) (length segment) (octet 0) (octet 1) lengths
