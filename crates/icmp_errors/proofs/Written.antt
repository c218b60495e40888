-- Inner datagrams that were written, and how they read back.
use Rattle.std.proofs.Common.{◌≡◌, ℕ, ◌^◌, ◌<◌, ◌≤◌, Bool, true, if◌then◌else◌, List, ◌++◌, take, drop, length, Option, Some, None, Result, Ok, Err, IfSome, refl, sym, subst, arith}
use Rattle.std.proofs.lemmas.Bool.{and_parts, leb-true}
use Rattle.inet_sum.specs.Sum.{IsRight}
use Rattle.inet_sum.proofs.Words.{right_again}
use Rattle.ipv4_frames.proofs.Heads.{number_32}
use Rattle.ipv4_frames.proofs.Items.{items, front_items}
use Rattle.icmp_errors.specs.declared.BadInner.{BadInner}
use Rattle.icmp_errors.specs.declared.Inner.{Inner}
use Rattle.icmp_errors.specs.Inner.{is_inner, inner_fields, read_inner, addressed, inner_with, fields_with}

abbrev answer : Bool → ℕ → ℕ → ℕ → ℕ × ℕ → ℕ → Result Inner BadInner
answer holds source destination protocol ports sequence =
    let inner : Inner = record {
      source = record { 0 = source };
      destination = record { 0 = destination };
      protocol = protocol;
      ports = ports;
      sequence = sequence;
    } in
    if holds then Ok inner else Err (record {})

same_answer : (holds : Bool) (s t d e p n m : ℕ) (ports : ℕ × ℕ) → holds ≡ true → s ≡ t → d ≡ e → n ≡ m
    → answer holds s d p ports n ≡ answer true t e p ports m
same_answer holds s t d e p n m ports h first second third = cc

-- what is written, as it is read
abbrev reads_as : List ℕ → ℕ → ℕ → Option ℕ → Type 0
reads_as octets source destination sequence =
    read_inner (inner_with octets source destination sequence) ≡ Ok (fields_with (inner_fields octets) source destination sequence)

shown : (front rest : List ℕ) (source destination : ℕ) (sequence : Option ℕ) → source < 2 ^ 32 → destination < 2 ^ 32
    → IfSome sequence (λ n. n < 2 ^ 32) → let octets = items 0 28 front ++ rest in is_inner octets ≡ true
    → reads_as octets source destination sequence
unfolding inner_with
shown front rest source destination None s d n holds =
    let octets = items 0 28 front ++ rest in
    let old = inner_fields octets in
    same_answer (is_inner octets) _ source _ destination old.protocol old.sequence old.sequence old.ports holds (number_32 source s)
    (number_32 destination d) refl
shown front rest source destination (Some sequence) s d n holds =
    let octets = items 0 28 front ++ rest in
    let old = inner_fields octets in
    same_answer (is_inner octets) _ source _ destination old.protocol _ sequence old.ports holds (number_32 source s) (number_32 destination d)
    (number_32 sequence n)

right_shown : (front rest : List ℕ) (source destination : ℕ) (sequence : Option ℕ)
    → IsRight (take 20 (inner_with (items 0 28 front ++ rest) source destination sequence))
unfolding inner_with
right_shown front rest source destination None = right_again 10 (take 20 (addressed (items 0 28 front ++ rest) source destination)) refl
    (omega arith) refl
right_shown front rest source destination (Some sequence) = right_again 10 (take 20 (addressed (items 0 28 front ++ rest) source destination)) refl
    (omega arith) refl

pub long : (octets : List ℕ) → is_inner octets ≡ true → 28 ≤ length octets
long octets holds =
    let first = and_parts _ _ holds in
    let second = and_parts _ _ first.0 in
    let third = and_parts _ _ second.0 in
    leb-true _ _ third.0

pub reads_back : (octets : List ℕ) (source destination : ℕ) (sequence : Option ℕ) → source < 2 ^ 32 → destination < 2 ^ 32
    → IfSome sequence (λ n. n < 2 ^ 32) → is_inner octets ≡ true → reads_as octets source destination sequence
reads_back octets source destination sequence s d n holds =
    let P : List ℕ → Type 0 = λ m. is_inner m ≡ true → reads_as m source destination sequence in
    subst P (sym (front_items 28 octets (long octets holds))) (shown octets (drop 28 octets) source destination sequence s d n) holds

pub is_right_again : (octets : List ℕ) (source destination : ℕ) (sequence : Option ℕ) → is_inner octets ≡ true
    → IsRight (take 20 (inner_with octets source destination sequence))
is_right_again octets source destination sequence holds =
    let P : List ℕ → Type 0 = λ m. IsRight (take 20 (inner_with m source destination sequence)) in
    subst P (sym (front_items 28 octets (long octets holds))) (right_shown octets (drop 28 octets) source destination sequence)
