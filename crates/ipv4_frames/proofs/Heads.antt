-- Headers that were written, and how they read back.
use Rattle.std.proofs.Common.{◌≡◌, ℕ, ◌+◌, ◌*◌, ◌/◌, ◌%◌, ◌^◌, ◌<◌, ◌≤◌, List, [], ◌∷◌, ◌++◌, length, take, drop, slice_index, slice_range, true, false, Ok, refl, ap, ◌∙◌, sym, subst, arith, ◌==◌, ◌-◌, not, Result, length-append, length-drop, eq-eqb}
use Rattle.std.proofs.lemmas.Bool.Decides.{nat_tests}
use Rattle.gate_base.specs.Prelude.{u16_at, u32_at}
use Rattle.std.proofs.Math.ListN.{get_or-append}
use Rattle.std.proofs.lemmas.List.{take_at, drop_at, drop_all, drop-append-le}
use Rattle.std.proofs.Math.Seq.{take-length}
use Rattle.byteorder.specs.Endian.{big_number}
use Rattle.byteorder.specs.Numbers.{big_from-append}
use Rattle.inet_sum.specs.Sum.{IsRight, is_right}
use Rattle.ipv4_frames.specs.declared.fault.IpFault.{IpFault}
use Rattle.inet_sum.proofs.Words.{right_again}
use Rattle.ipv4_frames.specs.Ipv4.{Datagram, fields_of, IsPlainHead, head_with, spelled_head, total_length_of, header_length_of, is_not_ipv4, has_bad_header, is_fragment, read_datagram}
use Rattle.ipv4_frames.proofs.Items.{items, front_items}
use Rattle.ipv4_frames.proofs.Reading.{accepted}

-- what a written header holds
pub record HoldsFields (head model : List ℕ) (total lifetime source destination : ℕ) : Type 0 where
  pub count : length head ≡ 20
  pub right : IsRight head
  pub first : slice_index head 0 ≡ slice_index model 0
  pub total_is : u16_at 2 head ≡ total
  pub fragment : u16_at 6 head ≡ u16_at 6 model
  pub lifetime_is : slice_index head 8 ≡ lifetime
  pub protocol : slice_index head 9 ≡ slice_index model 9
  pub source_is : u32_at 12 head ≡ source
  pub destination_is : u32_at 16 head ≡ destination

number_16 : (n : ℕ) → n < 2 ^ 16 → u16_at 0 (n / 256 % 256 ∷ n % 256 ∷ []) ≡ n
number_16 n small = omega arith

pub number_32 : (n : ℕ) → n < 2 ^ 32 → u32_at 0 (n / 16777216 % 256 ∷ n / 65536 % 256 ∷ n / 256 % 256 ∷ n % 256 ∷ []) ≡ n
number_32 n small = omega arith

holds_items : (model : List ℕ) (total lifetime source destination : ℕ) → total < 2 ^ 16 → source < 2 ^ 32 → destination < 2 ^ 32
    → HoldsFields (spelled_head (items 0 20 model) total lifetime source destination) (items 0 20 model) total lifetime source destination
unfolding head_with
holds_items model total lifetime source destination t s d = record {
  count = refl;
  right = right_again 10 (head_with (items 0 20 model) total lifetime source destination) refl (omega arith) refl;
  first = refl;
  total_is = number_16 total t;
  fragment = refl;
  lifetime_is = refl;
  protocol = refl;
  source_is = number_32 source s;
  destination_is = number_32 destination d;
}

pub holds_fields : (model : List ℕ) (total lifetime source destination : ℕ) → length model ≡ 20 → total < 2 ^ 16 → source < 2 ^ 32
    → destination < 2 ^ 32 → HoldsFields (spelled_head model total lifetime source destination) model total lifetime source destination
holds_fields model total lifetime source destination count t s d =
    let none : drop 20 model ≡ [] = drop_all 20 model (omega arith) in
    let shown : items 0 20 model ≡ model = sym (ap (λ more. items 0 20 model ++ more) none) ∙ sym (front_items 20 model (omega arith)) in
    let P : List ℕ → Type 0 = λ m. HoldsFields (spelled_head m total lifetime source destination) m total lifetime source destination in
    subst P shown (holds_items model total lifetime source destination t s d)

version_ok : (octets : List ℕ) (more : ℕ) → slice_index octets 0 ≡ 0x45 → length octets ≡ 20 + more → is_not_ipv4 octets ≡ false
version_ok octets more first count = grind (arith, nat_tests)

lengths_ok : (octets : List ℕ) (more : ℕ) → header_length_of octets ≡ 20 → total_length_of octets ≡ 20 + more → length octets ≡ 20 + more
    → has_bad_header octets ≡ false
lengths_ok octets more header total count = grind (arith, nat_tests)

fragment_ok : (octets : List ℕ) → u16_at 6 octets % 2 ^ 14 ≡ 0 → is_fragment octets ≡ false
fragment_ok octets none = grind (arith, nat_tests)

-- a field of the front
u16_front : (place : ℕ) (front back : List ℕ) → place + 2 ≤ length front → u16_at place (front ++ back) ≡ u16_at place front
u16_front place front back within =
    let in_front : place ≤ length front = omega arith in
    ap (big_number 2) (drop-append-le place front back in_front) ∙ big_from-append 2 (drop place front) back (omega (arith, length-drop place front))

abbrev datagram : List ℕ → List ℕ → ℕ → ℕ → ℕ → ℕ → Result Datagram IpFault
datagram header payload source destination protocol lifetime =
    Ok (record { source = source; destination = destination; protocol = protocol; lifetime = lifetime; header = header; payload = payload })

fields_are : (header payload : List ℕ) (a b c d source destination protocol lifetime : ℕ) → a ≡ source → b ≡ destination → c ≡ protocol → d ≡ lifetime
    → datagram header payload a b c d ≡ datagram header payload source destination protocol lifetime
fields_are header payload a b c d source destination protocol lifetime first second third fourth = cc

-- a written header and the payload that it counts
reads_head : (head model payload : List ℕ) (lifetime source destination : ℕ)
    → HoldsFields head model (20 + length payload) lifetime source destination → IsPlainHead model → 20 + length payload < 2 ^ 16
    → read_datagram (head ++ payload)
    ≡ Ok (record {
      source = source;
      destination = destination;
      protocol = slice_index model 9;
      lifetime = lifetime;
      header = head;
      payload = payload;
    })
reads_head head model payload lifetime source destination holds plain fits =
    let whole = head ++ payload in
    let count : length whole ≡ 20 + length payload = omega (arith, length-append head payload, holds.count) in
    let first : slice_index whole 0 ≡ 0x45 = get_or-append head payload 0 0 (omega (arith, holds.count)) ∙ holds.first ∙ plain.0 in
    let total : total_length_of whole ≡ 20 + length payload = u16_front 2 head payload (omega (arith, holds.count)) ∙ holds.total_is in
    let size : total_length_of whole - 20 ≡ length payload = omega (arith, total) in
    let fragment : u16_at 6 whole % 2 ^ 14 ≡ 0 = rw (u16_front 6 head payload (omega (arith, holds.count)), holds.fragment) plain.1 in
    let header : header_length_of whole ≡ 20 = ap (λ n. n % 16 * 4) first in
    let front : take 20 whole ≡ head = take_at head payload 20 holds.count in
    let sum : is_right (take (header_length_of whole) whole) ≡ true = ap (λ n. is_right (take n whole)) header ∙ ap is_right front
    ∙ eq-eqb _ _ holds.right in
    let back : slice_range whole 20 (total_length_of whole) ≡ payload =
    ap (λ n. take n (drop 20 whole)) size ∙ ap (take (length payload)) (drop_at head payload 20 holds.count) ∙ take-length payload
    in
    accepted whole (version_ok whole (length payload) first count) (lengths_ok whole (length payload) header total count) (ap not sum)
    (fragment_ok whole fragment) (ap (λ n. not (n == 20)) header)
    ∙ ap (λ f. Ok (fields_of f (slice_range whole 20 (total_length_of whole)))) front
    ∙ ap (λ b. Ok (fields_of head b)) back
    ∙ fields_are head payload (u32_at 12 head) (u32_at 16 head) (slice_index head 9) (slice_index head 8) source destination (slice_index model 9)
    lifetime holds.source_is holds.destination_is holds.protocol holds.lifetime_is

pub reads_written : (model payload : List ℕ) (lifetime source destination : ℕ) → length model ≡ 20 → IsPlainHead model → 20 + length payload < 2 ^ 16
    → source < 2 ^ 32 → destination < 2 ^ 32 → let head = spelled_head model (20 + length payload) lifetime source destination in
    read_datagram (head ++ payload)
    ≡ Ok (record {
      source = source;
      destination = destination;
      protocol = slice_index model 9;
      lifetime = lifetime;
      header = head;
      payload = payload;
    })
reads_written model payload lifetime source destination count plain fits s d =
    reads_head (spelled_head model (20 + length payload) lifetime source destination) model payload lifetime source destination
    (holds_fields model (20 + length payload) lifetime source destination count fits s d) plain fits

-- how long a written header is
head_shown : (front rest : List ℕ) (total lifetime source destination : ℕ)
    → length (spelled_head (items 0 20 front ++ rest) total lifetime source destination) ≡ 20 + length rest
unfolding head_with
head_shown front rest total lifetime source destination = omega arith

pub head_long : (model : List ℕ) (total lifetime source destination : ℕ) → length model ≡ 20
    → length (spelled_head model total lifetime source destination) ≡ 20
head_long model total lifetime source destination count =
    let shown : length (spelled_head model total lifetime source destination) ≡ 20 + length (drop 20 model) =
    subst (λ (m : List ℕ). length (spelled_head m total lifetime source destination) ≡ 20 + length (drop 20 model))
    (sym (front_items 20 model (omega (arith, count)))) (head_shown model (drop 20 model) total lifetime source destination) in
    omega (arith, shown, length-drop 20 model, count)
