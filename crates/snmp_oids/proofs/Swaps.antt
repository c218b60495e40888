-- With no rule, elements become what the renaming in place makes of them.
use Rattle.std.proofs.Common.{◌≡◌, ℕ, zero, suc, ◌+◌, ◌-◌, ◌≤◌, ◌&&◌, nat_lt, nat_le, List, [], ◌∷◌, ◌++◌, take, drop, length, Option, Some, None, option_map, option_and_then, unwrap_or, refl, ap, sym, ◌∙◌, arith, append_assoc, append-nil, length-append, length-drop, inl, inr}
use Rattle.std.proofs.lemmas.Bool.{cases_Bool}
use Rattle.std.proofs.lemmas.Bool.Decides.{nat_tests}
use Rattle.std.proofs.lemmas.Option.{same_Some}
use Rattle.std.proofs.lemmas.List.{take-append-drop, take_at, drop_at, drop_all}
use Rattle.byteorder.specs.Endian.{big_bytes, big_number}
use Rattle.byteorder.specs.Numbers.{big_from-append, length-bytes_high_first}
use Rattle.gate_base.specs.Prelude.{u32_at, with_u32}
use Rattle.snmp_gateway.specs.Element.{Element, element_at, element_with, length_at, is_long_form}
use Rattle.snmp_gateway.specs.Renaming.{renamed_at, renamed}
use Rattle.snmp_oids.specs.Elements.{head_of}

-- wherever octets stand, the renaming at places changes them so and nothing else
pub record Swaps (image : ℕ → Option ℕ) (places : List ℕ) (start : ℕ) (old new : List ℕ) : Type 0 where
  pub size : length new ≡ length old
  pub is : (before after : List ℕ) → length before ≡ start → renamed image places (before ++ old ++ after) ≡ before ++ new ++ after

renamed_both : (image : ℕ → Option ℕ) (ps qs octets : List ℕ) → renamed image (ps ++ qs) octets ≡ renamed image qs (renamed image ps octets)
unfolding renamed
renamed_both image [] qs octets = refl
renamed_both image (p ∷ ps) qs octets = renamed_both image ps qs (renamed_at image p octets)

pub swaps_none : (image : ℕ → Option ℕ) (start : ℕ) (xs : List ℕ) → Swaps image [] start xs xs
unfolding renamed
swaps_none image start xs = record { size = refl; is = λ before after at. refl }

inner : (a b c d : List ℕ) → a ++ (b ++ c) ++ d ≡ a ++ b ++ (c ++ d)
inner a b c d = simp append_assoc

outer : (a b c d : List ℕ) → a ++ b ++ (c ++ d) ≡ (a ++ b) ++ c ++ d
outer a b c d = simp append_assoc

pub swaps_both : (image : ℕ → Option ℕ) (ps qs : List ℕ) (start middle : ℕ) (xs ys us vs : List ℕ) → Swaps image ps start xs ys
    → Swaps image qs middle us vs → middle ≡ start + length xs → Swaps image (ps ++ qs) start (xs ++ us) (ys ++ vs)
swaps_both image ps qs start middle xs ys us vs first second place = record {
  size = omega (arith, length-append xs us, length-append ys vs, first.size, second.size);
  is = λ before after at.
      renamed_both image ps qs (before ++ (xs ++ us) ++ after)
      ∙ ap (λ o. renamed image qs (renamed image ps o)) (inner before xs us after)
      ∙ ap (renamed image qs) (first.is before (us ++ after) at ∙ outer before ys us after)
      ∙ second.is (before ++ ys) after (omega (arith, length-append before ys, first.size))
      ∙ sym (inner before ys vs after ∙ outer before ys vs after);
}

pub swaps_more : (image : ℕ → Option ℕ) (ps : List ℕ) (start middle : ℕ) (front xs ys : List ℕ) → Swaps image ps middle xs ys
    → middle ≡ start + length front → Swaps image ps start (front ++ xs) (front ++ ys)
swaps_more image ps start middle front xs ys swaps place = swaps_both image [] ps start middle front front xs ys (swaps_none image start front) swaps
    place

-- an address
one_place : (image : ℕ → Option ℕ) (place : ℕ) (octets : List ℕ) → renamed image (place ∷ []) octets ≡ renamed_at image place octets
unfolding renamed
one_place image place octets = refl

by_image : (o : Option ℕ) (start : ℕ) (before content after : List ℕ) → length before ≡ start → length content ≡ 4
    → unwrap_or (option_map (λ new. with_u32 start new (before ++ content ++ after)) o) (before ++ content ++ after) ≡ before
    ++ unwrap_or (option_map (λ new. with_u32 0 new content) o) content ++ after
by_image None start before content after at four = refl
by_image (Some new) start before content after at four =
    let kept : take start (before ++ content ++ after) ≡ before = ap (take start) (append_assoc before content after)
    ∙ take_at before (content ++ after) start at in
    let past : drop (start + 4) (before ++ content ++ after) ≡ after =
    drop_at (before ++ content) after (start + 4) (omega (arith, length-append before content)) in
    let none : drop (0 + 4) content ≡ [] = drop_all (0 + 4) content (omega arith) in
    ap (λ xs. xs ++ big_bytes 4 new ++ drop (start + 4) (before ++ content ++ after)) kept
    ∙ ap (λ xs. before ++ big_bytes 4 new ++ xs) past
    ∙ ap (λ xs. before ++ xs ++ after) (sym (ap (λ xs. big_bytes 4 new ++ xs) none ∙ append-nil (big_bytes 4 new)))

image_size : (o : Option ℕ) (content : List ℕ) → length content ≡ 4 → length (unwrap_or (option_map (λ new. with_u32 0 new content) o) content)
    ≡ length content
image_size None content four = refl
image_size (Some new) content four =
    let none : drop (0 + 4) content ≡ [] = drop_all (0 + 4) content (omega arith) in
    ap (λ xs. length (big_bytes 4 new ++ xs)) none ∙ ap length (append-nil (big_bytes 4 new)) ∙ length-bytes_high_first 4 new ∙ sym four

pub swaps_address : (image : ℕ → Option ℕ) (start : ℕ) (content : List ℕ) → length content ≡ 4
    → Swaps image (start ∷ []) start content (renamed_at image 0 content)
swaps_address image start content four = record {
  size = image_size (image (u32_at 0 content)) content four;
  is = λ before after at.
      let same : u32_at start (before ++ content ++ after) ≡ u32_at 0 content =
      ap (big_number 4) (ap (drop start) (append_assoc before content after) ∙ drop_at before (content ++ after) start at)
      ∙ big_from-append 4 content after (omega arith)
      in
      one_place image start (before ++ content ++ after)
      ∙ ap (λ n. unwrap_or (option_map (λ new. with_u32 start new (before ++ content ++ after)) (image n)) (before ++ content ++ after)) same
      ∙ by_image (image (u32_at 0 content)) start before content after at four;
}

record Ends (xs ys : List ℕ) : Type 0 where
  past : ℕ
  within : past ≤ length xs
  is : ys ≡ drop past xs

length_ends : (octets : List ℕ) (count : ℕ) (behind : List ℕ) → length_at octets ≡ Some (count, behind) → Ends octets behind
length_ends [] count behind e = cc
length_ends (first ∷ more) count behind e = elim (cases_Bool (nat_lt first 128)) [
  | inl short ↦ (
      let found = same_Some _ _ (rw short at e) in
      record { past = suc zero; within = omega arith; is = sym (ap (λ (p : ℕ × List ℕ). p.1) found) }
      )
  | inr long ↦ elim (cases_Bool (is_long_form first && nat_le (first - 128) (length more))) [
    | inl fits ↦ (
        let found = same_Some _ _ (rw (long, fits) at e) in
        let within : first - 128 ≤ length more = grind (arith, nat_tests) in
        record { past = suc (first - 128); within = omega arith; is = sym (ap (λ (p : ℕ × List ℕ). p.1) found) }
        )
    | inr other ↦ (let none = rw (long, other) at e in cc)
  ]
]

record Parts (octets : List ℕ) (element : Element) (rest : List ℕ) : Type 0 where
  past : ℕ
  within : past ≤ length octets
  is : element.content ++ rest ≡ drop past octets

with_parts : (tag count : ℕ) (octets : List ℕ) (element : Element) (rest : List ℕ) → element_with tag count octets ≡ Some (element, rest)
    → element.content ++ rest ≡ octets
with_parts tag count octets element rest e = elim (cases_Bool (nat_le count (length octets))) [
  | inl fits ↦ (
      let found = same_Some _ _ (rw fits at e) in
      sym (ap (λ (p : Element × List ℕ). p.0.content ++ p.1) found) ∙ take-append-drop count octets
      )
  | inr long ↦ (let none = rw long at e in cc)
]

parts_of : (octets : List ℕ) (element : Element) (rest : List ℕ) → element_at octets ≡ Some (element, rest) → Parts octets element rest
unfolding element_at
parts_of [] element rest e = cc
parts_of (tag ∷ more) element rest e = by_length (length_at more) refl e
  where
    by_length : (o : Option (ℕ × List ℕ)) → length_at more ≡ o → option_and_then (λ p. element_with tag p.0 p.1) o ≡ Some (element, rest)
        → Parts (tag ∷ more) element rest
    by_length None is e = cc
    by_length (Some (count, behind)) is e =
        let ends = length_ends more count behind is in
        record { past = suc ends.past; within = omega (arith, ends.within); is = with_parts tag count behind element rest e ∙ ends.is }

pub element_parts : (octets : List ℕ) (element : Element) (rest : List ℕ) → element_at octets ≡ Some (element, rest)
    → head_of octets (element, rest) ++ element.content ++ rest ≡ octets
element_parts octets element rest e =
    let parts = parts_of octets element rest e in
    let size = ap length parts.is in
    let place : length octets - length rest - length element.content ≡ parts.past =
    omega (arith, parts.within, length-append element.content rest, length-drop parts.past octets) in
    append_assoc (head_of octets (element, rest)) element.content rest
    ∙ ap (λ xs. head_of octets (element, rest) ++ xs) parts.is
    ∙ ap (λ n. take n octets ++ drop parts.past octets) place
    ∙ take-append-drop parts.past octets
