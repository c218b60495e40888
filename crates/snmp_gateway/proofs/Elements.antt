-- What an element's first octets decide.
use Rattle.std.proofs.Common.{◌≡◌, ℕ, zero, suc, ◌+◌, ◌-◌, ◌<◌, ◌≤◌, true, ◌&&◌, nat_lt, nat_le, List, [], ◌∷◌, get_or, take, drop, length, Option, Some, None, option_and_then, inl, inr, refl, ap, ◌∙◌, sym, arith, length-drop, length-take-le}
use Rattle.std.proofs.lemmas.Bool.{cases_Bool}
use Rattle.std.proofs.lemmas.Bool.Decides.{nat_tests}
use Rattle.std.proofs.lemmas.Option.{same_Some}
use Rattle.byteorder.specs.Endian.{big_from}
use Rattle.snmp_gateway.specs.Element.{Element, is_long_form, length_at, element_with, element_at}

pub record Sized (tag count : ℕ) (octets : List ℕ) (element : Element) (rest : List ℕ) : Type 0 where
  pub tag_is : element.tag ≡ tag
  pub content_is : length element.content ≡ count
  pub rest_is : count + length rest ≡ length octets

with_size : (tag count : ℕ) (octets : List ℕ) (element : Element) (rest : List ℕ) → element_with tag count octets ≡ Some (element, rest)
    → Sized tag count octets element rest
with_size tag count octets element rest e = elim (cases_Bool (nat_le count (length octets))) [
  | inl fits ↦ (
      let found = same_Some _ _ (rw fits at e) in
      let content = sym (ap (λ p. p.0.content) found) in
      let behind = sym (ap (λ p. p.1) found) in
      let within : count ≤ length octets = grind (arith, nat_tests) in
      record {
        tag_is = sym (ap (λ p. p.0.tag) found);
        content_is = ap length content ∙ length-take-le count octets within;
        rest_is = omega (arith, ap length behind, length-drop count octets);
      }
      )
  | inr long ↦ (let none = rw long at e in cc)
]

same_number : (i n : ℕ) (xs ys : List ℕ) → ((k : ℕ) → k < i + n → get_or ys k 0 ≡ get_or xs k 0) → big_from i n ys ≡ big_from i n xs
same_number i zero xs ys same = refl
same_number i (suc n) xs ys same =
    let here : get_or ys i 0 ≡ get_or xs i 0 = same i (omega arith) in
    let more : big_from (suc i) n ys ≡ big_from (suc i) n xs = same_number (suc i) n xs ys (λ k below. same k (omega arith)) in
    rw (here, more)

pub record Again (first count : ℕ) (more new behind : List ℕ) : Type 0 where
  pub rest : List ℕ
  pub found : length_at (first ∷ new) ≡ Some (count, rest)
  pub size : length rest ≡ length behind
  pub within : length behind ≤ length more

length_again : (first count : ℕ) (more new behind : List ℕ) → length_at (first ∷ more) ≡ Some (count, behind) → length new ≡ length more
    → ((k : ℕ) → k < length more - length behind → get_or new k 0 ≡ get_or more k 0) → Again first count more new behind
length_again first count more new behind e size same = elim (cases_Bool (nat_lt first 128)) [
  | inl short ↦ (
      let found = same_Some _ _ (rw short at e) in
      let number = ap (λ p. p.0) found in
      let is = ap (λ p. p.1) found in
      record { rest = new; found = rw short (ap (λ n. Some (n, new)) number); size = size ∙ ap length is; within = omega (arith, ap length is) }
      )
  | inr long ↦ elim (cases_Bool (is_long_form first && nat_le (first - 128) (length more))) [
    | inl fits ↦ (
        let found = same_Some _ _ (rw (long, fits) at e) in
        let number = ap (λ p. p.0) found in
        let is = ap (λ p. p.1) found in
        let within : first - 128 ≤ length more = grind (arith, nat_tests) in
        let test : (is_long_form first && nat_le (first - 128) (length new)) ≡ true = ap (λ n. is_long_form first && nat_le (first - 128) n) size
        ∙ fits in
        let front : length more - length behind ≡ first - 128 = omega (arith, ap length is, length-drop (first - 128) more) in
        let again = same_number 0 (first - 128) more new (λ k below. same k (omega arith)) in
        record {
          rest = drop (first - 128) new;
          found = rw (long, test) (ap (λ n. Some (n, drop (first - 128) new)) (again ∙ number));
          size = omega (arith, ap length is, length-drop (first - 128) more, length-drop (first - 128) new);
          within = omega (arith, ap length is, length-drop (first - 128) more);
        }
        )
    | inr other ↦ (let none = rw (long, other) at e in cc)
  ]
]

-- what an element's head decides: its tag, and how much content and rest there is
pub record Alike (octets new : List ℕ) (element : Element) (rest : List ℕ) : Type 0 where
  pub other : Element
  pub behind : List ℕ
  pub found : element_at new ≡ Some (other, behind)
  pub tag_is : other.tag ≡ element.tag
  pub content_is : length other.content ≡ length element.content
  pub rest_is : length behind ≡ length rest
  pub room : length element.content + length rest + 2 ≤ length octets

fitting : (tag count : ℕ) (octets : List ℕ) → count ≤ length octets
    → element_with tag count octets ≡ Some (record { tag = tag; content = take count octets }, drop count octets)
fitting tag count octets within = let fits : nat_le count (length octets) ≡ true = grind (arith, nat_tests) in rw fits

by_length : (tag other : ℕ) (new : List ℕ) (element : Element) (rest more : List ℕ) (length_is : Option (ℕ × List ℕ)) → length_at more ≡ length_is
    → option_and_then (λ p. element_with tag p.0 p.1) length_is ≡ Some (element, rest) → length new ≡ length more
    → ((k : ℕ) → k < 1 + length more - length rest - length element.content → get_or (other ∷ new) k 0 ≡ get_or (tag ∷ more) k 0)
    → Alike (tag ∷ more) (other ∷ new) element rest
unfolding element_at
by_length tag other new element rest more None l e size same = cc
by_length tag other new element rest [] (Some (count, behind)) l e size same = cc
by_length tag other [] element rest (first ∷ more) (Some (count, behind)) l e size same = cc
by_length tag other (next ∷ new) element rest (first ∷ more) (Some (count, behind)) l e size same =
    let sized = with_size tag count behind element rest e in
    let within = (length_again first count more more behind l refl (λ k below. refl)).within in
    let tags : other ≡ tag = same 0 (omega (arith, sized.content_is, sized.rest_is, within)) in
    let firsts : next ≡ first = same 1 (omega (arith, sized.content_is, sized.rest_is, within)) in
    let again = length_again first count more new behind l (omega arith)
    (λ k below. same (suc (suc k)) (omega (arith, sized.content_is, sized.rest_is, within))) in
    let found : length_at (next ∷ new) ≡ Some (count, again.rest) = ap (λ n. length_at (n ∷ new)) firsts ∙ again.found in
    record {
      other = record { tag = other; content = take count again.rest };
      behind = drop count again.rest;
      found = ap (option_and_then (λ p. element_with other p.0 p.1)) found
          ∙ fitting other count again.rest (omega (arith, sized.rest_is, again.size));
      tag_is = tags ∙ sym sized.tag_is;
      content_is = length-take-le count again.rest (omega (arith, sized.rest_is, again.size)) ∙ sym sized.content_is;
      rest_is = omega (arith, length-drop count again.rest, sized.rest_is, again.size);
      room = omega (arith, sized.content_is, sized.rest_is, within);
    }

-- octets with an equal head begin with an element of the same size
pub element_alike : (octets new : List ℕ) (element : Element) (rest : List ℕ) → element_at octets ≡ Some (element, rest) → length new ≡ length octets
    → ((k : ℕ) → k < length octets - length rest - length element.content → get_or new k 0 ≡ get_or octets k 0) → Alike octets new element rest
unfolding element_at
element_alike [] new element rest e size same = cc
element_alike (tag ∷ more) [] element rest e size same = cc
element_alike (tag ∷ more) (other ∷ new) element rest e size same =
    by_length tag other new element rest more (length_at more) refl e (omega arith) (λ k below. same k (omega arith))

pub element_room : (octets : List ℕ) (element : Element) (rest : List ℕ) → element_at octets ≡ Some (element, rest)
    → length element.content + length rest + 2 ≤ length octets
element_room octets element rest e = (element_alike octets octets element rest e refl (λ k below. refl)).room
