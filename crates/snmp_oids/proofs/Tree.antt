-- Elements one after another.
use Rattle.std.proofs.Common.{◌≡◌, ℕ, zero, suc, ◌+◌, ◌-◌, ◌*◌, ◌^◌, ◌<◌, ◌≤◌, ◌==◌, ◌&&◌, Bool, true, false, nat_lt, nat_le, if◌then◌else◌, List, []}
use Rattle.std.proofs.Common.{◌∷◌, ◌++◌, get_or, take, drop, length, Option, Some, None, option_map, option_and_then, unwrap_or, IfSome, refl, ap}
use Rattle.std.proofs.Common.{sym, ◌∙◌, arith, append_assoc, append-nil, add-zero, length-append, inl, inr, lit≤, length-take-le, take-append-drop}
use Rattle.std.proofs.lemmas.Bool.{cases_Bool}
use Rattle.std.proofs.lemmas.Bool.Decides.{nat_tests}
use Rattle.std.proofs.lemmas.Option.{same_Some}
use Rattle.byteorder.specs.Numbers.{big_from-lt, length-bytes_high_first}
use Rattle.gate_base.specs.declared.rule.OidRule.{OidRule}
use Rattle.snmp_gateway.specs.Element.{Element, element_at, element_with, length_at, is_long_form}
use Rattle.snmp_gateway.proofs.Elements.{element_room}
use Rattle.snmp_oids.specs.Elements.{octets_for, shortest, head_for, head_of, is_constructed, primitive_renamed, content_renamed, elements_within, elements_renamed}
use Rattle.snmp_oids.specs.Inside.Written.{with_octets}
use Rattle.snmp_oids.proofs.Writing.{written_after, overwritten, read_back}

-- a content is shorter than 2 ^ 32 octets
power : (k : ℕ) → k ≤ 4 → 256 ^ k ≤ 4294967296
power zero small = lit≤ tt
power (suc zero) small = lit≤ tt
power (suc (suc zero)) small = lit≤ tt
power (suc (suc (suc zero))) small = lit≤ tt
power (suc (suc (suc (suc zero)))) small = lit≤ tt
power (suc (suc (suc (suc (suc k))))) small = absurd (omega arith)

count_small : (octets : List ℕ) (count : ℕ) (behind : List ℕ) → ((k : ℕ) → get_or octets k 0 < 256) → length_at octets ≡ Some (count, behind)
    → count < 4294967296
count_small [] count behind bytes e = cc
count_small (first ∷ more) count behind bytes e = elim (cases_Bool (nat_lt first 128)) [
  | inl short ↦ (
      let found = same_Some _ _ (rw short at e) in
      let number = ap (λ (p : ℕ × List ℕ). p.0) found in
      let below : first < 128 = grind (arith, nat_tests) in
      omega (arith, number, below)
      )
  | inr long ↦ elim (cases_Bool (is_long_form first && nat_le (first - 128) (length more))) [
    | inl fits ↦ (
        let found = same_Some _ _ (rw (long, fits) at e) in
        let number = ap (λ (p : ℕ × List ℕ). p.0) found in
        let four : first - 128 ≤ 4 = grind (arith, nat_tests) in
        let below = big_from-lt 0 (first - 128) more (λ k. bytes (suc k)) in
        omega (arith, number, below, power (first - 128) four)
        )
    | inr other ↦ (let none = rw (long, other) at e in cc)
  ]
]

with_small : (tag count : ℕ) (octets : List ℕ) (element : Element) (rest : List ℕ) → count < 4294967296
    → element_with tag count octets ≡ Some (element, rest) → length element.content < 4294967296
with_small tag count octets element rest small e = elim (cases_Bool (nat_le count (length octets))) [
  | inl fits ↦ (
      let found = same_Some _ _ (rw fits at e) in
      let content = ap (λ (p : Element × List ℕ). length p.0.content) found in
      let within : count ≤ length octets = grind (arith, nat_tests) in
      omega (arith, content, length-take-le count octets within)
      )
  | inr long ↦ (let none = rw long at e in cc)
]

pub content_small : (octets : List ℕ) (element : Element) (rest : List ℕ) → ((k : ℕ) → get_or octets k 0 < 256)
    → element_at octets ≡ Some (element, rest) → length element.content < 4294967296
unfolding element_at
content_small [] element rest bytes e = cc
content_small (tag ∷ more) element rest bytes e = by_length (length_at more) refl e
  where
    by_length : (o : Option (ℕ × List ℕ)) → length_at more ≡ o → option_and_then (λ p. element_with tag p.0 p.1) o ≡ Some (element, rest)
        → length element.content < 4294967296
    by_length None is e = cc
    by_length (Some (count, behind)) is e = with_small tag count behind element rest (count_small more count behind (λ k. bytes (suc k)) is) e

pub if_small : {T : Type 0} (view : T → Element × List ℕ) (r : Option T) (octets : List ℕ) → ((k : ℕ) → get_or octets k 0 < 256)
    → option_map view r ≡ element_at octets → IfSome r (λ p. length (view p).0.content < 4294967296)
if_small view None octets bytes e = tt
if_small view (Some p) octets bytes e = content_small octets (view p).0 (view p).1 bytes (sym e)

-- more is enough
by_element : (o : Option (Element × List ℕ)) (f g : Element × List ℕ → List ℕ) (octets : List ℕ)
    → ((found : Element × List ℕ) → o ≡ Some found → f found ≡ g found) → unwrap_or (option_map f o) octets ≡ unwrap_or (option_map g o) octets
by_element None f g octets same = refl
by_element (Some found) f g octets same = same found refl

joined_same : (head : List ℕ) (old : ℕ) (c d r s : List ℕ) → c ≡ d → r ≡ s → head_for head old (length c) ++ c ++ r ≡ head_for head old (length d)
    ++ d ++ s
joined_same head old c d r s contents rests = ap (λ c. head_for head old (length c) ++ c ++ r) contents
    ∙ ap (λ r. head_for head old (length d) ++ d ++ r) rests

either : (b : Bool) (x y z : List ℕ) → x ≡ y → (if b then x else z) ≡ (if b then y else z)
either b x y z same = ap (λ x. if b then x else z) same

nothing : (octets : List ℕ) → length octets ≤ 0 → octets ≡ []
nothing [] none = refl
nothing (x ∷ xs) none = absurd (omega arith)

within_none : (most : ℕ) (image : ℕ → Option ℕ) (rules : List OidRule) → elements_within most image rules [] ≡ []
unfolding elements_within element_at
within_none zero image rules = refl
within_none (suc most) image rules = refl

within_same : (f g : ℕ) (image : ℕ → Option ℕ) (rules : List OidRule) (octets : List ℕ) → length octets ≤ f → length octets ≤ g
    → elements_within f image rules octets ≡ elements_within g image rules octets
unfolding elements_within
within_same zero g image rules octets a b =
    let none = nothing octets a in
    none ∙ sym (ap (elements_within g image rules) none ∙ within_none g image rules)
within_same (suc f) zero image rules octets a b =
    let none = nothing octets b in
    ap (elements_within (suc f) image rules) none ∙ within_none (suc f) image rules ∙ sym none
within_same (suc f) (suc g) image rules octets a b =
    by_element (element_at octets) _ _ octets (λ found e.
    let room = element_room octets found.0 found.1 e in
    joined_same (head_of octets found) (length found.0.content) _ _ _ _
    (either (is_constructed found.0.tag) _ _ (primitive_renamed image rules found.0.tag found.0.content)
    (within_same f g image rules found.0.content (omega arith) (omega arith)))
    (within_same f g image rules found.1 (omega arith) (omega arith)))

within_next : (most : ℕ) (image : ℕ → Option ℕ) (rules : List OidRule) (octets : List ℕ) (o : Option (Element × List ℕ)) → element_at octets ≡ o
    → elements_within (suc most) image rules octets ≡ unwrap_or (option_map (λ found.
    let content = if is_constructed found.0.tag then elements_within most image rules found.0.content else primitive_renamed image rules found.0.tag
    found.0.content in
    head_for (head_of octets found) (length found.0.content) (length content) ++ content ++ elements_within most image rules found.1) o) octets
unfolding elements_within
within_next most image rules octets o e = ap (λ o. unwrap_or (option_map (λ found.
    let content = if is_constructed found.0.tag then elements_within most image rules found.0.content else primitive_renamed image rules found.0.tag
    found.0.content in
    head_for (head_of octets found) (length found.0.content) (length content) ++ content ++ elements_within most image rules found.1) o) octets) e

-- elements go on
pub elements_next : (image : ℕ → Option ℕ) (rules : List OidRule) (octets : List ℕ) (element : Element) (rest : List ℕ)
    → element_at octets ≡ Some (element, rest) → elements_renamed image rules octets ≡ head_for (head_of octets (element, rest))
    (length element.content) (length (content_renamed image rules element)) ++ content_renamed image rules element
    ++ elements_renamed image rules rest
elements_next image rules octets element rest e =
    let room = element_room octets element rest e in
    within_same (length octets) (suc (length octets)) image rules octets (omega arith) (omega arith)
    ∙ within_next (length octets) image rules octets (Some (element, rest)) e
    ∙ joined_same (head_of octets (element, rest)) (length element.content) _ _ _ _
    (either (is_constructed element.tag) _ _ (primitive_renamed image rules element.tag element.content)
    (within_same (length octets) (length element.content) image rules element.content (omega arith) (omega arith)))
    (within_same (length octets) (length rest) image rules rest (omega arith) (omega arith))

pub elements_end : (image : ℕ → Option ℕ) (rules : List OidRule) (octets : List ℕ) → element_at octets ≡ None
    → elements_renamed image rules octets ≡ octets
elements_end image rules octets e =
    within_same (length octets) (suc (length octets)) image rules octets (omega arith) (omega arith)
    ∙ within_next (length octets) image rules octets None e

-- the octets before a content are at most four times as many as they were
five : (a b c d : Bool) → (if a then 1 else if b then 2 else if c then 3 else if d then 4 else 5) ≤ 5
five true b c d = lit≤ tt
five false true c d = lit≤ tt
five false false true d = lit≤ tt
five false false false true = lit≤ tt
five false false false false = lit≤ tt

few : (count : ℕ) → length (shortest count) ≤ 6
few count = elim (cases_Bool (nat_lt count 128)) [
  | inl short ↦ rw short (omega arith)
  | inr long ↦ rw long (
      let size = length-bytes_high_first (octets_for count) count in
      let most = five (nat_lt count (2 ^ 8)) (nat_lt count (2 ^ 16)) (nat_lt count (2 ^ 24)) (nat_lt count (2 ^ 32)) in
      omega (arith, size, most)
      )
]

pub head_grows : (head : List ℕ) (old new : ℕ) → 2 ≤ length head → length (head_for head old new) ≤ 4 * length head
head_grows head old new two = elim (cases_Bool (new == old)) [
  | inl same ↦ rw same (omega arith)
  | inr other ↦ rw other (omega (arith, length-append (take 1 head) (shortest new), length-take-le 1 head (omega arith), few new))
]

-- and at least two
least : (count : ℕ) → 1 ≤ length (shortest count)
least count = elim (cases_Bool (nat_lt count 128)) [
  | inl short ↦ rw short (omega arith)
  | inr long ↦ rw long (omega arith)
]

head_least : (head : List ℕ) (old new : ℕ) → 2 ≤ length head → 2 ≤ length (head_for head old new)
head_least head old new two = elim (cases_Bool (new == old)) [
  | inl same ↦ rw same two
  | inr other ↦ rw other (omega (arith, length-append (take 1 head) (shortest new), length-take-le 1 head (omega arith), least new))
]

-- the octets before the content of the element that octets begin with, as they stand and with another length
abbrev pub front : List ℕ → List ℕ → List ℕ → List ℕ
front rest more content = take (length rest - length more - length content) rest

abbrev pub new_head : List ℕ → List ℕ → List ℕ → ℕ → List ℕ
new_head rest more content new = head_for (front rest more content) (length content) new

pub elements_go : (image : ℕ → Option ℕ) (rules : List OidRule) (rest : List ℕ) (element : Element) (more content : List ℕ) (new : ℕ)
    → Some (element, more) ≡ element_at rest → content ≡ element.content → new ≡ length (content_renamed image rules element)
    → elements_renamed image rules rest ≡ new_head rest more content new ++ content_renamed image rules element ++ elements_renamed image rules more
elements_go image rules rest element more content new e content_is new_is =
    elements_next image rules rest element more (sym e)
    ∙ ap (λ c. new_head rest more c (length (content_renamed image rules element)) ++ content_renamed image rules element
    ++ elements_renamed image rules more) (sym content_is)
    ∙ ap (λ n. new_head rest more content n ++ content_renamed image rules element ++ elements_renamed image rules more) (sym new_is)

pub head_room : (rest more content : List ℕ) (new : ℕ) → length content + length more + 2 ≤ length rest
    → length (new_head rest more content new) + 4 * length content + 4 * length more ≤ 4 * length rest
head_room rest more content new room =
    let size = length-take-le (length rest - length more - length content) rest (omega arith) in
    let grows = head_grows (front rest more content) (length content) new (omega arith) in
    omega arith

sizes_within : (rest more content : List ℕ) (head new : ℕ) → length content + length more + 2 ≤ length rest
    → head ≡ length (new_head rest more content new) → new ≤ 4 * length content → head + new + 4 * length more ≤ 4 * length rest
sizes_within rest more content head new room head_is new_within = omega (arith, head_room rest more content new room)

-- what a walk has written
pub record Wrote (image : ℕ → Option ℕ) (rules : List OidRule) (place : ℕ) (octets old target : List ℕ) (end : ℕ) (rest : List ℕ) : Type 0 where
  pub written : List ℕ
  pub target_is : target ≡ with_octets place written old
  pub end_is : end ≡ place + length written
  pub all : written ++ elements_renamed image rules rest ≡ elements_renamed image rules octets
  pub room : length written + 4 * length rest ≤ 4 * length octets

with_none : (place : ℕ) (old : List ℕ) → with_octets place [] old ≡ old
with_none place old =
    ap (λ xs. xs ++ drop (place + 0) old) (append-nil (take place old))
    ∙ ap (λ n. take place old ++ drop n old) (add-zero place)
    ∙ take-append-drop place old

pub wrote_first : (image : ℕ → Option ℕ) (rules : List OidRule) (place : ℕ) (octets old : List ℕ)
    → Wrote image rules place octets old old place octets
wrote_first image rules place octets old = record {
  written = [];
  target_is = sym (with_none place old);
  end_is = omega arith;
  all = refl;
  room = omega arith;
}

-- an element was written: its content, and what stands before it
pub wrote_next : (image : ℕ → Option ℕ) (rules : List OidRule) (place : ℕ) (octets old target : List ℕ) (end : ℕ) (rest : List ℕ) (element : Element)
    (more content between after : List ℕ) (start new past : ℕ) → Wrote image rules place octets old target end rest
    → place + 4 * length octets ≤ length old → place + 4 * length octets ≤ length target → Some (element, more) ≡ element_at rest
    → length element.content + length more + 2 ≤ length rest → content ≡ element.content → start ≡ end + 2
    → between ≡ with_octets start (content_renamed image rules element) target → new ≡ length (content_renamed image rules element)
    → new ≤ 4 * length element.content → after ≡ with_octets end (new_head rest more content new ++ take new (drop start between)) between
    → past ≡ end + length (new_head rest more content new) + new → Wrote image rules place octets old after past more
wrote_next image rules place octets old target end rest element more content between after start new past wrote fits fits_now e room content_is
    start_is between_is new_is new_within after_is past_is =
    let head = new_head rest more content new in
    let changed = content_renamed image rules element in
    let size = ap length content_is in
    let head_size : 2 ≤ length head = head_least (front rest more content) (length content) new
    (omega (arith, length-take-le (length rest - length more - length content) rest (omega arith))) in
    let both_size = length-append head changed in
    let all_size = length-append wrote.written (head ++ changed) in
    let within = sizes_within rest more content (length head) new (omega arith) refl (omega arith) in
    let back : take new (drop start between) ≡ changed = ap (λ xs. take new (drop start xs)) between_is
    ∙ read_back start new changed target new_is (omega (arith, wrote.room, wrote.end_is)) in
    let here : after ≡ with_octets end (head ++ changed) target =
    after_is
    ∙ ap (λ xs. with_octets end (head ++ xs) between) back
    ∙ ap (with_octets end (head ++ changed)) between_is
    ∙ overwritten end start (head ++ changed) changed target (omega arith) (omega arith) (omega (arith, wrote.room, wrote.end_is))
    in
    record {
      written = wrote.written ++ (head ++ changed);
      target_is = written_after place end wrote.written (head ++ changed) old target after wrote.end_is (omega (arith, wrote.room)) wrote.target_is
          here;
      end_is = omega (arith, wrote.end_is);
      all = append_assoc wrote.written (head ++ changed) (elements_renamed image rules more)
          ∙ ap (λ xs. wrote.written ++ xs) (sym (elements_go image rules rest element more content new e content_is new_is)) ∙ wrote.all;
      room = omega (arith, wrote.room);
    }

-- a walk has written at most four times as many octets
pub wrote_within : (image : ℕ → Option ℕ) (rules : List OidRule) (place : ℕ) (octets old target : List ℕ) (end : ℕ) (rest : List ℕ) (past : ℕ)
    → Wrote image rules place octets old target end rest → past ≡ end + length rest → past ≤ place + 4 * length octets
wrote_within image rules place octets old target end rest past wrote past_is = omega (arith, wrote.room, wrote.end_is)

-- a walk stops: what is left is kept
pub wrote_last : (image : ℕ → Option ℕ) (rules : List OidRule) (place : ℕ) (octets old target : List ℕ) (end : ℕ) (rest after : List ℕ)
    → Wrote image rules place octets old target end rest → place + 4 * length octets ≤ length old → element_at rest ≡ None
    → after ≡ with_octets end rest target → after ≡ with_octets place (elements_renamed image rules octets) old
wrote_last image rules place octets old target end rest after wrote fits none after_is =
    written_after place end wrote.written rest old target after wrote.end_is (omega (arith, wrote.room)) wrote.target_is after_is
    ∙ ap (λ xs. with_octets place xs old) (ap (λ xs. wrote.written ++ xs) (sym (elements_end image rules rest none)) ∙ wrote.all)

pub wrote_size : (image : ℕ → Option ℕ) (rules : List OidRule) (place : ℕ) (octets old target : List ℕ) (end : ℕ) (rest : List ℕ) (past : ℕ)
    → Wrote image rules place octets old target end rest → element_at rest ≡ None → past ≡ end + length rest
    → past ≡ place + length (elements_renamed image rules octets)
wrote_size image rules place octets old target end rest past wrote none past_is =
    let whole = ap length (ap (λ xs. wrote.written ++ xs) (sym (elements_end image rules rest none)) ∙ wrote.all) in
    omega (arith, whole, length-append wrote.written rest, wrote.end_is)
