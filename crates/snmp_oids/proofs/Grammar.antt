-- The grammar of messages, read as elements one after another.
use Rattle.std.proofs.Common.{◌≡◌, ℕ, ◌+◌, ◌-◌, ◌==◌, ◌&&◌, not, Bool, true, false, if◌then◌else◌, List, [], ◌∷◌, ◌++◌, take, drop, length, Option, Some, None, option_map, option_and_then, unwrap_or, refl, ap, sym, subst, ◌∙◌, arith, append_assoc, length-append, inl, inr}
use Rattle.std.proofs.lemmas.Bool.{cases_Bool, eqb-true}
use Rattle.std.proofs.lemmas.Bool.Decides.{nat_tests}
use Rattle.std.proofs.lemmas.List.{take_at, drop_at, nil_from_length}
use Rattle.gate_base.specs.Prelude.{◌>>=◌}
use Rattle.snmp_gateway.specs.Element.{Element, element_at}
use Rattle.snmp_gateway.specs.Parts.{has_right_size, octets_in, first_of}
use Rattle.snmp_gateway.specs.declared.part.TheConstants.{IP_ADDRESS, OBJECT_IDENTIFIER}
use Rattle.snmp_gateway.specs.Message.{address_in, places_ahead}
use Rattle.snmp_gateway.specs.Renaming.{renamed_at}
use Rattle.snmp_gateway.proofs.Reading.{first_read}
use Rattle.snmp_oids.specs.Arcs.{named, arcs_of}
use Rattle.snmp_oids.specs.Identifier.{changed, change_at, identifier_renamed}
use Rattle.snmp_oids.specs.Elements.{head_for, head_of, is_constructed, address_renamed, primitive_renamed, content_renamed, elements_renamed}
use Rattle.snmp_oids.proofs.Tree.{elements_next, elements_end}
use Rattle.snmp_oids.proofs.Swaps.{Swaps, swaps_none, swaps_both, swaps_more, swaps_address, element_parts}

-- the types of a crate's own items, by what takes them
abbrev pub domain : {A B : Type 0} → (A → B) → Type 0
domain {A} f = A

abbrev pub Part : Type 0
Part = domain (octets_in [])

abbrev pub Piece : Type 0
Piece = domain address_in

abbrev pub Outline : Type 0
Outline = domain (places_ahead [])

-- these octets are a part of the message
pub record At (octets : List ℕ) (part : Part) (xs : List ℕ) : Type 0 where
  pub before : List ℕ
  pub after : List ℕ
  pub whole : octets ≡ before ++ xs ++ after
  pub start_is : length before ≡ part.start
  pub end_is : part.start + length xs ≡ part.end

-- the renaming at places makes of a part what its elements become
abbrev pub Claim : (ℕ → Option ℕ) → List ℕ → Part → List ℕ → Type 0
Claim image places part xs = Swaps image places part.start xs (elements_renamed image [] xs)

read_at : (octets : List ℕ) (part : Part) (xs : List ℕ) → At octets part xs → take (part.end - part.start) (drop part.start octets) ≡ xs
read_at octets part xs at =
    ap (λ o. take (part.end - part.start) (drop part.start o)) (at.whole ∙ append_assoc at.before xs at.after)
    ∙ ap (take (part.end - part.start)) (drop_at at.before (xs ++ at.after) part.start at.start_is)
    ∙ take_at xs at.after (part.end - part.start) (omega (arith, at.end_is))

-- an element of a part
pub record Reads (octets : List ℕ) (part : Part) (xs : List ℕ) (piece : Piece) : Type 0 where
  pub element : Element
  pub rest : List ℕ
  pub found : element_at xs ≡ Some (element, rest)
  pub tag_is : element.tag ≡ piece.tag
  pub right : has_right_size element.tag (length element.content) ≡ true
  pub content_at : At octets piece.content element.content
  pub rest_at : At octets piece.rest rest
  pub start : piece.content.start ≡ part.start + length (head_of xs (element, rest))
  pub next : piece.rest.start ≡ piece.content.start + length element.content

to_content : (a h c r b : List ℕ) → a ++ (h ++ c ++ r) ++ b ≡ (a ++ h) ++ c ++ (r ++ b)
to_content a h c r b = simp append_assoc

to_rest : (a h c r b : List ℕ) → a ++ (h ++ c ++ r) ++ b ≡ (a ++ h ++ c) ++ r ++ b
to_rest a h c r b = simp append_assoc

pub reads : (octets : List ℕ) (part : Part) (xs : List ℕ) (piece : Piece) → At octets part xs → first_of octets part ≡ Some piece
    → Reads octets part xs piece
reads octets part xs piece at e =
    let read = first_read octets part piece e in
    let element = read.element in
    let rest = read.rest in
    let same = read.within_is ∙ read_at octets part xs at in
    let found = ap element_at (sym same) ∙ read.found in
    let head = head_of xs (element, rest) in
    let parts = element_parts xs element rest found in
    let whole = at.whole ∙ ap (λ ys. at.before ++ ys ++ at.after) (sym parts) in
    let size = ap length parts in
    let sizes = length-append (head ++ element.content) rest in
    let front_sizes = length-append head element.content in
    let content_start = ap (λ (p : Piece). p.content.start) read.piece_is in
    let content_end = ap (λ (p : Piece). p.content.end) read.piece_is in
    let rest_start = ap (λ (p : Piece). p.rest.start) read.piece_is in
    let rest_end = ap (λ (p : Piece). p.rest.end) read.piece_is in
    record {
      element = element;
      rest = rest;
      found = found;
      tag_is = sym (ap (λ (p : Piece). p.tag) read.piece_is);
      right = read.right;
      content_at = record {
        before = at.before ++ head;
        after = rest ++ at.after;
        whole = whole ∙ to_content at.before head element.content rest at.after;
        start_is = omega (arith, length-append at.before head, at.start_is, at.end_is);
        end_is = omega (arith, at.end_is);
      };
      rest_at = record {
        before = at.before ++ head ++ element.content;
        after = at.after;
        whole = whole ∙ to_rest at.before head element.content rest at.after;
        start_is = omega (arith, length-append (at.before ++ head) element.content, length-append at.before head, at.start_is, at.end_is);
        end_is = omega (arith, at.end_is);
      };
      start = omega (arith, at.end_is);
      next = omega (arith, at.end_is);
    }

swaps_at : (image : ℕ → Option ℕ) (ps qs : List ℕ) (start : ℕ) (xs us ys vs : List ℕ) → ps ≡ qs → xs ≡ us → ys ≡ vs → Swaps image ps start xs ys
    → Swaps image qs start us vs
swaps_at image ps qs start xs us ys vs places old new swaps =
    subst (λ (n : List ℕ). Swaps image qs start us n) new
    (subst (λ (o : List ℕ). Swaps image qs start o ys) old (subst (λ (p : List ℕ). Swaps image p start xs ys) places swaps))

head_same : (head : List ℕ) (old new : ℕ) → new ≡ old → head_for head old new ≡ head
head_same head old new same = elim (cases_Bool (new == old)) [
  | inl is ↦ rw is refl
  | inr other ↦ absurd (grind (arith, nat_tests))
]

-- an element and those behind it
pub node : (image : ℕ → Option ℕ) (ps qs octets : List ℕ) (part : Part) (xs : List ℕ) (piece : Piece) (r : Reads octets part xs piece)
    → Swaps image ps piece.content.start r.element.content (content_renamed image [] r.element) → Claim image qs piece.rest r.rest
    → Claim image (ps ++ qs) part xs
node image ps qs octets part xs piece r content rest =
    let element = r.element in
    let head = head_of xs (element, r.rest) in
    let new = content_renamed image [] element in
    let one = swaps_more image ps part.start piece.content.start head element.content new content r.start in
    let two = swaps_both image ps qs part.start piece.rest.start (head ++ element.content) (head ++ new) r.rest (elements_renamed image [] r.rest) one
    rest (omega (arith, length-append head element.content, r.start, r.next)) in
    swaps_at image (ps ++ qs) (ps ++ qs) part.start _ xs _ (elements_renamed image [] xs) refl (element_parts xs element r.rest r.found)
    (ap (λ h. h ++ new ++ elements_renamed image [] r.rest) (sym (head_same head (length element.content) (length new) content.size))
    ∙ sym (elements_next image [] xs element r.rest r.found)) two

-- content that no rule changes
by_arcs : (image : ℕ → Option ℕ) (content : List ℕ) (o : Option (List ℕ))
    → unwrap_or (option_map (changed content)
    (option_and_then (named []) o >>= λ found. image found.1 >>= λ address. Some (change_at found.0 address content))) content ≡ content
by_arcs image content None = refl
by_arcs image content (Some arcs) = refl

identifier_kept : (image : ℕ → Option ℕ) (content : List ℕ) → identifier_renamed image [] content ≡ content
identifier_kept image content = by_arcs image content (arcs_of content)

by_tags : (constructed identifier address : Bool) (x i a content : List ℕ) → constructed ≡ false → address ≡ false → i ≡ content
    → (if constructed then x else if identifier then i else if address then a else content) ≡ content
by_tags true identifier address x i a content plain kept same = cc
by_tags false true address x i a content plain kept same = same
by_tags false false true x i a content plain kept same = cc
by_tags false false false x i a content plain kept same = refl

content_kept : (image : ℕ → Option ℕ) (element : Element) → is_constructed element.tag ≡ false → (element.tag == IP_ADDRESS) ≡ false
    → content_renamed image [] element ≡ element.content
content_kept image element plain kept =
    by_tags (is_constructed element.tag) (element.tag == OBJECT_IDENTIFIER) (element.tag == IP_ADDRESS) (elements_renamed image [] element.content)
    (identifier_renamed image [] element.content) (address_renamed image element.content) element.content plain kept
    (identifier_kept image element.content)

abbrev pub is_kept : ℕ → Bool
is_kept tag = not (is_constructed tag) && not (tag == IP_ADDRESS)

kept_plain : (a b : Bool) → (not a && not b) ≡ true → (a ≡ false) × (b ≡ false)
kept_plain true b e = cc
kept_plain false true e = cc
kept_plain false false e = (refl, refl)

pub node_kept : (image : ℕ → Option ℕ) (qs octets : List ℕ) (part : Part) (xs : List ℕ) (piece : Piece) (r : Reads octets part xs piece)
    → is_kept piece.tag ≡ true → Claim image qs piece.rest r.rest → Claim image qs part xs
node_kept image qs octets part xs piece r kept rest =
    let plain = kept_plain (is_constructed r.element.tag) (r.element.tag == IP_ADDRESS) (ap is_kept r.tag_is ∙ kept) in
    node image [] qs octets part xs piece r
    (swaps_at image [] [] piece.content.start r.element.content r.element.content r.element.content (content_renamed image [] r.element) refl refl
    (sym (content_kept image r.element plain.0 plain.1)) (swaps_none image piece.content.start r.element.content))
    rest

by_address : (constructed identifier address four : Bool) (x i a content : List ℕ) → constructed ≡ false → identifier ≡ false → address ≡ true
    → four ≡ true → (if constructed then x else if identifier then i else if address then (if four then a else content) else content) ≡ a
by_address true identifier address four x i a content plain other is size = cc
by_address false true address four x i a content plain other is size = cc
by_address false false false four x i a content plain other is size = cc
by_address false false true false x i a content plain other is size = cc
by_address false false true true x i a content plain other is size = refl

pub node_address : (image : ℕ → Option ℕ) (qs octets : List ℕ) (part : Part) (xs : List ℕ) (piece : Piece) (r : Reads octets part xs piece)
    → piece.tag ≡ IP_ADDRESS → Claim image qs piece.rest r.rest → Claim image (piece.content.start ∷ qs) part xs
node_address image qs octets part xs piece r tag rest =
    let tag_is = r.tag_is ∙ tag in
    let four = sym (ap (λ n. has_right_size n (length r.element.content)) tag_is) ∙ r.right in
    let new = by_address (is_constructed r.element.tag) (r.element.tag == OBJECT_IDENTIFIER) (r.element.tag == IP_ADDRESS)
    (length r.element.content == 4) (elements_renamed image [] r.element.content) (identifier_renamed image [] r.element.content)
    (renamed_at image 0 r.element.content) r.element.content
    (ap is_constructed tag_is) (ap (λ n. n == OBJECT_IDENTIFIER) tag_is) (ap (λ n. n == IP_ADDRESS) tag_is) four in
    node image (piece.content.start ∷ []) qs octets part xs piece r
    (swaps_at image _ _ piece.content.start r.element.content r.element.content (renamed_at image 0 r.element.content)
    (content_renamed image [] r.element) refl refl (sym new) (swaps_address image piece.content.start r.element.content (eqb-true _ _ four)))
    rest

pub node_in : (image : ℕ → Option ℕ) (ps qs octets : List ℕ) (part : Part) (xs : List ℕ) (piece : Piece) (r : Reads octets part xs piece)
    → is_constructed piece.tag ≡ true → Claim image ps piece.content r.element.content → Claim image qs piece.rest r.rest
    → Claim image (ps ++ qs) part xs
node_in image ps qs octets part xs piece r is content rest =
    node image ps qs octets part xs piece r
    (swaps_at image ps ps piece.content.start r.element.content r.element.content (elements_renamed image [] r.element.content)
    (content_renamed image [] r.element) refl refl
    (sym (ap (λ b. if b then elements_renamed image [] r.element.content else primitive_renamed image [] r.element.tag r.element.content)
    (ap is_constructed r.tag_is ∙ is))) content)
    rest

-- nothing is left
empty_kept : (image : ℕ → Option ℕ) → elements_renamed image [] [] ≡ []
unfolding element_at
empty_kept image = elements_end image [] [] refl

pub claim_none : (image : ℕ → Option ℕ) (part : Part) (xs : List ℕ) → length xs ≡ 0 → Claim image [] part xs
claim_none image part xs none =
    let is = nil_from_length xs none in
    swaps_at image [] [] part.start [] xs [] (elements_renamed image [] xs) refl (sym is)
    (sym (empty_kept image) ∙ ap (elements_renamed image []) (sym is)) (swaps_none image part.start [])
