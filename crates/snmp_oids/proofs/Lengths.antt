-- The length of a message that no rule changes.
use Rattle.std.proofs.Common.{◌≡◌, ℕ, zero, suc, ◌-◌, ◌==◌, Bool, true, false, if◌then◌else◌, List, [], ◌++◌, take, length, Option, Some, None, option_map, unwrap_or, inl, inr, refl, ap, ◌∙◌, arith, length-append, option_and_then, length-take-le}
use Rattle.std.proofs.lemmas.Bool.{cases_Bool, eqb-true}
use Rattle.std.proofs.lemmas.Bool.Decides.{nat_tests}
use Rattle.snmp_gateway.specs.Element.{Element, element_at}
use Rattle.snmp_gateway.proofs.Elements.{element_room}
use Rattle.snmp_gateway.specs.declared.message.SnmpKind.{SnmpKind}
use Rattle.snmp_gateway.specs.declared.message.SnmpKind.TheVariants.{V1, V2, V3}
use Rattle.snmp_gateway.specs.Message.{kind_of}
use Rattle.snmp_gateway.specs.declared.part.TheConstants.{IP_ADDRESS, OBJECT_IDENTIFIER}
use Rattle.snmp_gateway.proofs.Kept.{renamed_differs}
use Rattle.snmp_oids.specs.Arcs.{arcs_of, named}
use Rattle.snmp_oids.specs.Identifier.{identifier_renamed}
use Rattle.snmp_oids.specs.Elements.{shortest, head_for, head_of, is_constructed, address_renamed, primitive_renamed, elements_within, elements_renamed, by_kind, oid_renamed}

none_named : (o : Option (List ℕ)) → option_and_then (named []) o ≡ None
none_named None = refl
none_named (Some arcs) = refl

identifier_length : (image : ℕ → Option ℕ) (content : List ℕ) → length (identifier_renamed image [] content) ≡ length content
identifier_length image content = rw (none_named (arcs_of content)) refl

address_length : (image : ℕ → Option ℕ) (content : List ℕ) → length (address_renamed image content) ≡ length content
address_length image content = elim (cases_Bool (length content == 4)) [
  | inl four ↦ rw four (renamed_differs image 0 content (omega (arith, eqb-true (length content) 4 four))).size
  | inr other ↦ rw other refl
]

primitive_length : (image : ℕ → Option ℕ) (tag : ℕ) (content : List ℕ) → length (primitive_renamed image [] tag content) ≡ length content
primitive_length image tag content = by_tag (tag == OBJECT_IDENTIFIER) (tag == IP_ADDRESS)
  where
    by_tag : (a b : Bool) → length (if a then identifier_renamed image [] content else if b then address_renamed image content else content)
        ≡ length content
    by_tag true b = identifier_length image content
    by_tag false true = address_length image content
    by_tag false false = refl

-- an element whose content keeps its length, and what stands behind it
element_length : (octets : List ℕ) (found : Element × List ℕ) (content rest : List ℕ) → element_at octets ≡ Some found
    → length content ≡ length found.0.content → length rest ≡ length found.1
    → length (head_for (head_of octets found) (length found.0.content) (length content) ++ content ++ rest) ≡ length octets
element_length octets found content rest is same behind =
    let room = element_room octets found.0 found.1 is in
    let head = length-take-le (length octets - length found.1 - length found.0.content) octets (omega arith) in
    ap (λ (n : ℕ). length (head_for (head_of octets found) (length found.0.content) n ++ content ++ rest)) same
    ∙ kept_head (length found.0.content == length found.0.content) (grind (arith, nat_tests))
    ∙ length-append (head_of octets found ++ content) rest
    ∙ omega (arith, head, length-append (head_of octets found) content, same, behind, room)
  where
    kept_head : (b : Bool) → b ≡ true
        → length ((if b then head_of octets found else take 1 (head_of octets found) ++ shortest (length found.0.content)) ++ content ++ rest)
        ≡ length (head_of octets found ++ content ++ rest)
    kept_head true e = refl
    kept_head false e = absurd (cc)

-- the content of an element by what is passed on the way to it
abbrev content_of : ℕ → (ℕ → Option ℕ) → Element → List ℕ
content_of most image element = if is_constructed element.tag then elements_within most image [] element.content else primitive_renamed image
    [] element.tag element.content

content_length : (most : ℕ) (image : ℕ → Option ℕ) (element : Element) → length (elements_within most image [] element.content)
    ≡ length element.content → length (content_of most image element) ≡ length element.content
content_length most image element within = by_form (is_constructed element.tag)
  where
    by_form : (b : Bool) → length
        (if b then elements_within most image [] element.content else primitive_renamed image [] element.tag element.content) ≡ length element.content
    by_form true = within
    by_form false = primitive_length image element.tag element.content

within_length : (most : ℕ) (image : ℕ → Option ℕ) (octets : List ℕ) → length (elements_within most image [] octets) ≡ length octets
unfolding elements_within
within_length zero image octets = refl
within_length (suc most) image octets = by_element (λ xs. within_length most image xs) (element_at octets) refl
  where
    by_element : ((xs : List ℕ) → length (elements_within most image [] xs) ≡ length xs) → (o : Option (Element × List ℕ)) → element_at octets ≡ o →
        length (unwrap_or (option_map
        (λ found. head_for (head_of octets found) (length found.0.content) (length (content_of most image found.0))
        ++ content_of most image found.0 ++ elements_within most image [] found.1) o) octets) ≡ length octets
    by_element same None is = refl
    by_element same (Some found) is = element_length octets found (content_of most image found.0) (elements_within most image [] found.1) is
        (content_length most image found.0 (same found.0.content)) (same found.1)

kind_length : (kind : Option SnmpKind) (octets new : List ℕ) → length new ≡ length octets → length (by_kind kind octets new) ≡ length octets
kind_length None octets new e = e
kind_length (Some V1) octets new e = e
kind_length (Some V2) octets new e = e
kind_length (Some V3) octets new e = refl

pub message_length : (image : ℕ → Option ℕ) (octets : List ℕ) → length (oid_renamed image [] octets) ≡ length octets
message_length image octets = kind_length (kind_of octets) octets (elements_renamed image [] octets) (within_length (length octets) image octets)
