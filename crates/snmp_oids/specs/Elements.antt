-- The elements of a message with the images of addresses in them, and the lengths around them (X.690, 8.1).
use Rattle.std.specs.Prelude.{ℕ, zero, suc, ◌+◌, ◌-◌, ◌/◌, ◌%◌, ◌^◌, ◌==◌, Bool, nat_lt, if◌then◌else◌, List, [], ◌∷◌, ◌++◌, take, length, Option, Some, option_map, unwrap_or}
use Rattle.byteorder.specs.Endian.{big_bytes}
use Rattle.gate_base.specs.declared.rule.OidRule.{OidRule}
use Rattle.snmp_gateway.specs.Element.{Element, element_at}
use Rattle.snmp_gateway.specs.declared.message.SnmpKind.{SnmpKind}
use Rattle.snmp_gateway.specs.declared.message.SnmpKind.TheVariants.{V3}
use Rattle.snmp_gateway.specs.Message.{kind_of}
use Rattle.snmp_gateway.specs.declared.part.TheConstants.{IP_ADDRESS, OBJECT_IDENTIFIER}
use Rattle.snmp_gateway.specs.Renaming.{renamed_at}
use Rattle.snmp_oids.specs.Identifier.{identifier_renamed}

-- in how many octets a number below 2^40 is written, the fewest
abbrev pub octets_for : ℕ → ℕ
octets_for count = if nat_lt count (2 ^ 8) then 1 else if nat_lt count (2 ^ 16) then 2 else if nat_lt count (2 ^ 24) then 3 else if nat_lt count
    (2 ^ 32) then 4 else 5

-- the shortest form of a length (X.690, 8.1.3)
abbrev pub shortest : ℕ → List ℕ
shortest count = if nat_lt count 128 then count ∷ [] else (128 + octets_for count) ∷ big_bytes (octets_for count) count

-- the octets before an element's content: where that has another length now, the tag and the shortest form of it
abbrev pub head_for : List ℕ → ℕ → ℕ → List ℕ
head_for head old new = if new == old then head else take 1 head ++ shortest new

-- whether the content of an element with this tag is elements (X.690, 8.1.2.5): in a message these are the sequences and the PDU
abbrev pub is_constructed : ℕ → Bool
is_constructed tag = tag / 32 % 2 == 1

-- the content of an IpAddress
abbrev pub address_renamed : (ℕ → Option ℕ) → List ℕ → List ℕ
address_renamed image content = if length content == 4 then renamed_at image 0 content else content

-- content that isn't elements: of an OBJECT IDENTIFIER or an IpAddress, else it is kept
abbrev pub primitive_renamed : (ℕ → Option ℕ) → List OidRule → ℕ → List ℕ → List ℕ
primitive_renamed image rules tag content =
    if tag == OBJECT_IDENTIFIER then identifier_renamed image rules content
    else if tag == IP_ADDRESS then address_renamed image content
    else content

-- the octets before the content of the element that octets begin with
abbrev pub head_of : List ℕ → Element × List ℕ → List ℕ
head_of octets found = take (length octets - length found.1 - length found.0.content) octets

-- elements one behind another, with the images of the addresses in them; the number bounds how many elements are passed on the way to one
unfoldable pub elements_within : ℕ → (ℕ → Option ℕ) → List OidRule → List ℕ → List ℕ
elements_within zero image rules octets = octets
elements_within (suc most) image rules octets = unwrap_or (option_map (λ found.
    let content = if is_constructed found.0.tag then elements_within most image rules found.0.content else primitive_renamed image rules found.0.tag
    found.0.content in
    head_for (head_of octets found) (length found.0.content) (length content) ++ content ++ elements_within most image rules found.1)
    (element_at octets)) octets

-- elements that fill octets
abbrev pub elements_renamed : (ℕ → Option ℕ) → List OidRule → List ℕ → List ℕ
elements_renamed image rules octets = elements_within (length octets) image rules octets

-- the content of an element
abbrev pub content_renamed : (ℕ → Option ℕ) → List OidRule → Element → List ℕ
content_renamed image rules element = if is_constructed element.tag then elements_renamed image rules element.content else primitive_renamed image
    rules element.tag element.content

-- what a message becomes: one of version 3 is kept
abbrev pub by_kind : Option SnmpKind → List ℕ → List ℕ → List ℕ
by_kind (Some V3) octets renamed = octets
by_kind kind octets renamed = renamed

-- a message with the images of the addresses in it: by its grammar these stand in the enterprise field, the agent address, the names and the values
abbrev pub oid_renamed : (ℕ → Option ℕ) → List OidRule → List ℕ → List ℕ
oid_renamed image rules octets = by_kind (kind_of octets) octets (elements_renamed image rules octets)
