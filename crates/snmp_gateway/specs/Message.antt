-- SNMP messages of the versions 1 (RFC 1157, 4), 2c (RFC 1901; RFC 3416, 3) and 3 (RFC 3412), and the places of the IP addresses in them.
use Rattle.std.specs.Prelude.{ℕ, zero, suc, ◌+◌, ◌-◌, ◌≤◌, Bool, false, ◌&&◌, ◌||◌, ◌==◌, nat_le, if◌then◌else◌, List, []}
use Rattle.std.specs.Prelude.{◌∷◌, ◌++◌, length, slice_index, option_to_list, Option, Some, None, option_map, unwrap_or}
use Rattle.std.specs.List.{list_any}
use Rattle.gate_base.specs.Prelude.{◌>>=◌}
use Rattle.snmp_gateway.specs.declared.message.SnmpKind.{SnmpKind}
use Rattle.snmp_gateway.specs.declared.message.SnmpKind.TheVariants.{V1, V2, V3}
use Rattle.snmp_gateway.specs.declared.outline.TheConstants.{GET_BULK_REQUEST, GET_REQUEST, REPORT, SET_REQUEST, TRAP}
use Rattle.snmp_gateway.specs.declared.outline.Outline.{Outline}
use Rattle.snmp_gateway.specs.declared.part.Part.{Part}
use Rattle.snmp_gateway.specs.declared.part.Piece.{Piece}
use Rattle.snmp_gateway.specs.Parts.{is_exception, field, behind_fields, only, in_sequence}
use Rattle.snmp_gateway.specs.declared.part.TheConstants.{COUNTER, COUNTER_64, GAUGE, INTEGER, IP_ADDRESS, NULL}
use Rattle.snmp_gateway.specs.declared.part.TheConstants.{OBJECT_IDENTIFIER, OCTET_STRING, OPAQUE, SEQUENCE, TIME_TICKS}

-- the tags that a value can have in each version with a community (RFC 1157, 5; RFC 1155, 6)
abbrev pub common_value_tags : List ℕ
common_value_tags = INTEGER ∷ OCTET_STRING ∷ NULL ∷ OBJECT_IDENTIFIER ∷ IP_ADDRESS ∷ COUNTER ∷ GAUGE ∷ TIME_TICKS ∷ OPAQUE ∷ []

abbrev pub is_common_value_tag : ℕ → Bool
is_common_value_tag tag = list_any (λ common. common == tag) common_value_tags

-- whether a value can have this tag: in version 2c it can be a Counter64 or an exception too (RFC 3416, 3)
abbrev pub is_value_tag : SnmpKind → ℕ → Bool
is_value_tag V1 tag = is_common_value_tag tag
is_value_tag V2 tag = is_common_value_tag tag || (tag == COUNTER_64 || is_exception tag)
is_value_tag V3 tag = false

-- the place of an address
abbrev pub address_in : Piece → Option ℕ
address_in value = if value.tag == IP_ADDRESS then Some value.content.start else None

-- the place of the address, if there is one, in the binding that a part begins with, and the bindings behind that: a name and a value, in a sequence
unfoldable pub binding : List ℕ → SnmpKind → Part → Option (Option ℕ × Part)
binding octets kind part = do
  pair ← field octets SEQUENCE part
  rest ← behind_fields octets (OBJECT_IDENTIFIER ∷ []) pair.content
  value ← only octets rest
  if is_value_tag kind value.tag then Some (address_in value, pair.rest) else None

-- the places of the addresses in bindings, at most so many
unfoldable pub bindings_within : ℕ → List ℕ → SnmpKind → Part → Option (List ℕ)
bindings_within zero octets kind part = if part.start == part.end then Some [] else None
bindings_within (suc most) octets kind part = if part.start == part.end then Some [] else do
  found ← binding octets kind part
  places ← bindings_within most octets kind found.1
  Some (option_to_list found.0 ++ places)

-- the places of the addresses in bindings that fill a part
abbrev pub bindings : List ℕ → SnmpKind → Part → Option (List ℕ)
bindings octets kind part = bindings_within (part.end - part.start) octets kind part

-- every PDU but the Trap of version 1: request number, error status and error index (in a GetBulkRequest non-repeaters and max-repetitions), and
-- the bindings
abbrev pub request : List ℕ → Part → Option (Option ℕ × Part)
request octets part = do
  rest ← behind_fields octets (INTEGER ∷ INTEGER ∷ INTEGER ∷ []) part
  Some (None, rest)

-- the Trap of version 1: enterprise, agent address, generic trap, specific trap and time, and the bindings
abbrev pub trap : List ℕ → Part → Option (Option ℕ × Part)
trap octets part = do
  rest ← behind_fields octets (OBJECT_IDENTIFIER ∷ []) part
  agent ← field octets IP_ADDRESS rest
  rest ← behind_fields octets (INTEGER ∷ INTEGER ∷ TIME_TICKS ∷ []) agent.rest
  Some (Some agent.content.start, rest)

-- whether a PDU can have this tag: in version 1 it is a GetRequest, GetNextRequest, GetResponse, SetRequest or Trap (RFC 1157, 4.1), in version 2c
-- one of the first four, or a GetBulkRequest, InformRequest, Trap of version 2 or Report (RFC 3416, 3)
abbrev pub is_pdu_tag : SnmpKind → ℕ → Bool
is_pdu_tag V1 tag = nat_le GET_REQUEST tag && nat_le tag TRAP
is_pdu_tag V2 tag = (nat_le GET_REQUEST tag && nat_le tag SET_REQUEST) || (nat_le GET_BULK_REQUEST tag && nat_le tag REPORT)
is_pdu_tag V3 tag = false

-- the place of a PDU's agent address, if it has one, and what follows its fields: the bindings
abbrev pub pdu : List ℕ → SnmpKind → Piece → Option (Option ℕ × Part)
pdu octets kind piece =
    if is_pdu_tag kind piece.tag then (if piece.tag == TRAP then trap octets piece.content else request octets piece.content) else None

-- version 1 or 2c behind its version field: the community and a PDU (RFC 1157, 4; RFC 1901)
abbrev pub with_community : List ℕ → SnmpKind → Part → Option Outline
with_community octets kind part = do
  rest ← behind_fields octets (OCTET_STRING ∷ []) part
  piece ← only octets rest
  found ← pdu octets kind piece
  bindings ← in_sequence octets found.1
  Some (record { kind = kind; agent = found.0; bindings = bindings })

-- a message by its version field: 0 is version 1, 1 is version 2c, and 3 is version 3, whose rest is anything
abbrev pub by_version : List ℕ → ℕ → Part → Option Outline
by_version octets version part =
    if version == 0 then with_community octets V1 part
    else if version == 1 then with_community octets V2 part
    else if version == 3 then Some (record { kind = V3; agent = None; bindings = record { start = length octets; end = length octets } })
    else None

-- the kind of a message, the place of its agent address, and its bindings: a sequence that begins with the version, an integer of one octet
unfoldable pub outline_of : List ℕ → Option Outline
outline_of octets = do
  content ← in_sequence octets (record { start = 0; end = length octets })
  version ← field octets INTEGER content
  if version.content.end - version.content.start == 1 then by_version octets (slice_index octets version.content.start) version.rest else None

-- the places of the addresses that an outline has ahead: that of the agent address, if there is one, and those in the bindings
abbrev pub places_ahead : List ℕ → Outline → Option (List ℕ)
places_ahead octets ahead = do
  places ← bindings octets ahead.kind ahead.bindings
  Some (option_to_list ahead.agent ++ places)

-- the kind of a message, and the places of its addresses in their order
unfoldable pub message : List ℕ → Option (SnmpKind × List ℕ)
message octets = do
  outline ← outline_of octets
  places ← places_ahead octets outline
  Some (outline.kind, places)

-- the kind of a message
abbrev pub kind_of : List ℕ → Option SnmpKind
kind_of octets = option_map (λ m. m.0) (message octets)

-- the places of the addresses of a message
abbrev pub places_of : List ℕ → List ℕ
places_of octets = unwrap_or (option_map (λ m. m.1) (message octets)) []

-- the four octets at each place stand from a start on, before those of the next, and before an end
abbrev pub AreApart : ℕ → List ℕ → ℕ → Type 0
AreApart start [] end = start ≤ end
AreApart start (place ∷ places) end = (start ≤ place) × AreApart (place + 4) places end
