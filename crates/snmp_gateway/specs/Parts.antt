-- Elements in a message, by their places.
use Rattle.std.specs.Prelude.{ℕ, ◌-◌, Bool, true, ◌&&◌, ◌||◌, ◌==◌, nat_lt, nat_le, if◌then◌else◌}
use Rattle.std.specs.Prelude.{List, [], ◌∷◌, take, drop, length, Option, Some, None}
use Rattle.gate_base.specs.Prelude.{◌>>=◌}
use Rattle.snmp_gateway.specs.Element.{Element, element_at}
use Rattle.snmp_gateway.specs.declared.part.TheConstants.{END_OF_MIB_VIEW, INTEGER, IP_ADDRESS, NO_SUCH_INSTANCE}
use Rattle.snmp_gateway.specs.declared.part.TheConstants.{NO_SUCH_OBJECT, NULL, OBJECT_IDENTIFIER, SEQUENCE}
use Rattle.snmp_gateway.specs.declared.part.Part.{Part}
use Rattle.snmp_gateway.specs.declared.part.Piece.{Piece}

-- the tags of what stands in the place of a value that there isn't
abbrev pub is_exception : ℕ → Bool
is_exception tag = (tag == NO_SUCH_OBJECT || tag == NO_SUCH_INSTANCE) || tag == END_OF_MIB_VIEW

-- whether an element with this tag can have so many octets of content
abbrev pub has_right_size : ℕ → ℕ → Bool
has_right_size tag count =
    if tag == INTEGER || tag == OBJECT_IDENTIFIER then nat_lt 0 count
    else if tag == IP_ADDRESS then count == 4
    else if tag == NULL || is_exception tag then count == 0
    else true

-- the octets of a part, where the message has them
abbrev pub octets_in : List ℕ → Part → Option (List ℕ)
octets_in octets part = if nat_le part.start part.end && nat_le part.end (length octets) then Some
    (take (part.end - part.start) (drop part.start octets)) else None

-- the places of an element, which ends where the rest begins
abbrev pub piece_of : Part → Element × List ℕ → Piece
piece_of part found = record {
  tag = found.0.tag;
  content = record { start = part.end - length found.1 - length found.0.content; end = part.end - length found.1 };
  rest = record { start = part.end - length found.1; end = part.end };
}

-- the element that a part begins with, if its content has a right size
unfoldable pub first_of : List ℕ → Part → Option Piece
first_of octets part = do
  within ← octets_in octets part
  found ← element_at within
  if has_right_size found.0.tag (length found.0.content) then Some (piece_of part found) else None

-- the element that a part begins with, if it has this tag
abbrev pub field : List ℕ → ℕ → Part → Option Piece
field octets tag part = do
  piece ← first_of octets part
  if piece.tag == tag then Some piece else None

-- what follows the fields with these tags that a part begins with
unfoldable pub behind_fields : List ℕ → List ℕ → Part → Option Part
behind_fields octets [] part = Some part
behind_fields octets (tag ∷ tags) part = do
  piece ← field octets tag part
  behind_fields octets tags piece.rest

-- the only element of a part
abbrev pub only : List ℕ → Part → Option Piece
only octets part = do
  piece ← first_of octets part
  if piece.rest.start == piece.rest.end then Some piece else None

-- the content of the only element of a part, if that is a sequence
abbrev pub in_sequence : List ℕ → Part → Option Part
in_sequence octets part = do
  piece ← only octets part
  if piece.tag == SEQUENCE then Some piece.content else None
