-- Names in a message: what stands at a place, and which labels a name has (RFC 1035, 3.1 and 4.1.4).
use Rattle.std.specs.Prelude.{◌≡◌, ℕ, ◌+◌, ◌-◌, ◌*◌, ◌<◌, ◌≤◌, if◌then◌else◌, ◌==◌, nat_lt, List, [], ◌∷◌, length, take, drop}
use Rattle.std.specs.List.{flat_map, AllByRecursion}

-- What begins at a place: the root octet, a label, a pointer, or none of them.
pub data Piece : Type 0 where
  Root : Piece
  Label : (octets : List ℕ) → Piece
  Pointer : (place : ℕ) → Piece
  Nothing : Piece

-- so many octets, where they are there
abbrev pub label_of : ℕ → List ℕ → Piece
label_of count rest = if nat_lt (length rest) count then Nothing else Label (take count rest)

-- the pointer of two octets, the first of which is 192 or more
abbrev pub pointer_of : ℕ → List ℕ → Piece
pointer_of high [] = Nothing
pointer_of high (low ∷ rest) = Pointer ((high - 192) * 256 + low)

-- The first octet decides: 0, from 1 to 63, from 192 on.
abbrev pub piece_by : ℕ → List ℕ → Piece
piece_by first rest = if first == 0 then Root else if nat_lt first 64 then label_of first rest else if nat_lt first 192 then Nothing else pointer_of
    first rest

-- what begins at the front of octets
abbrev pub piece_of : List ℕ → Piece
piece_of [] = Nothing
piece_of (first ∷ rest) = piece_by first rest

-- what begins at a place
unfoldable pub piece_at : List ℕ → ℕ → Piece
piece_at message place = piece_of (drop place message)

-- The labels that stand from a place on, in a name that starts at start, and the place after them: a pointer leads below
-- that start, and begins a name of its own there.
pub data Stands (message : List ℕ) : ℕ → ℕ → List (List ℕ) → ℕ → Type 0 where
  AtRoot : (start place : ℕ) → piece_at message place ≡ Root → Stands message start place [] (place + 1)
  AtLabel : (start place : ℕ) (label : List ℕ) (labels : List (List ℕ)) (after : ℕ) → piece_at message place ≡ Label label
      → Stands message start (place + 1 + length label) labels after → Stands message start place (label ∷ labels) after
  AtPointer : (start place to : ℕ) (labels : List (List ℕ)) (after : ℕ) → piece_at message place ≡ Pointer to → to < start
      → Stands message to to labels after → Stands message start place labels (place + 2)

-- a label behind its length
abbrev pub spelled_label : List ℕ → List ℕ
spelled_label label = length label ∷ label

-- labels written out, without the root octet
abbrev pub spelled : List (List ℕ) → List ℕ
spelled labels = flat_map spelled_label labels

-- The name at a place: at most 255 octets when written out, the root octet among them.
pub record NameAt (message : List ℕ) (place : ℕ) (labels : List (List ℕ)) (after : ℕ) : Type 0 where
  pub stands : Stands message place place labels after
  pub short : length (spelled labels) ≤ 254

-- a label has 1 to 63 octets
abbrev pub IsLabel : List ℕ → Type 0
IsLabel label = (1 ≤ length label) × (length label ≤ 63)

-- what a name is, wherever it stands
pub record IsName (name : List (List ℕ)) : Type 0 where
  pub labels : AllByRecursion IsLabel name
  pub short : length (spelled name) ≤ 254

-- octets that spell a name
pub record IsSpelled (octets : List ℕ) (name : List (List ℕ)) : Type 0 where
  pub octets_are : octets ≡ spelled name
  pub is_name : IsName name
