-- Elements of the basic encoding rules (X.690, 8.1).
use Rattle.std.specs.Prelude.{ℕ, ◌-◌, Bool, ◌&&◌, nat_lt, nat_le, if◌then◌else◌, List, [], ◌∷◌, take, drop, length, Option, Some, None, option_and_then}
use Rattle.byteorder.specs.Endian.{big_number}

-- an element: its tag octet, and its content
pub record Element : Type 0 where
  pub tag : ℕ
  pub content : List ℕ

-- a first octet that announces a length of one to four octets (X.690, 8.1.3.5); 128 is the indefinite form
abbrev pub is_long_form : ℕ → Bool
is_long_form first = nat_lt 128 first && nat_le first 132

-- the length that octets begin with, and the octets behind it: below 128 in one octet, else behind their number in so many octets, the highest
-- first (X.690, 8.1.3)
abbrev pub length_at : List ℕ → Option (ℕ × List ℕ)
length_at [] = None
length_at (first ∷ more) =
    if nat_lt first 128 then Some (first, more)
    else if is_long_form first && nat_le (first - 128) (length more) then Some (big_number (first - 128) more, drop (first - 128) more)
    else None

-- an element with this tag and so many octets of content, and the rest
abbrev pub element_with : ℕ → ℕ → List ℕ → Option (Element × List ℕ)
element_with tag count octets =
    if nat_le count (length octets) then Some (record { tag = tag; content = take count octets }, drop count octets) else None

-- the element that octets begin with, and the rest
unfoldable pub element_at : List ℕ → Option (Element × List ℕ)
element_at [] = None
element_at (tag ∷ more) = option_and_then (λ p. element_with tag p.0 p.1) (length_at more)
