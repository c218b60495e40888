-- What octets in their places and the units that are held say.
use Rattle.std.specs.Prelude.{ℕ, ◌+◌, ◌/◌, Bool, false, if◌then◌else◌, List, take, slice_index, slice_index_or, Option, Some, None}

-- the octet at a place of the payload, which stands behind the header's 20, if its unit of 8 octets is held
abbrev pub octet_held : List Bool → List ℕ → ℕ → Option ℕ
octet_held held octets place = if slice_index_or held (place / 8) false then Some (slice_index octets (20 + place)) else None

-- the header, if it is held
abbrev pub header_held : Bool → List ℕ → Option (List ℕ)
header_held headed octets = if headed then Some (take 20 octets) else None
