-- Full reverse names: the names of addresses (RFC 1035, 3.5).
use Rattle.std.specs.Prelude.{ℕ, ◌+◌, ◌*◌, ◌/◌, ◌%◌, ◌&&◌, if◌then◌else◌, Bool, List, [], ◌∷◌, ◌++◌, Option, Some, None, codes, decimal}
use Rattle.std.specs.Str.{str_eq_ignore_ascii_case}
use Rattle.gate_base.specs.Prelude.{◌>>=◌, number_of}

-- the two labels at the end, in any case of their letters
abbrev pub is_zone : List ℕ → List ℕ → Bool
is_zone zone top = str_eq_ignore_ascii_case zone (codes "in-addr") && str_eq_ignore_ascii_case top (codes "arpa")

-- The address of a full reverse name: four decimal numbers from 0 to 255 without leading zeros, the low octet first, then
-- in-addr and arpa.
unfoldable pub full_reverse : List (List ℕ) → Option ℕ
full_reverse (d ∷ c ∷ b ∷ a ∷ zone ∷ top ∷ []) = do
  d ← number_of d
  c ← number_of c
  b ← number_of b
  a ← number_of a
  if is_zone zone top then Some (((a * 256 + b) * 256 + c) * 256 + d) else None
full_reverse _ = None

-- the four numbers of an address as labels, the low octet first
abbrev pub numbers : ℕ → List (List ℕ)
numbers address = decimal (address % 256) ∷ decimal (address / 256 % 256) ∷ decimal (address / 65536 % 256) ∷ decimal (address / 16777216) ∷ []

-- The reverse name of another address, with the old spelling of its last two labels.
abbrev pub with_address : ℕ → List (List ℕ) → List (List ℕ)
with_address address (d ∷ c ∷ b ∷ a ∷ zone) = numbers address ++ zone
with_address address _ = []
