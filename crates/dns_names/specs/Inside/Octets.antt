-- Labels in the octets that spell them.
use Rattle.std.specs.Prelude.{ℕ, ◌==◌, if◌then◌else◌, nat_lt, List, [], ◌∷◌, length, take, drop, Option, Some, None}
use Rattle.gate_base.specs.Prelude.{◌>>=◌}
use Rattle.dns_names.specs.Reverse.{full_reverse}

-- the label at the front, and what stands behind it
abbrev pub label_in : List ℕ → Option (List ℕ × List ℕ)
label_in [] = None
label_in (count ∷ rest) = if nat_lt (length rest) count then None else Some (take count rest, drop count rest)

-- what stands behind the label at the front
abbrev pub behind : List ℕ → List ℕ
behind [] = []
behind (count ∷ rest) = drop count rest

-- the address of the full reverse name that octets spell
unfoldable pub reverse_in : List ℕ → Option ℕ
reverse_in octets = do
  (d, rest) ← label_in octets
  (c, rest) ← label_in rest
  (b, rest) ← label_in rest
  (a, rest) ← label_in rest
  (zone, rest) ← label_in rest
  (top, rest) ← label_in rest
  if length rest == 0 then full_reverse (d ∷ c ∷ b ∷ a ∷ zone ∷ top ∷ []) else None
