-- The name at a place, in one walk.
use Rattle.std.specs.Prelude.{ℕ, zero, suc, ◌+◌, ◌-◌, if◌then◌else◌, nat_lt, List, [], ◌∷◌, length, Option, Some, None, option_map}
use Rattle.dns_names.specs.Names.{Piece, Root, Label, Pointer, Nothing, piece_at}

-- labels, and the place after them
abbrev pub Walked : Type 0
Walked = Option (List (List ℕ) × ℕ)

-- how a walk goes on from a piece, where the labels to come have room for so many octets
abbrev pub walk_on : (ℕ → ℕ → ℕ → Walked) → Piece → ℕ → ℕ → ℕ → Walked
walk_on go Root room start place = Some ([], place + 1)
walk_on go (Label label) room start place =
    if nat_lt room (1 + length label) then None
    else option_map (λ x. (label ∷ x.0, x.1)) (go (room - (1 + length label)) start (place + 1 + length label))
walk_on go (Pointer to) room start place = if nat_lt to start then option_map (λ x. (x.0, place + 2)) (go room to to) else None
walk_on go Nothing room start place = None

-- a walk over at most so many pieces
abbrev pub walk : ℕ → List ℕ → ℕ → ℕ → ℕ → Walked
walk zero message room start place = None
walk (suc n) message room start place = walk_on (λ r s p. walk n message r s p) (piece_at message place) room start place

-- The name at a place and the place after it: each step lowers the start or uses up room, so that this many are enough.
unfoldable pub name_at : List ℕ → ℕ → Walked
name_at message place = walk (suc (place + 254)) message 254 place place
