-- What the code finds at a place, as a piece.
use Rattle.std.specs.Prelude.{ℕ, ◌+◌, ◌≤◌, length}
use Rattle.dns_names.specs.Names.{Piece, Root, Label, Pointer, Nothing}
use Rattle.dns_names.specs.declared.piece.PieceAt.{PieceAt}
use Rattle.dns_names.specs.declared.piece.PieceAt.TheVariants as found

-- the piece that was found
abbrev pub piece : PieceAt → Piece
piece found.Root = Root
piece (found.Label label) = Label label.now
piece (found.Pointer place) = Pointer place
piece found.Nothing = Nothing

-- the piece lies within so many octets
abbrev pub IsWithin : PieceAt → ℕ → ℕ → Type 0
IsWithin found.Root place count = place + 1 ≤ count
IsWithin (found.Label label) place count = place + 1 + length label.now ≤ count
IsWithin (found.Pointer to) place count = place + 2 ≤ count
IsWithin found.Nothing place count = Unit {0}
