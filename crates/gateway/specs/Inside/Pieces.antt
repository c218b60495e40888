-- What only proofs and private contracts need beside `Pieces`.
use Rattle.std.specs.Prelude.{◌≡◌, List}
use Rattle.gate_desk.specs.Outside.{Outside, Grows, NoneFailed}
use Rattle.gateway.specs.Pieces.{Piece, wrote_pieces, IsFront}

-- nothing was read and no slot was started
pub record OnlyWrites (old new : Outside) : Type 0 where
  pub left : new.left ≡ old.left
  pub starts : new.starts ≡ old.starts
  pub grows : Grows old new

-- the pieces, and nothing else, were written
pub record WritesAll (pieces : List Piece) (old new : Outside) : Type 0 where
  pub written : new.written ≡ wrote_pieces pieces old.written
  pub only : OnlyWrites old new
  pub counts : NoneFailed old new

-- a front of the pieces, and nothing else, was written
pub record WritesFront (pieces : List Piece) (old new : Outside) : Type 0 where
  pub front : IsFront pieces old.written new.written
  pub only : OnlyWrites old new
