-- What only proofs and private contracts need beside `Order`.
use Rattle.std.specs.Prelude.{ℕ, Option, Some, None, if◌then◌else◌, nat_le}
use Rattle.gate_base.specs.declared.side.Side.{Side}
use Rattle.gate_base.specs.declared.side.Side.TheVariants.{Left, Right}

-- the side of the earlier stamp, and that stamp: the left one where they are equal
abbrev pub earlier : Option ℕ → Option ℕ → Option (Side × ℕ)
earlier None None = None
earlier (Some left) None = Some (Left, left)
earlier None (Some right) = Some (Right, right)
earlier (Some left) (Some right) = if nat_le left right then Some (Left, left) else Some (Right, right)
