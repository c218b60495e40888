-- The name of a realm is short.
use Rattle.std.proofs.Common.{◌≤◌, length, arith}
use Rattle.gate_base.specs.declared.side.Side.{Side}
use Rattle.gate_base.specs.declared.side.Side.TheVariants.{Left, Right}
use Rattle.gate_base.specs.Prelude.{name_of}

pub side_short : (side : Side) → length (name_of side) ≤ 5
side_short Left = omega arith
side_short Right = omega arith
