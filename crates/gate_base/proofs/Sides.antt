-- The two realms.
use Rattle.std.proofs.Common.{◌≡◌, true, refl}
use Rattle.gate_base.specs.Prelude.{other, same_side}
use Rattle.gate_base.specs.declared.side.Side.{Side}
use Rattle.gate_base.specs.declared.side.Side.TheVariants.{Left, Right}

pub same_side-true : (one two : Side) → same_side one two ≡ true → one ≡ two
same_side-true Left Left h = refl
same_side-true Left Right h = cc
same_side-true Right Left h = cc
same_side-true Right Right h = refl

pub same_side-itself : (side : Side) → same_side side side ≡ true
same_side-itself Left = refl
same_side-itself Right = refl

pub same_side-sym : (one two : Side) → same_side one two ≡ same_side two one
same_side-sym Left Left = refl
same_side-sym Left Right = refl
same_side-sym Right Left = refl
same_side-sym Right Right = refl

pub other_other : (side : Side) → other (other side) ≡ side
other_other Left = refl
other_other Right = refl
