-- Uses of two addresses, and what they are called afterwards.
use Rattle.std.proofs.Common.{◌≡◌, true, sym, ap, ◌∙◌}
use Rattle.gate_base.specs.declared.address.Addr.{Addr}
use Rattle.binding_table.specs.Prelude.{Bindings, cross, is_settled, Use, used}
use Rattle.binding_table.specs.declared.binding.Crossing.{Crossing}
use Rattle.binding_table.proofs.Planned.{settled_stays, used_follows}

-- a settled crossing stays after a use
pub stays : (table : Bindings) (address : Addr) (one : Use) (crossing : Crossing) → crossing ≡ cross table one.side address
    → is_settled crossing ≡ true → crossing ≡ cross (used table one) one.side address
stays table address one crossing e s = e
    ∙ sym (settled_stays table (used table one) one.side address (used_follows table one) (ap is_settled (sym e) ∙ s))
