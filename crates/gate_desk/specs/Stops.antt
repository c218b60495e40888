use Rattle.std.specs.Prelude.{◌≡◌}
use Rattle.gate_desk.specs.declared.slot.Slot.{Slot}
use Rattle.gate_desk.specs.declared.whole.TakeStop.{TakeStop}
use Rattle.gate_desk.specs.declared.whole.TakeStop.TheVariants.{Desk, OutOfMemory}
use Rattle.gate_desk.specs.Outside.{Outside, HasFailed}

-- the stop names the slot, which has failed, or memory
abbrev pub HasStopped : TakeStop → Slot → Outside → Outside → Type 0
HasStopped (Desk s) slot old new = (s ≡ slot) × HasFailed slot old new
HasStopped OutOfMemory slot old new = Unit {0}
