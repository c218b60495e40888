-- How a desk counts the calls that fail.
use Rattle.std.specs.Prelude.{ℕ, ◌+◌, ◌-◌, ◌^◌, Result, Ok, Err, max, min}
use Rattle.gate_desk.specs.declared.slot.Slot.{Slot}
use Rattle.gate_desk.specs.declared.slot.PerSlot.{PerSlot}
use Rattle.gate_desk.specs.Slots.{at, put}

-- one more, up to the type's end
abbrev pub raised : ℕ → ℕ
raised n = max n (min (n + 1) (2 ^ 64 - 1))

-- a call that succeeds leaves the counts, and one that fails raises that of its slot
abbrev pub counts_after : {A E : Type 0} → Result A E → Slot → PerSlot ℕ → PerSlot ℕ
counts_after (Ok answer) slot counts = counts
counts_after (Err error) slot counts = put counts slot (raised (at counts slot))
