-- Moments, and for how long something lives on behind one, in nanoseconds.
use Rattle.std.specs.Prelude.{ℕ, ◌*◌, ◌<◌, ◌≤◌, ◌^◌}
use Rattle.gate_base.specs.declared.event.TheConstants.{LONGEST_TIMEOUT, SECOND}

-- a moment as captures have it: its seconds fit in 32 bits
abbrev pub IsMoment : ℕ → Type 0
IsMoment moment = moment < 2 ^ 32 * SECOND

-- a timeout: nothing lives on for longer than an established connection does
abbrev pub IsTimeout : ℕ → Type 0
IsTimeout timeout = timeout ≤ LONGEST_TIMEOUT
