-- The draw: a linear congruential generator of 64 bits.
use Rattle.std.specs.Prelude.{ℕ, ◌+◌, ◌*◌, ◌/◌, ◌%◌, ◌^◌}
use Rattle.gate_workload.specs.declared.draw.TheConstants.{ADDEND, FACTOR}

-- the state that follows a state
abbrev pub next_random : ℕ → ℕ
next_random x = (x * FACTOR + ADDEND) % 2 ^ 64

-- the number below n that a state gives, from its high bits
abbrev pub drawn : ℕ → ℕ → ℕ
drawn x n = x / 2 ^ 33 % n
