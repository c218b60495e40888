-- What is said of each place below a bound.
use Rattle.std.specs.Prelude.{ℕ, zero, suc, ◌+◌, Bool, true, false, ◌&&◌, ◌||◌, if◌then◌else◌, List, map}
use Rattle.std.specs.List.{range_with_len}

-- the list of what stands at each place below a bound
abbrev pub table : {X : Type 0} → (ℕ → X) → ℕ → List X
table at bound = map at (range_with_len 0 bound)

-- some place below the bound passes
abbrev pub any_below : (ℕ → Bool) → ℕ → Bool
any_below test zero = false
any_below test (suc place) = any_below test place || test place

-- each place below the bound passes
abbrev pub all_below : (ℕ → Bool) → ℕ → Bool
all_below test zero = true
all_below test (suc place) = all_below test place && test place

-- how many places below the bound pass
abbrev pub count_below : (ℕ → Bool) → ℕ → ℕ
count_below test zero = 0
count_below test (suc place) = count_below test place + (if test place then 1 else 0)
