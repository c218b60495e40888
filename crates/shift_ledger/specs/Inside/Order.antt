-- The order of changed units.
use Rattle.std.specs.Prelude.{◌≤◌, ◌+◌, ℕ, List, [], ◌∷◌, length}
use Rattle.shift_ledger.specs.Kept.{KeptUnit}

-- the units lie one behind the other from place start to place octets_in, and their images from place at to place octets_out
abbrev pub AreInOrder : ℕ → ℕ → List KeptUnit → ℕ → ℕ → Type 0
AreInOrder start at [] octets_in octets_out = (start ≤ octets_in) × (at ≤ octets_out)
AreInOrder start at (u ∷ us) octets_in octets_out = (start ≤ u.start) × (at ≤ u.at)
    × AreInOrder (u.start + u.unit) (u.at + length u.image) us octets_in octets_out
