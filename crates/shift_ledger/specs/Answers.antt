-- What a ledger answers, by what it keeps. Octets that stand as they are are measured backward from the next kept unit, or else from the end.
use Rattle.std.specs.Prelude.{◌+◌, ◌-◌, ℕ, cond, nat_lt, nat_le, List, [], ◌∷◌, map, length, slice_index}
use Rattle.std.specs.List.{range_with_len}
use Rattle.shift_ledger.specs.Kept.{Kept, KeptUnit}

-- the least image place of octet p
unfoldable pub fore_walk : List KeptUnit → ℕ → ℕ → ℕ → ℕ
fore_walk [] octets_in octets_out p = octets_out - (octets_in - p)
fore_walk (u ∷ us) octets_in octets_out p = cond (nat_lt p (u.start + u.unit)) (u.at - (u.start - p)) (fore_walk us octets_in octets_out p)

abbrev pub fore_by : Kept → ℕ → ℕ
fore_by l p = fore_walk l.changed l.octets_in l.octets_out p

-- how many octets have all their image places below q
unfoldable pub back_walk : List KeptUnit → ℕ → ℕ → ℕ → ℕ
back_walk [] octets_in octets_out q = octets_in - (octets_out - q)
back_walk (u ∷ us) octets_in octets_out q = cond (nat_lt q (u.at + length u.image)) (u.start - (u.at - q)) (back_walk us octets_in octets_out q)

abbrev pub back_by : Kept → ℕ → ℕ
back_by l q = back_walk l.changed l.octets_in l.octets_out q

-- one more than the greatest image place of octet e - 1
unfoldable pub rear_walk : List KeptUnit → ℕ → ℕ → ℕ → ℕ
rear_walk [] octets_in octets_out e = octets_out - (octets_in - e)
rear_walk (u ∷ us) octets_in octets_out e = cond (nat_le e (u.start + u.unit))
    (cond (nat_lt u.start e) (u.at + length u.image) (u.at - (u.start - e))) (rear_walk us octets_in octets_out e)

abbrev pub rear_by : Kept → ℕ → ℕ
rear_by l e = rear_walk l.changed l.octets_in l.octets_out e

-- the octet at image place q, where the sender's octets from place start on are these
unfoldable pub octet_walk : List KeptUnit → ℕ → ℕ → ℕ → List ℕ → ℕ → ℕ
octet_walk [] octets_in octets_out start octets q = slice_index octets (octets_in - (octets_out - q) - start)
octet_walk (u ∷ us) octets_in octets_out start octets q =
    cond (nat_lt q u.at)
    (slice_index octets (u.start - (u.at - q) - start))
    (cond (nat_lt q (u.at + length u.image)) (slice_index u.image (q - u.at)) (octet_walk us octets_in octets_out start octets q))

-- the image from place lo to below hi
abbrev pub copied_by : Kept → ℕ → ℕ → ℕ → List ℕ → List ℕ
copied_by l lo hi start octets = map (octet_walk l.changed l.octets_in l.octets_out start octets) (range_with_len lo (hi - lo))
