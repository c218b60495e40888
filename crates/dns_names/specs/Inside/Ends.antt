-- What a written suffix is looked up by.
use Rattle.std.specs.Prelude.{ℕ, List, [], ◌∷◌, take}
use Rattle.std.specs.Int.{from_be_bytes, w32, w64}
use Rattle.dns_names.specs.declared.suffix.Suffix.{Suffix}

-- the first label, behind its length
abbrev pub first_label : List ℕ → List ℕ
first_label [] = []
first_label (count ∷ rest) = count ∷ take count rest

-- the first eight octets as a number, or three or four where they are fewer, or none
abbrev pub front_of_three : List ℕ → ℕ
front_of_three (a ∷ b ∷ c ∷ rest) = from_be_bytes w32 (0 ∷ a ∷ b ∷ c ∷ [])
front_of_three octets = 0

abbrev pub front_of_four : List ℕ → ℕ
front_of_four (a ∷ b ∷ c ∷ d ∷ rest) = from_be_bytes w32 (a ∷ b ∷ c ∷ d ∷ [])
front_of_four octets = front_of_three octets

abbrev pub front_of : List ℕ → ℕ
front_of (a ∷ b ∷ c ∷ d ∷ e ∷ f ∷ g ∷ h ∷ rest) = from_be_bytes w64 (a ∷ b ∷ c ∷ d ∷ e ∷ f ∷ g ∷ h ∷ [])
front_of octets = front_of_four octets

-- what a suffix is compared by: its front, the place of what stands behind its first label, and that label
abbrev pub key_of : ℕ → List ℕ → List ℕ
key_of behind octets = front_of octets ∷ behind ∷ first_label octets

abbrev pub key : Suffix → List ℕ
key s = s.front ∷ s.behind ∷ first_label s.octets.now
