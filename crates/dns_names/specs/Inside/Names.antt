-- What only proofs and private contracts need beside `Names`.
use Rattle.std.specs.Prelude.{ℕ, zero, suc, List, [], ◌∷◌, length, take, drop}

-- labels of octets that spell them, at most so many
abbrev pub split : ℕ → List ℕ → List (List ℕ)
split zero octets = []
split (suc n) [] = []
split (suc n) (count ∷ rest) = take count rest ∷ split n (drop count rest)

-- the labels that octets spell
unfoldable pub labels_in : List ℕ → List (List ℕ)
labels_in octets = split (length octets) octets
