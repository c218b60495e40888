-- The renaming of addresses in place (RFC 2962).
use Rattle.std.specs.Prelude.{ℕ, List, [], ◌∷◌, Option, option_map, unwrap_or}
use Rattle.gate_base.specs.Prelude.{u32_at, with_u32}

-- the octets, with the image of the address at a place in its stead, if it has one
abbrev pub renamed_at : (ℕ → Option ℕ) → ℕ → List ℕ → List ℕ
renamed_at image place octets = unwrap_or (option_map (λ new. with_u32 place new octets) (image (u32_at place octets))) octets

-- the octets, with the image of the address at each place in its stead, if it has one
unfoldable pub renamed : (ℕ → Option ℕ) → List ℕ → List ℕ → List ℕ
renamed image [] octets = octets
renamed image (place ∷ places) octets = renamed image places (renamed_at image place octets)
