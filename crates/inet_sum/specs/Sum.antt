-- The Internet checksum (RFC 1071), as one remainder.
use Rattle.std.specs.Prelude.{◌≡◌, ℕ, ◌+◌, ◌-◌, ◌*◌, ◌%◌, Bool, ◌==◌, if◌then◌else◌, List, [], ◌∷◌, ◌++◌, sum}
use Rattle.byteorder.specs.Endian.{big_bytes}

-- the 16-bit words of octets, the highest octet first; an odd last octet is padded with a zero octet
unfoldable pub words : List ℕ → List ℕ
words [] = []
words (last ∷ []) = last * 256 ∷ []
words (high ∷ low ∷ rest) = (high * 256 + low) ∷ words rest

-- the sum of the words
abbrev pub total : List ℕ → ℕ
total octets = sum (words octets)

-- the one's complement sum of words with this total: adding a carry back in takes 65535 away, and no sum of words that aren't all 0 becomes 0
unfoldable pub fold_of : ℕ → ℕ
fold_of total = if total == 0 then 0 else (total - 1) % 65535 + 1

-- the one's complement sum of the words
abbrev pub folded : List ℕ → ℕ
folded octets = fold_of (total octets)

-- the checksum that belongs into a field that is 0: the complement of the sum
abbrev pub checksum : List ℕ → ℕ
checksum octets = 65535 - folded octets

-- the checksum in these octets is right: together they sum to FFFF
abbrev pub IsRight : List ℕ → Type 0
IsRight octets = folded octets ≡ 65535

-- the test of that
abbrev pub is_right : List ℕ → Bool
is_right octets = folded octets == 65535

-- what is summed before a segment of this length: both addresses, a zero octet, the protocol, the length (RFC 768; RFC 9293, 3.1)
abbrev pub pseudo_header : ℕ → ℕ → ℕ → ℕ → List ℕ
pseudo_header source destination protocol length = ((big_bytes 4 source ++ big_bytes 4 destination) ++ (0 ∷ protocol ∷ [])) ++ big_bytes 2 length
