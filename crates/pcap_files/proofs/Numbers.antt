-- Numbers and their spellings.
use Rattle.std.proofs.Common.{◌≡◌, ℕ, zero, suc, ◌+◌, ◌*◌, ◌^◌, ◌/◌, ◌%◌, ◌<◌, ◌≤◌, List, [], ◌∷◌, ◌++◌, All, take, drop, length, slice_index, ap, arith}
use Rattle.byteorder.specs.Numbers.{little_number-reads_back, big_number-reads_back, little_from-lt, big_from-lt}
use Rattle.pcap_files.specs.declared.form.Order.{Order}
use Rattle.pcap_files.specs.declared.form.Order.TheVariants.{Little, Big}
use Rattle.pcap_files.specs.Prelude.{number_at, number_octets}

-- a spelled number reads back
pub number-number_octets : (order : Order) (n : ℕ) (rest : List ℕ) → n < 2 ^ 32 → number_at order 0 (number_octets order n ++ rest) ≡ n
number-number_octets Little n rest h = little_number-reads_back 4 n rest h
number-number_octets Big n rest h = big_number-reads_back 4 n rest h

-- all are octets
pub AreOctets : List ℕ → Type 0
AreOctets [] = Unit {0}
AreOctets (x ∷ xs) = (x < 256) × AreOctets xs

-- octets, one by one
pub octets_of : (xs : List ℕ) → All (λ octet. octet < 256) xs → AreOctets xs
unfolding AreOctets
octets_of [] h = tt
octets_of (x ∷ xs) h = (h 0 0 (omega arith), octets_of xs (λ k d less. h (suc k) d (omega arith)))

-- what is left of octets
pub octets-drop : (n : ℕ) (xs : List ℕ) → AreOctets xs → AreOctets (drop n xs)
unfolding AreOctets
octets-drop zero xs h = h
octets-drop (suc n) [] h = h
octets-drop (suc n) (x ∷ xs) h = octets-drop n xs h.1

octet_at : (xs : List ℕ) → AreOctets xs → (k : ℕ) → slice_index xs k < 256
unfolding AreOctets
octet_at [] h k = omega arith
octet_at (x ∷ xs) h zero = h.0
octet_at (x ∷ xs) h (suc k) = octet_at xs h.1 k

-- a number has 32 bits
pub number-small : (order : Order) (xs : List ℕ) → AreOctets xs → number_at order 0 xs < 2 ^ 32
number-small Little xs h = little_from-lt 0 4 xs (octet_at xs h)
number-small Big xs h = big_from-lt 0 4 xs (octet_at xs h)

four : (a b c d a' b' c' d' : ℕ) → a ≡ a' → b ≡ b' → c ≡ c' → d ≡ d' → a ∷ b ∷ c ∷ d ∷ [] ≡ a' ∷ b' ∷ c' ∷ d' ∷ []
four a b c d a' b' c' d' e f g h = cc

low_first : (a b c d n : ℕ) → a < 256 → b < 256 → c < 256 → d < 256 → n ≡ a + 256 * (b + 256 * (c + 256 * d))
    → n % 256 ∷ n / 256 % 256 ∷ n / 65536 % 256 ∷ n / 16777216 % 256 ∷ [] ≡ a ∷ b ∷ c ∷ d ∷ []
low_first a b c d n ha hb hc hd e = four (n % 256) (n / 256 % 256) (n / 65536 % 256) (n / 16777216 % 256) a b c d (omega arith) (omega arith)
    (omega arith) (omega arith)

abbrev backwards : List ℕ → List ℕ
backwards (d ∷ c ∷ b ∷ a ∷ xs) = a ∷ b ∷ c ∷ d ∷ []
backwards xs = xs

-- what is read is spelled by the octets that were read
pub number_octets-number : (order : Order) (xs : List ℕ) → 4 ≤ length xs → AreOctets xs → number_octets order (number_at order 0 xs) ≡ take 4 xs
unfolding AreOctets
number_octets-number order [] few h = absurd (omega arith)
number_octets-number order (a ∷ []) few h = absurd (omega arith)
number_octets-number order (a ∷ b ∷ []) few h = absurd (omega arith)
number_octets-number order (a ∷ b ∷ c ∷ []) few h = absurd (omega arith)
number_octets-number Little (a ∷ b ∷ c ∷ d ∷ xs) few h = low_first a b c d (a + 256 * (b + 256 * (c + 256 * (d + 0)))) h.0 h.1.0 h.1.1.0 h.1.1.1.0
    (omega arith)
number_octets-number Big (a ∷ b ∷ c ∷ d ∷ xs) few h =
    ap backwards (low_first d c b a (a * 16777216 + (b * 65536 + (c * 256 + (d * 1 + 0)))) h.1.1.1.0 h.1.1.0 h.1.0 h.0 (omega arith))
