-- Worked rows of the definitions.
use Rattle.std.proofs.Common.{◌≡◌, ℕ, List, [], ◌∷◌, Some, None, refl, lit<, lit≤, codes}
use Rattle.dns_names.specs.Prelude.{AtRoot, AtLabel, AtPointer, NameAt, Text, put_name}
use Rattle.dns_names.specs.Names.{piece_at}
use Rattle.dns_names.specs.Walk.{name_at}
use Rattle.dns_names.specs.Spelling.{spell}
use Rattle.dns_names.specs.Reverse.{full_reverse}
use Rattle.gate_base.specs.Address.{number_of}

abbrev example : List ℕ
example = codes "example"

abbrev ftp : List ℕ
ftp = codes "ftp"

-- ftp.example at 2, and a pointer to it
abbrev message : List ℕ
message = 9 ∷ 9 ∷ 3 ∷ 102 ∷ 116 ∷ 112 ∷ 7 ∷ 101 ∷ 120 ∷ 97 ∷ 109 ∷ 112 ∷ 108 ∷ 101 ∷ 0 ∷ 192 ∷ 2 ∷ []

first : NameAt message 2 (ftp ∷ example ∷ []) 15
unfolding piece_at
first = record { stands = AtLabel 2 2 ftp (example ∷ []) 15 refl (AtLabel 2 6 example [] 15 refl (AtRoot 2 14 refl)); short = lit≤ tt }

second : NameAt message 15 (ftp ∷ example ∷ []) 17
unfolding piece_at
second = record { stands = AtPointer 15 15 2 _ 15 refl (lit< tt) first.stands; short = lit≤ tt }

itself : name_at (192 ∷ 0 ∷ []) 0 ≡ None
unfolding name_at piece_at
itself = refl

-- ftp.example, then example, then w.ftp.example
written : Text.octets (put_name (put_name (put_name (record { octets = 9 ∷ 9 ∷ []; starts = [] }) (ftp ∷ example ∷ [])) (example ∷ []))
    ((119 ∷ []) ∷ ftp ∷ example ∷ []))
    ≡ 9 ∷ 9 ∷ 3 ∷ 102 ∷ 116 ∷ 112 ∷ 7 ∷ 101 ∷ 120 ∷ 97 ∷ 109 ∷ 112 ∷ 108 ∷ 101 ∷ 0 ∷ 192 ∷ 6 ∷ 1 ∷ 119 ∷ 192 ∷ 2 ∷ []
unfolding spell
written = refl

address : full_reverse (codes "1" ∷ codes "200" ∷ codes "168" ∷ codes "192" ∷ codes "In-Addr" ∷ codes "ARPA" ∷ []) ≡ Some 3232286721
unfolding full_reverse number_of
address = refl

zero_first : full_reverse (codes "01" ∷ codes "0" ∷ codes "0" ∷ codes "10" ∷ codes "in-addr" ∷ codes "arpa" ∷ []) ≡ None
unfolding full_reverse number_of
zero_first = refl
