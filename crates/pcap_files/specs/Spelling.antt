-- How captures are spelled.
use Rattle.std.specs.Prelude.{ℕ, ◌/◌, ◌%◌, List, [], ◌∷◌, ◌++◌, length}
use Rattle.byteorder.specs.Endian.{little_bytes, big_bytes}
use Rattle.gate_base.specs.declared.side.Link.{Link}
use Rattle.gate_base.specs.declared.event.TheConstants.{SECOND}
use Rattle.pcap_files.specs.declared.form.Order.{Order}
use Rattle.pcap_files.specs.declared.form.Order.TheVariants.{Little, Big}
use Rattle.pcap_files.specs.declared.form.Precision.{Precision}
use Rattle.pcap_files.specs.declared.form.Precision.TheVariants.{Nanoseconds}
use Rattle.pcap_files.specs.Capture.{magic, link_number}

-- a 32-bit number
abbrev pub number_octets : Order → ℕ → List ℕ
number_octets Little n = little_bytes 4 n
number_octets Big n = big_bytes 4 n

-- the head of a capture: its magic number, sixteen octets, and its link type
abbrev pub spelled_head : Order → Precision → List ℕ → Link → List ℕ
spelled_head order precision between link = number_octets order (magic precision) ++ between ++ number_octets order (link_number link)

-- the head of a record: seconds, fraction, kept and original length
abbrev pub spelled_numbers : Order → ℕ → ℕ → ℕ → ℕ → List ℕ
spelled_numbers order seconds fraction kept original = number_octets order seconds ++ number_octets order fraction ++ number_octets order kept
    ++ number_octets order original

-- the head of an outgoing capture: version 2.4, zone 0, accuracy 0, records of at most 262,144 octets
abbrev pub head_octets : Link → List ℕ
head_octets link = spelled_head Little Nanoseconds (2 ∷ 0 ∷ 4 ∷ 0 ∷ 0 ∷ 0 ∷ 0 ∷ 0 ∷ 0 ∷ 0 ∷ 0 ∷ 0 ∷ 0 ∷ 0 ∷ 4 ∷ 0 ∷ []) link

-- the head of an outgoing record at a moment in nanoseconds: nothing of it is left out
abbrev pub record_head : ℕ → ℕ → List ℕ
record_head moment len = spelled_numbers Little (moment / SECOND) (moment % SECOND) len len

-- an outgoing record
unfoldable pub record_octets : ℕ → List ℕ → List ℕ
record_octets moment octets = record_head moment (length octets) ++ octets
