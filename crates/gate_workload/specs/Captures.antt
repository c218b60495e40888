-- The captures of the workload: bare datagrams, little-endian, fractions in microseconds.
use Rattle.std.specs.Prelude.{ℕ, ◌+◌, ◌*◌, ◌/◌, ◌%◌, List, [], ◌∷◌, ◌++◌, length}
use Rattle.gate_base.specs.declared.side.Link.TheVariants.{Raw}
use Rattle.pcap_files.specs.declared.form.Form.{Form}
use Rattle.pcap_files.specs.declared.form.Order.TheVariants.{Little}
use Rattle.pcap_files.specs.declared.form.Precision.TheVariants.{Microseconds}
use Rattle.pcap_files.specs.Prelude.{spelled_head, spelled_numbers}
use Rattle.gate_workload.specs.declared.capture.TheConstants.{FIRST_SECOND}

-- the head of a capture: version 2.4, zone 0, accuracy 0, records of at most 262,144 octets
abbrev pub capture_head : List ℕ
capture_head = spelled_head Little Microseconds (2 ∷ 0 ∷ 4 ∷ 0 ∷ 0 ∷ 0 ∷ 0 ∷ 0 ∷ 0 ∷ 0 ∷ 0 ∷ 0 ∷ 0 ∷ 0 ∷ 4 ∷ 0 ∷ []) Raw

-- the head of the record of frame n of all: it comes n milliseconds after FIRST_SECOND, and nothing of it is left out
abbrev pub record_head : ℕ → ℕ → List ℕ
record_head n len = spelled_numbers Little (FIRST_SECOND + n / 1000) (n % 1000 * 1000) len len

-- the record of frame n
unfoldable pub record_of : ℕ → List ℕ → List ℕ
record_of n datagram = record_head n (length datagram) ++ datagram

-- what both captures are
abbrev pub capture_form : Form
capture_form = record { order = Little; precision = Microseconds; link = Raw }
