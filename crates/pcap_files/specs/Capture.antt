-- A capture as a list of octets: a head of 24 octets, and records. All its numbers stand in one byte order.
use Rattle.std.specs.Prelude.{ℕ, ◌+◌, ◌*◌, List, [], ◌∷◌, Bool, Option, Some, None, zero, suc, if◌then◌else◌, nat_lt, nat_le, ◌==◌, find, take, drop, length}
use Rattle.byteorder.specs.Endian.{little_number, big_number}
use Rattle.gate_base.specs.declared.side.Link.{Link}
use Rattle.gate_base.specs.declared.side.Link.TheVariants.{Ethernet, Raw}
use Rattle.gate_base.specs.declared.event.TheConstants.{SECOND}
use Rattle.pcap_files.specs.declared.fault.CaptureFault.{CaptureFault}
use Rattle.pcap_files.specs.declared.fault.CaptureFault.TheVariants.{NoHead, Magic, Link as OtherLink, Torn, Stamp, RecordTooLong, CaptureTooLong}
use Rattle.pcap_files.specs.declared.form.Order.{Order}
use Rattle.pcap_files.specs.declared.form.Order.TheVariants.{Little, Big}
use Rattle.pcap_files.specs.declared.form.Precision.{Precision}
use Rattle.pcap_files.specs.declared.form.Precision.TheVariants.{Microseconds, Nanoseconds}
use Rattle.pcap_files.specs.declared.form.Form.{Form}
use Rattle.pcap_files.specs.declared.record.TheConstants.{LONGEST_CAPTURE, LONGEST_RECORD}

-- the 32-bit number at a place
abbrev pub number_at : Order → ℕ → List ℕ → ℕ
number_at Little place octets = little_number 4 (drop place octets)
number_at Big place octets = big_number 4 (drop place octets)

-- the number that begins a capture
abbrev pub magic : Precision → ℕ
magic Microseconds = 0xa1b2c3d4
magic Nanoseconds = 0xa1b23c4d

-- the number of a link type
abbrev pub link_number : Link → ℕ
link_number Ethernet = 1
link_number Raw = 101

-- the nanoseconds of one unit of a fraction
abbrev pub unit : Precision → ℕ
unit Microseconds = 1000
unit Nanoseconds = 1

-- the byte orders and precisions of the four forms
abbrev pub layouts : List (Order × Precision)
layouts = (Little, Microseconds) ∷ (Little, Nanoseconds) ∷ (Big, Microseconds) ∷ (Big, Nanoseconds) ∷ []

-- the layout whose magic number stands at the front
abbrev pub layout_at : List ℕ → Option (Order × Precision)
layout_at octets = find (λ (l : Order × Precision). number_at l.0 0 octets == magic l.1) layouts

-- the link type of a number
abbrev pub link_of : ℕ → Option Link
link_of number = find (λ (l : Link). number == link_number l) (Ethernet ∷ Raw ∷ [])

-- what the head of a capture is
pub data Head : Type 0 where
  Good : Form → Head
  Bad : CaptureFault → Head

-- a head with this layout, by its link type
abbrev pub by_link : Order → Precision → Option Link → Head
by_link order precision None = Bad OtherLink
by_link order precision (Some link) = Good (record { order = order; precision = precision; link = link })

-- a head, by the layout of its magic number
abbrev pub by_layout : List ℕ → Option (Order × Precision) → Head
by_layout octets None = Bad Magic
by_layout octets (Some l) = by_link l.0 l.1 (link_of (number_at l.0 20 octets))

-- the head of a capture: its length is tested first, then its magic number, then its link type
unfoldable pub head_of : List ℕ → Head
head_of octets = if nat_lt (length octets) 24 then Bad NoHead else by_layout octets (layout_at octets)

-- the seconds at the head of a record
abbrev pub seconds_of : Form → List ℕ → ℕ
seconds_of form octets = number_at form.order 0 octets

-- its fraction, in nanoseconds
abbrev pub nanoseconds_of : Form → List ℕ → ℕ
nanoseconds_of form octets = number_at form.order 4 octets * unit form.precision

-- how many octets of the frame the record keeps
abbrev pub kept_of : Form → List ℕ → ℕ
kept_of form octets = number_at form.order 8 octets

-- how many octets the frame had
abbrev pub original_of : Form → List ℕ → ℕ
original_of form octets = number_at form.order 12 octets

-- a record: its stamp in nanoseconds, whether all octets of the frame were kept, and those that were
pub record Packet : Type 0 where
  pub stamp : ℕ
  pub whole : Bool
  pub octets : List ℕ

-- how many octets its record has
abbrev pub size : Packet → ℕ
size p = 16 + length p.octets

-- the record at the front
abbrev pub packet_at : Form → List ℕ → Packet
packet_at form octets = record {
  stamp = seconds_of form octets * SECOND + nanoseconds_of form octets;
  whole = nat_le (original_of form octets) (kept_of form octets);
  octets = take (kept_of form octets) (drop 16 octets);
}

-- the tests of a record that begins at this place, by the octets from there on, in their order, each with the fault where it holds
abbrev pub record_tests : Form → ℕ → List ℕ → List (Bool × CaptureFault)
record_tests form place octets =
    (nat_lt (length octets) 16, Torn)
    ∷ (nat_le SECOND (nanoseconds_of form octets), Stamp)
    ∷ (nat_lt LONGEST_RECORD (kept_of form octets), RecordTooLong)
    ∷ (nat_lt LONGEST_CAPTURE (place + 16 + kept_of form octets), CaptureTooLong)
    ∷ (nat_lt (length octets) (16 + kept_of form octets), Torn)
    ∷ []

-- what stands next in a capture
pub data Next : Type 0 where
  Ended : Next
  Broken : CaptureFault → Next
  Came : Packet → Next

-- the first fault whose test holds, or else the record
abbrev pub tested : List (Bool × CaptureFault) → Packet → Next
tested [] p = Came p
tested (t ∷ ts) p = if t.0 then Broken t.1 else tested ts p

-- what stands next, at this place of the capture, by the octets from there on
unfoldable pub next_at : Form → ℕ → List ℕ → Next
next_at form place octets = if length octets == 0 then Ended else tested (record_tests form place octets) (packet_at form octets)

-- how a capture ends: at the end of a record, or with a fault at a place
pub data Ending : Type 0 where
  Whole : Ending
  Fault : CaptureFault → ℕ → Ending

-- the records of a capture
pub record Records : Type 0 where
  pub packets : List Packet
  pub ending : Ending

-- the records by what stands at this place, the first of them first
abbrev pub goes_on : ℕ → Next → (Packet → Records) → Records
goes_on place Ended rest = record { packets = []; ending = Whole }
goes_on place (Broken f) rest = record { packets = []; ending = Fault f place }
goes_on place (Came p) rest = record { packets = p ∷ (rest p).packets; ending = (rest p).ending }

-- so many records or fewer
unfoldable pub up_to : ℕ → Form → ℕ → List ℕ → Records
up_to zero form place octets = record { packets = []; ending = Whole }
up_to (suc n) form place octets = goes_on place (next_at form place octets) (λ (p : Packet). up_to n form (place + size p) (drop (size p) octets))

-- the records from this place of a capture on, by the octets from there on: each is what stands next behind the one before
unfoldable pub records_from : Form → ℕ → List ℕ → Records
records_from form place octets = up_to (suc (length octets)) form place octets

-- the records where the head is good, or else its fault at 0
abbrev pub by_head : Head → (Form → Records) → Records
by_head (Good form) rest = rest form
by_head (Bad f) rest = record { packets = []; ending = Fault f 0 }

-- the records of a whole capture
unfoldable pub capture_of : List ℕ → Records
capture_of octets = by_head (head_of octets) (λ form. records_from form 24 (drop 24 octets))
