-- A capture as whole spellings that are joined: its head, its records in order, and a rest.
use Rattle.std.specs.Prelude.{◌≡◌, ℕ, ◌+◌, ◌*◌, ◌^◌, ◌<◌, ◌≤◌, List, [], ◌∷◌, ◌++◌, Bool, Option, Some, None, if◌then◌else◌, nat_le, map, length}
use Rattle.gate_base.specs.declared.event.TheConstants.{SECOND}
use Rattle.pcap_files.specs.declared.fault.CaptureFault.{CaptureFault}
use Rattle.pcap_files.specs.declared.form.Order.{Order}
use Rattle.pcap_files.specs.declared.form.Form.{Form}
use Rattle.pcap_files.specs.declared.record.TheConstants.{LONGEST_CAPTURE, LONGEST_RECORD}
use Rattle.pcap_files.specs.Capture.{unit, Packet, record_tests, Ending, Whole, Fault}
use Rattle.pcap_files.specs.Spelling.{spelled_head, spelled_numbers}

-- a record as its writer has it: seconds, a fraction in the capture's units, how many octets the frame had, and those that were kept
pub record Entry : Type 0 where
  pub seconds : ℕ
  pub fraction : ℕ
  pub original : ℕ
  pub octets : List ℕ

-- its spelling
abbrev pub spelled : Order → Entry → List ℕ
spelled order e = spelled_numbers order e.seconds e.fraction (length e.octets) e.original ++ e.octets

-- the spellings of records, one behind the other
abbrev pub all_spelled : Order → List Entry → List ℕ
all_spelled order [] = []
all_spelled order (e ∷ entries) = spelled order e ++ all_spelled order entries

-- what its reader makes of it
abbrev pub packet_from : Form → Entry → Packet
packet_from form e = record {
  stamp = e.seconds * SECOND + e.fraction * unit form.precision;
  whole = nat_le e.original (length e.octets);
  octets = e.octets;
}

-- a record at this place of the capture is free of faults: its numbers have 32 bits, its fraction is less than a second, and it is not too long
pub record IsGood (form : Form) (place : ℕ) (e : Entry) : Type 0 where
  pub seconds : e.seconds < 2 ^ 32
  pub fraction : e.fraction * unit form.precision < SECOND
  pub original : e.original < 2 ^ 32
  pub kept : length e.octets ≤ LONGEST_RECORD
  pub ends : place + 16 + length e.octets ≤ LONGEST_CAPTURE

-- so are all, the first of which begins at this place
abbrev pub AreGood : Form → ℕ → List Entry → Type 0
AreGood form place [] = Unit {0}
AreGood form place (e ∷ entries) = IsGood form place e × AreGood form (place + 16 + length e.octets) entries

-- the fault of the first test that holds
abbrev pub first_fault : List (Bool × CaptureFault) → Option CaptureFault
first_fault [] = None
first_fault (t ∷ tests) = if t.0 then Some t.1 else first_fault tests

-- how a capture ends with this rest at this place: nothing is left, or the rest is no record by the first test that holds
abbrev pub EndsWith : Form → ℕ → List ℕ → Ending → Type 0
EndsWith form place rest Whole = rest ≡ []
EndsWith form place rest (Fault f at) = (at ≡ place) × (0 < length rest) × (first_fault (record_tests form place rest) ≡ Some f)

-- the octets are a capture of this form, with these packets and this end
pub record IsCapture (all : List ℕ) (form : Form) (read : List Packet) (end : Ending) : Type 0 where
  pub between : List ℕ
  pub entries : List Entry
  pub rest : List ℕ
  pub sixteen : length between ≡ 16
  pub joined : all ≡ spelled_head form.order form.precision between form.link ++ (all_spelled form.order entries ++ rest)
  pub good : AreGood form 24 entries
  pub packets : read ≡ map (packet_from form) entries
  pub ending : EndsWith form (24 + length (all_spelled form.order entries)) rest end
