-- What reading the sides of a merge answers.
use Rattle.std.specs.Prelude.{◌≡◌, ℕ, ◌+◌, ◌-◌, List, [], ◌∷◌, Bool, true, false, Option, Some, None, length}
use Rattle.pcap_files.specs.Prelude.{Packet, Records, Whole, records_from, Reading}
use Rattle.pcap_files.specs.declared.record.TheConstants.{LONGEST_CAPTURE}

-- a record that is held, and the records behind it; where none is held the side was read to its end
abbrev pub held_before : Option Packet → Records → Records
held_before None rest = record { packets = []; ending = Whole }
held_before (Some p) rest = record { packets = p ∷ rest.packets; ending = rest.ending }

-- the records of a side that are still to be given, by the octets that are still to be read
abbrev pub records_ahead : Bool → Reading → List ℕ → Records
records_ahead true r octets = records_from r.form r.place octets
records_ahead false r octets = held_before r.packet (records_from r.form r.place octets)

-- a side that was read to its end has nothing left
abbrev pub IsSpent : Bool → Option Packet → List ℕ → Type 0
IsSpent true packet octets = Unit {0}
IsSpent false (Some p) octets = Unit {0}
IsSpent false None octets = length octets ≡ 0

-- one for a record
abbrev pub one_for : Option Packet → ℕ
one_for None = 0
one_for (Some p) = 1

-- a number that falls with each reading of a side
abbrev pub side_work : Reading → ℕ
side_work r = (LONGEST_CAPTURE - r.place) + one_for r.packet
