-- A reader of a capture, and what its calls answer.
use Rattle.std.specs.Prelude.{◌≡◌, ℕ, ◌+◌, ◌<◌, ◌≤◌, length, Bool, true, false, Option, Some, None, Result, Ok, Err, IfSome}
use Rattle.gate_base.specs.Prelude.{IsMoment}
use Rattle.gate_desk.specs.declared.slot.Slot.{Slot}
use Rattle.gate_desk.specs.Outside.{Outside, Takes, HasFailed, told_at}
use Rattle.pcap_files.specs.declared.fault.CaptureFault.{CaptureFault}
use Rattle.pcap_files.specs.declared.fault.CaptureFault.TheVariants.{Torn}
use Rattle.pcap_files.specs.declared.fault.ReadStop.{ReadStop}
use Rattle.pcap_files.specs.declared.fault.ReadStop.TheVariants.{Fault, Desk, OutOfMemory}
use Rattle.pcap_files.specs.declared.form.Form.{Form}
use Rattle.pcap_files.specs.declared.record.TheConstants.{LONGEST_CAPTURE, LONGEST_RECORD}
use Rattle.pcap_files.specs.Capture.{Packet, Next, Ended, Broken, Came, size, next_at, Good, Bad, head_of}

-- a reader: its slot, the form of the capture, the place that it has come to, the record that the last advance read, and the stop that it has come to
pub record Reading : Type 0 where
  pub slot : Slot
  pub form : Form
  pub place : ℕ
  pub packet : Option Packet
  pub stop : Option ReadStop

-- so many octets are no whole further record
abbrev pub TakesNoRecord : Next → ℕ → Type 0
TakesNoRecord (Came p) n = n < size p
TakesNoRecord Ended n = Unit {0}
TakesNoRecord (Broken f) n = Unit {0}

-- how many octets are taken to find a fault: of a torn record all that are left, of any other one its head
abbrev pub fault_size : CaptureFault → ℕ → ℕ
fault_size Torn left = left
fault_size f left = 16

-- so many octets were taken from the slot to find a fault at this place, and the capture was read no further than it may be
pub record TakesToFault (slot : Slot) (place : ℕ) (f : CaptureFault) (old new : Outside) : Type 0 where
  pub count : ℕ
  pub takes : Takes slot count old new
  pub near : place + count ≤ LONGEST_CAPTURE + 16
  pub exact : IfSome (told_at old.left slot) (λ octets. count ≡ fault_size f (length octets))

-- so many octets were taken from the slot at this place, where the desk failed: no whole record, and the capture was read no further than it may be
pub record TakesToFailure (slot : Slot) (form : Form) (place : ℕ) (old new : Outside) : Type 0 where
  pub count : ℕ
  pub takes : Takes slot count old new
  pub near : place + count ≤ LONGEST_CAPTURE + 16
  pub none : IfSome (told_at old.left slot) (λ octets. TakesNoRecord (next_at form place octets) count)

-- a record that can be written again
pub record IsSmall (p : Packet) : Type 0 where
  pub stamp : IsMoment p.stamp
  pub octets : length p.octets ≤ LONGEST_RECORD

-- no count of reads rose, but where the desk failed
abbrev pub StopLeavesCounts : ReadStop → Outside → Outside → Type 0
StopLeavesCounts (Fault f place) old new = new.faults ≡ old.faults
StopLeavesCounts (Desk slot) old new = Unit {0}
StopLeavesCounts OutOfMemory old new = new.faults ≡ old.faults

abbrev pub LeavesCounts : {A : Type 0} → Result A ReadStop → Outside → Outside → Type 0
LeavesCounts (Ok answer) old new = new.faults ≡ old.faults
LeavesCounts (Err stop) old new = StopLeavesCounts stop old new

-- what an advance answers, where no earlier one stopped
abbrev pub Advances : Result Bool ReadStop → Reading → Reading → Outside → Outside → Type 0
Advances (Ok true) r s old new = (p : Packet) × IsSmall p × (r.place + size p ≤ LONGEST_CAPTURE)
    × (s ≡ record r { packet = Some p; place = r.place + size p })
    × Takes r.slot (size p) old new × IfSome (told_at old.left r.slot) (λ octets. next_at r.form r.place octets ≡ Came p)
Advances (Ok false) r s old new = (s ≡ record r { packet = None }) × Takes r.slot 0 old new
    × IfSome (told_at old.left r.slot) (λ octets. next_at r.form r.place octets ≡ Ended)
Advances (Err (Fault f place)) r s old new = (place ≡ r.place) × (s ≡ record r { packet = None; stop = Some (Fault f place) })
    × TakesToFault r.slot r.place f old new × IfSome (told_at old.left r.slot) (λ octets. next_at r.form r.place octets ≡ Broken f)
Advances (Err (Desk slot)) r s old new = (slot ≡ r.slot) × (s ≡ record r { packet = None; stop = Some (Desk slot) }) × HasFailed slot old new
    × TakesToFailure r.slot r.form r.place old new
Advances (Err OutOfMemory) r s old new = ⊥

-- what a beginning answers: the reader stands behind a good head; or the head is faulty; or the desk failed before a whole head was taken; or
-- memory ran out behind a good head
abbrev pub Begins : Result Reading ReadStop → Slot → Outside → Outside → Type 0
Begins (Ok r) slot old new = (form : Form) × (r ≡ record { slot = slot; form = form; place = 24; packet = None; stop = None }) × Takes slot 24 old new
    × IfSome (told_at old.left slot) (λ octets. head_of octets ≡ Good form)
Begins (Err (Fault f place)) slot old new = (place ≡ 0) × ((n : ℕ) × (n ≤ 24) × Takes slot n old new)
    × IfSome (told_at old.left slot) (λ octets. head_of octets ≡ Bad f)
Begins (Err (Desk s)) slot old new = (s ≡ slot) × HasFailed slot old new × ((n : ℕ) × (n < 24) × Takes slot n old new)
Begins (Err OutOfMemory) slot old new = (form : Form) × Takes slot 24 old new × IfSome (told_at old.left slot) (λ octets. head_of octets ≡ Good form)
