-- What is read of a capture's head and of a record.
use Rattle.std.specs.Prelude.{◌≡◌, ℕ, ◌+◌, ◌*◌, ◌<◌, ◌≤◌, List, Bool, Option, Some, None, Result, Ok, Err, IfSome, if◌then◌else◌, nat_lt, nat_le, take, drop, length}
use Rattle.gate_base.specs.Prelude.{IsMoment}
use Rattle.gate_base.specs.declared.event.TheConstants.{SECOND}
use Rattle.gate_desk.specs.declared.slot.Slot.{Slot}
use Rattle.gate_desk.specs.Outside.{Outside, Takes, HasFailed, told_at}
use Rattle.pcap_files.specs.declared.fault.CaptureFault.{CaptureFault}
use Rattle.pcap_files.specs.declared.fault.CaptureFault.TheVariants.{Torn, Stamp, RecordTooLong, CaptureTooLong}
use Rattle.pcap_files.specs.declared.fault.ReadStop.{ReadStop}
use Rattle.pcap_files.specs.declared.fault.ReadStop.TheVariants.{Fault, Desk, OutOfMemory}
use Rattle.pcap_files.specs.declared.form.Form.{Form}
use Rattle.pcap_files.specs.declared.record.RecordHead.{RecordHead}
use Rattle.pcap_files.specs.declared.record.TheConstants.{LONGEST_CAPTURE, LONGEST_RECORD}
use Rattle.pcap_files.specs.Capture.{Head, Good, Bad, head_of, Next, next_at, Ended, Broken, Came, seconds_of, nanoseconds_of, kept_of, original_of}
use Rattle.pcap_files.specs.Reader.{fault_size, TakesToFault, TakesToFailure}

-- a head, or its fault
abbrev pub head_answer : Result Form CaptureFault → Head
head_answer (Ok form) = Good form
head_answer (Err f) = Bad f

-- what stands next where a record's head says this, by the octets behind that head
unfoldable pub body_of : ℕ → Bool → ℕ → List ℕ → Next
body_of stamp whole kept rest = if nat_lt (length rest) kept then Broken Torn else Came
    (record { stamp = stamp; whole = whole; octets = take kept rest })

-- what stands next where a record's head stands in these octets, by the octets behind it
unfoldable pub after_head : Form → ℕ → List ℕ → List ℕ → Next
after_head form place head rest =
    if nat_le SECOND (nanoseconds_of form head) then Broken Stamp else
    (if nat_lt LONGEST_RECORD (kept_of form head) then Broken RecordTooLong else
    (if nat_lt LONGEST_CAPTURE (place + 16 + kept_of form head) then Broken CaptureTooLong else
    body_of (seconds_of form head * SECOND + nanoseconds_of form head) (nat_le (original_of form head) (kept_of form head))
    (kept_of form head) rest))

-- the record fits
pub record Fits (place : ℕ) (h : RecordHead) : Type 0 where
  pub kept : h.kept ≤ LONGEST_RECORD
  pub ends : place + 16 + h.kept ≤ LONGEST_CAPTURE
  pub early : IsMoment h.stamp

-- the head's fault, or what it says
abbrev pub Judges : Result RecordHead CaptureFault → Form → ℕ → List ℕ → Type 0
Judges (Err f) form place head = ((left : ℕ) → fault_size f left ≡ 16) × ((rest : List ℕ) → after_head form place head rest ≡ Broken f)
Judges (Ok h) form place head = Fits place h × ((rest : List ℕ) → after_head form place head rest ≡ body_of h.stamp h.whole h.kept rest)

-- the record stands whole at the front of these octets, and its own in the buffer: it comes next of all that begins with them
pub record StandsWhole (h : RecordHead) (form : Form) (place : ℕ) (octets buffer : List ℕ) : Type 0 where
  pub fits : Fits place h
  pub size : 16 + h.kept ≤ length octets
  pub next : (all : List ℕ) → take (length octets) all ≡ octets
      → next_at form place all ≡ Came (record { stamp = h.stamp; whole = h.whole; octets = take h.kept buffer })

-- what stops the reading of a record
abbrev pub StopsAt : ReadStop → Form → ℕ → Slot → Outside → Outside → Type 0
StopsAt (Fault f at) form place slot old new = (at ≡ place) × TakesToFault slot place f old new
    × IfSome (told_at old.left slot) (λ octets. next_at form place octets ≡ Broken f)
StopsAt (Desk s) form place slot old new = (s ≡ slot) × HasFailed slot old new × TakesToFailure slot form place old new
StopsAt OutOfMemory form place slot old new = ⊥

-- what reading a record's head answers
abbrev pub TakesHead : Result (Option RecordHead) ReadStop → Form → ℕ → Slot → Outside → Outside → Type 0
TakesHead (Ok None) form place slot old new = Takes slot 0 old new × IfSome (told_at old.left slot) (λ octets. next_at form place octets ≡ Ended)
TakesHead (Ok (Some h)) form place slot old new = Fits place h × Takes slot 16 old new
    × IfSome (told_at old.left slot) (λ octets. next_at form place octets ≡ body_of h.stamp h.whole h.kept (drop 16 octets))
    × IfSome (told_at old.left slot) (λ octets. 16 ≤ length octets)
TakesHead (Err e) form place slot old new = StopsAt e form place slot old new

-- what reading a record answers, its octets standing in the buffer
abbrev pub TakesRecord : Result (Option RecordHead) ReadStop → Form → ℕ → Slot → List ℕ → Outside → Outside → Type 0
TakesRecord (Ok None) form place slot buffer old new = Takes slot 0 old new
    × IfSome (told_at old.left slot) (λ octets. next_at form place octets ≡ Ended)
TakesRecord (Ok (Some h)) form place slot buffer old new = Fits place h × Takes slot (16 + h.kept) old new
    × IfSome (told_at old.left slot)
    (λ octets. next_at form place octets ≡ Came (record { stamp = h.stamp; whole = h.whole; octets = take h.kept buffer }))
TakesRecord (Err e) form place slot buffer old new = StopsAt e form place slot old new

-- what reading a capture's head answers
abbrev pub TakesCaptureHead : Result Form ReadStop → Slot → Outside → Outside → Type 0
TakesCaptureHead (Ok form) slot old new = Takes slot 24 old new × IfSome (told_at old.left slot) (λ octets. head_of octets ≡ Good form)
TakesCaptureHead (Err (Fault f place)) slot old new = (place ≡ 0) × ((n : ℕ) × (n ≤ 24) × Takes slot n old new)
    × IfSome (told_at old.left slot) (λ octets. head_of octets ≡ Bad f)
TakesCaptureHead (Err (Desk s)) slot old new = (s ≡ slot) × HasFailed slot old new × ((n : ℕ) × (n < 24) × Takes slot n old new)
TakesCaptureHead (Err OutOfMemory) slot old new = ⊥
