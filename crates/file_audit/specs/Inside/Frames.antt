-- What is taken of the given captures: a head, and the next records of the one to which an event's frames go.
use Rattle.std.specs.Prelude.{◌≡◌, ◌≤◌, ◌<◌, ◌+◌, ℕ, Bool, true, false, List, length, Result, Ok, Err, None, IfSome}
use Rattle.gate_base.specs.Prelude.{other}
use Rattle.gate_base.specs.declared.side.Link.{Link}
use Rattle.gate_base.specs.declared.side.Side.{Side}
use Rattle.gate_desk.specs.declared.slot.Slot.{Slot}
use Rattle.gate_desk.specs.Outside.{Outside, Takes, HasFailed, told_at}
use Rattle.gate_report.specs.Counts.{frames_to_left, frames_to_right}
use Rattle.pcap_files.specs.Prelude.{Good, Packet, head_of, Reading}
use Rattle.pcap_files.specs.declared.form.Form.{Form}
use Rattle.pcap_merge.specs.Prelude.{with_records}
use Rattle.lawful_files.specs.declared.reason.AuditReason.TheVariants as reasons
use Rattle.lawful_files.specs.Prelude.{Given, given_at, HasLink}
use Rattle.file_audit.specs.declared.given.GivenFiles.{GivenFiles}
use Rattle.run_setup.specs.declared.status.Status.{Status}
use Rattle.run_setup.specs.declared.status.Status.TheVariants.{Unlawful, ReadFault, OutOfMemory}
use Rattle.file_audit.specs.Inside.Events.{FailsInAudit}
use Rattle.file_audit.specs.Given.{IsRunning, given_told}
use Rattle.file_audit.specs.Inside.Given.{Alike}
use Rattle.file_audit.specs.Inside.Records.{judged}
use Rattle.gate_audit.specs.Auditing.{Auditing}
use Rattle.pcap_files.specs.declared.record.TheConstants.{LONGEST_CAPTURE}

-- ## A head

-- a head with this link was taken
pub record BeginsWith (r : Reading) (slot : Slot) (link : Link) (old new : Outside) : Type 0 where
  pub form : Form
  pub link_is : form.link ≡ link
  pub reading : r ≡ record { slot = slot; form = form; place = 24; packet = None; stop = None }
  pub takes : Takes slot 24 old new
  pub head : IfSome (told_at old.left slot) (λ octets. head_of octets ≡ Good form)

-- why a head isn't taken: the capture has none with this link; or a read failed; or memory was wanting
abbrev pub StopsCapture : Status → Slot → Link → Outside → Outside → Type 0
StopsCapture (Unlawful number reason) slot link old new = (number ≡ 0) × (reason ≡ reasons.Capture)
    × IfSome (told_at old.left slot) (λ octets. HasLink link octets → ⊥)
StopsCapture (ReadFault s) slot link old new = (s ≡ slot) × HasFailed slot old new
StopsCapture OutOfMemory slot link old new = Unit {0}
StopsCapture stop slot link old new = ⊥

-- it was taken, or not
abbrev pub BeginsCapture : Result Reading Status → Slot → Link → Outside → Outside → Type 0
BeginsCapture (Ok r) slot link old new = BeginsWith r slot link old new
BeginsCapture (Err stop) slot link old new = ((count : ℕ) × Takes slot count old new) × StopsCapture stop slot link old new

-- ## Records

-- these records were taken from the capture to which the frames of this side go, and judged
pub record TookNext (frames : ℕ) (from : Side) (r r' : GivenFiles) (a a' : Auditing) (old new : Outside) : Type 0 where
  pub packets : List Packet
  pub count : length packets ≡ frames
  pub audited : a' ≡ judged a packets
  pub files : Alike
      (λ (g next : Given). (given_at (other from) g ≡ with_records packets (given_at (other from) next)) × (given_at from next ≡ given_at from g)
      × (next.report ≡ g.report)) (given_told r old.left) (given_told r' new.left)
  pub running : IsRunning r'
  pub left : r.left.place + frames_to_left from frames ≤ r'.left.place
  pub right : r.right.place + frames_to_right from frames ≤ r'.right.place
  pub left_small : r.left.place ≤ LONGEST_CAPTURE → r'.left.place ≤ LONGEST_CAPTURE
  pub right_small : r.right.place ≤ LONGEST_CAPTURE → r'.right.place ≤ LONGEST_CAPTURE

-- or fewer stand next; or a read failed
abbrev pub TakesNext : Result Bool Status → ℕ → Side → GivenFiles → GivenFiles → Auditing → Auditing → Outside → Outside → Type 0
TakesNext (Ok true) frames from r r' a a' old new = TookNext frames from r r' a a' old new
TakesNext (Ok false) frames from r r' a a' old new = IfSome (given_told r old.left) (λ g. length (given_at (other from) g).packets < frames)
TakesNext (Err stop) frames from r r' a a' old new = FailsInAudit stop old new
