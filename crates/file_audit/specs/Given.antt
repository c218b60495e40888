-- The given files as far as they are read.
use Rattle.std.specs.Prelude.{◌≡◌, ◌≤◌, ℕ, List, ◌++◌, Option, None, IfSome, option_map}
use Rattle.gate_base.specs.declared.side.Side.{Side}
use Rattle.gate_base.specs.declared.side.Side.TheVariants.{Left, Right}
use Rattle.gate_desk.specs.declared.slot.Slot.{Slot}
use Rattle.gate_desk.specs.declared.slot.Slot.TheVariants.{LeftIn, RightIn, LeftGiven, RightGiven, ReportGiven}
use Rattle.gate_desk.specs.declared.slot.PerSlot.{PerSlot}
use Rattle.gate_desk.specs.Outside.{Outside, Trace, Grows, took}
use Rattle.gate_report.specs.declared.totals.Totals.{Totals}
use Rattle.pcap_files.specs.Prelude.{records_from}
use Rattle.lawful_files.specs.Prelude.{Given}
use Rattle.file_audit.specs.declared.given.GivenFiles.{GivenFiles}
use Rattle.pcap_files.specs.declared.record.TheConstants.{LONGEST_CAPTURE}

abbrev pub given_slot : Side → Slot
given_slot Left = LeftGiven
given_slot Right = RightGiven

-- what is still to come of the given files, by the octets that are still to be read
abbrev pub given_in : GivenFiles → PerSlot (List ℕ) → Given
given_in g all = record {
  left = records_from g.left.form g.left.place all.left_given;
  right = records_from g.right.form g.right.place all.right_given;
  report = g.report ++ all.report_given;
}

unfoldable pub given_told : GivenFiles → Trace → Option Given
given_told g told = option_map (given_in g) told

-- each reader reads its slot, and neither has stopped
pub record IsRunning (g : GivenFiles) : Type 0 where
  pub left_slot : g.left.slot ≡ LeftGiven
  pub right_slot : g.right.slot ≡ RightGiven
  pub left : g.left.stop ≡ None
  pub right : g.right.stop ≡ None

-- no more frames were counted than octets were taken, of each given capture, and no more verdicts than events
pub record Fits (totals : Totals) (g : GivenFiles) : Type 0 where
  pub left : totals.to_left ≤ g.left.place
  pub right : totals.to_right ≤ g.right.place
  pub left_place : g.left.place ≤ LONGEST_CAPTURE
  pub right_place : g.right.place ≤ LONGEST_CAPTURE
  pub passed : totals.passed ≤ totals.events
  pub refused : totals.refused ≤ totals.events

-- two values, where both are told
abbrev pub IfBoth : {A B : Type 0} → Option A → Option B → (A → B → Type 0) → Type 0
IfBoth o p R = IfSome o (λ a. IfSome p (λ b. R a b))

-- some of the given files' octets, and nothing else, were taken
pub record ReadsGiven (old new : Outside) : Type 0 where
  pub left_count : ℕ
  pub right_count : ℕ
  pub report_count : ℕ
  pub left : new.left ≡ took ReportGiven report_count (took RightGiven right_count (took LeftGiven left_count old.left))
  pub written : new.written ≡ old.written
  pub starts : new.starts ≡ old.starts
  pub start_faults : new.start_faults ≡ old.start_faults
  pub grows : Grows old new

-- of both incoming captures and of the given files so many octets were taken, and of no other slot any
pub record TookFiles (old new : Outside) : Type 0 where
  pub left_in_count : ℕ
  pub right_in_count : ℕ
  pub left_given_count : ℕ
  pub right_given_count : ℕ
  pub report_given_count : ℕ
  pub left : new.left ≡ took ReportGiven report_given_count
      (took RightGiven right_given_count (took LeftGiven left_given_count (took RightIn right_in_count (took LeftIn left_in_count old.left))))
