-- The lines of a given report, as they are found and taken.
use Rattle.std.specs.Prelude.{◌≡◌, ◌<◌, ◌+◌, ◌-◌, ◌*◌, ◌^◌, ℕ, Bool, true, false, ◌&&◌, ◌==◌, nat_lt, if◌then◌else◌, List, [], ◌∷◌, ◌++◌, length, take, drop, Option, Some, None, Result, Ok, Err, IfSome}
use Rattle.std.specs.Char.{is_ascii_digit}
use Rattle.std.specs.List.{common_prefix_len}
use Rattle.gate_desk.specs.Outside.{Outside, Takes, HasFailed, told_at}
use Rattle.gate_desk.specs.declared.slot.Slot.TheVariants.{ReportGiven}
use Rattle.gate_report.specs.Lines.{line_octets, takes_memory}
use Rattle.gate_report.specs.declared.line.Line.{Line}
use Rattle.gate_report.specs.declared.line.Line.TheVariants.{Event}
use Rattle.gate_settings.specs.declared.settings.ReportForm.{ReportForm}
use Rattle.file_audit.specs.declared.line.Extent.{Extent}
use Rattle.file_audit.specs.declared.line.LineFound.{LineFound}
use Rattle.file_audit.specs.declared.line.LineHead.{LineHead}
use Rattle.run_setup.specs.declared.status.Status.{Status}
use Rattle.run_setup.specs.declared.status.Status.TheVariants.{ReadFault, OutOfMemory}

-- the line of a frame for which so many were sent
abbrev pub line_with : LineHead → ℕ → Line
line_with h frames = Event h.number h.side h.moment h.verdict frames

-- ## How a line is found

-- how many octets agree with a line's, from the first on
abbrev pub agreed : List ℕ → List ℕ → ℕ
agreed line octets = common_prefix_len (λ (x y : ℕ). x == y) line octets

abbrev pub agreement : List ℕ → List ℕ → Extent
agreement line octets = record { count = agreed line octets; whole = agreed line octets == length line }

-- a number with one digit more, where an octet is a digit and the number is below 2 ^ 32
abbrev pub with_digit : ℕ → ℕ → Option ℕ
with_digit number octet = if is_ascii_digit octet && nat_lt number (2 ^ 32) then Some (10 * number + (octet - 48)) else None

-- the number that octets go on with, behind digits of this number: no further than to the first that is 2 ^ 32 or more
abbrev pub number_after : ℕ → List ℕ → ℕ
number_after number [] = number
number_after number (octet ∷ octets) =
    if is_ascii_digit octet && nat_lt number (2 ^ 32) then number_after (10 * number + (octet - 48)) octets else number

-- octets go on with the line for no number of frames
abbrev pub HasNoLine : ReportForm → LineHead → List ℕ → Type 0
HasNoLine form h octets = (frames : ℕ) (rest : List ℕ) → frames < 2 ^ 32 → octets ≡ line_octets form (line_with h frames) ++ rest → ⊥

-- octets go on with the line for this number of frames, or for none
abbrev pub FindsLine : Option LineFound → ReportForm → LineHead → List ℕ → Type 0
FindsLine (Some found) form h octets = (found.frames < 2 ^ 32) × (found.length ≡ length (line_octets form (line_with h found.frames)))
    × (take found.length octets ≡ line_octets form (line_with h found.frames))
FindsLine None form h octets = HasNoLine form h octets

-- ## What is taken

-- some octets of the given report, and nothing else, were taken
abbrev pub TakesReport : Outside → Outside → Type 0
TakesReport old new = (count : ℕ) × Takes ReportGiven count old new

-- the report goes on with the line for this many frames, and it was taken
pub record TakesFrames (frames : ℕ) (form : ReportForm) (h : LineHead) (ahead ahead' : List ℕ) (old new : Outside) : Type 0 where
  pub few : frames < 2 ^ 32
  pub count : ℕ
  pub takes : Takes ReportGiven count old new
  pub goes : IfSome (told_at old.left ReportGiven) (λ all. ahead ++ all ≡ line_octets form (line_with h frames) ++ (ahead' ++ drop count all))

-- why a line can't be taken: a read failed, or memory was wanting, in a form that takes some
abbrev pub StopsLine : Status → ReportForm → Outside → Outside → Type 0
StopsLine (ReadFault slot) form old new = (slot ≡ ReportGiven) × HasFailed ReportGiven old new
StopsLine OutOfMemory form old new = takes_memory form ≡ true
StopsLine stop form old new = ⊥

-- or it goes on with that line for no number, or the line can't be taken
abbrev pub TakesLine : Result (Option ℕ) Status → ReportForm → LineHead → List ℕ → List ℕ → Outside → Outside → Type 0
TakesLine (Ok (Some frames)) form h ahead ahead' old new = TakesFrames frames form h ahead ahead' old new
TakesLine (Ok None) form h ahead ahead' old new = TakesReport old new × IfSome (told_at old.left ReportGiven) (λ all. HasNoLine form h (ahead ++ all))
TakesLine (Err stop) form h ahead ahead' old new = TakesReport old new × StopsLine stop form old new

-- these octets are this line and nothing more, or they aren't
abbrev pub IsLast : Bool → ReportForm → Line → List ℕ → Type 0
IsLast true form line octets = octets ≡ line_octets form line
IsLast false form line octets = octets ≡ line_octets form line → ⊥

-- the rest of the report was taken
abbrev pub TakesLast : Result Bool Status → ReportForm → Line → List ℕ → List ℕ → Outside → Outside → Type 0
TakesLast (Ok answer) form line ahead ahead' old new = TakesReport old new
    × IfSome (told_at old.left ReportGiven) (λ all. IsLast answer form line (ahead ++ all))
TakesLast (Err stop) form line ahead ahead' old new = TakesReport old new × StopsLine stop form old new
