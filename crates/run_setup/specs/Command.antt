-- The words of a command.
use Rattle.std.specs.Prelude.{ℕ, ◌+◌, ◌*◌, ◌≤◌, nat_lt, nat_le, length, slice_index, List, [], ◌∷◌, Bool, false, not, ◌&&◌, ◌||◌, ◌==◌, if◌then◌else◌, Option, Some, None, codes}
use Rattle.std.specs.Str.{bytes_eq}
use Rattle.gate_base.specs.Prelude.{◌>>=◌, digit_of}
use Rattle.run_setup.specs.RunNames.{Names, names_of}
use Rattle.run_setup.specs.AuditNames.{Names as AuditNames, names_of as audit_names_of}
use Rattle.run_setup.specs.declared.command.TheConstants.{GREATEST_NUMBER, MOST_ROUNDS}
use Rattle.run_setup.specs.declared.command.Command.{Command as Words}
use Rattle.run_setup.specs.declared.command.Command.TheVariants as words

-- a word that names a file: it isn't empty and doesn't begin with a hyphen
abbrev pub is_file_word : List ℕ → Bool
is_file_word [] = false
is_file_word (first ∷ others) = not (first == 45)

-- a word that names a file, or `-` for standard output
unfoldable pub is_report_word : List ℕ → Bool
is_report_word word = bytes_eq word (codes "-") || is_file_word word

unfoldable pub is_run : List ℕ → Bool
is_run word = bytes_eq word (codes "run")

unfoldable pub is_make : List ℕ → Bool
is_make word = bytes_eq word (codes "make")

unfoldable pub is_audit : List ℕ → Bool
is_audit word = bytes_eq word (codes "audit")

-- what the words of a command ask for
pub data Command : Type 0 where
  -- a run over files
  Run : Names → Command
  -- a run over the workload of a number with so many rounds, whose last line goes to the report
  Make : ℕ → ℕ → List ℕ → Command
  -- an audit of given files
  Audit : AuditNames → Command
  -- the words are no command
  Usage : Command

-- the words that were read
abbrev pub asked : Words → Command
asked (words.Run names) = Run (names_of names)
asked (words.Make number count report) = Make number count report.now
asked (words.Audit names) = Audit (audit_names_of names)
asked words.Usage = Usage

-- a make has at most MOST_ROUNDS rounds
abbrev pub HasFewRounds : Words → Type 0
HasFewRounds (words.Make number count report) = count ≤ MOST_ROUNDS
HasFewRounds words = Unit {0}

-- the number that digits write behind those of another, where none on the way is above the limit
unfoldable pub number_behind : ℕ → ℕ → List ℕ → Option ℕ
number_behind limit number [] = Some number
number_behind limit number (octet ∷ octets) = do
  digit ← digit_of octet
  if nat_le (10 * number + digit) limit then number_behind limit (10 * number + digit) octets else None

-- no digit, or a zero before other digits
abbrev pub is_no_number : List ℕ → Bool
is_no_number word = length word == 0 || (nat_lt 1 (length word) && slice_index word 0 == 48)

-- the decimal number up to a limit that a word writes without a leading zero
abbrev pub number_in : ℕ → List ℕ → Option ℕ
number_in limit word = if is_no_number word then None else number_behind limit 0 word

-- six files
abbrev pub run_of : Names → Command
run_of names =
    if is_file_word names.settings && is_file_word names.left_in && is_file_word names.right_in && is_file_word names.left_out && is_file_word
    names.right_out && is_report_word names.report
    then Run names else Usage

-- the number of a workload, its rounds, from one to MOST_ROUNDS, and a file
abbrev pub made_of : Option ℕ → Option ℕ → List ℕ → Command
made_of (Some number) (Some count) report = if nat_lt 0 count && is_report_word report then Make number count report else Usage
made_of _ _ report = Usage

abbrev pub make_of : List ℕ → List ℕ → List ℕ → Command
make_of number count report = made_of (number_in GREATEST_NUMBER number) (number_in MOST_ROUNDS count) report

-- seven files
abbrev pub audit_of : AuditNames → Command
audit_of names =
    if is_file_word names.settings && is_file_word names.left_in && is_file_word names.right_in && is_file_word names.left_given && is_file_word
    names.right_given && is_file_word names.report_given && is_report_word names.report
    then Audit names else Usage

-- what stands behind the word `run`, behind `make` and behind `audit`
abbrev pub run_in : List (List ℕ) → Command
run_in (settings ∷ left_in ∷ right_in ∷ left_out ∷ right_out ∷ report ∷ []) =
    run_of (record { settings = settings; left_in = left_in; right_in = right_in; left_out = left_out; right_out = right_out; report = report })
run_in operands = Usage

abbrev pub make_in : List (List ℕ) → Command
make_in (number ∷ count ∷ report ∷ []) = make_of number count report
make_in operands = Usage

abbrev pub audit_in : List (List ℕ) → Command
audit_in (settings ∷ left_in ∷ right_in ∷ left_given ∷ right_given ∷ report_given ∷ report ∷ []) =
    audit_of
    (record {
      settings = settings;
      left_in = left_in;
      right_in = right_in;
      left_given = left_given;
      right_given = right_given;
      report_given =
          report_given;
      report = report;
    })
audit_in operands = Usage

-- the first word says which
abbrev pub command_by : List ℕ → List (List ℕ) → Command
command_by verb operands =
    if is_run verb then run_in operands else if is_make verb then make_in operands else if is_audit verb then audit_in operands else Usage

abbrev pub command_of : List (List ℕ) → Command
command_of [] = Usage
command_of (verb ∷ operands) = command_by verb operands
