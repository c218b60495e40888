-- What is counted over a run.
use Rattle.std.specs.Prelude.{ℕ, ◌+◌}
use Rattle.verdicts.specs.declared.verdict.Verdict.{Verdict}
use Rattle.verdicts.specs.declared.verdict.Verdict.TheVariants.{Pass, Refused, Held}
use Rattle.gate_base.specs.declared.side.Side.{Side}
use Rattle.gate_base.specs.declared.side.Side.TheVariants.{Left, Right}
use Rattle.gate_report.specs.declared.line.Line.{Line}
use Rattle.gate_report.specs.declared.line.Line.TheVariants.{Done}
use Rattle.gate_report.specs.declared.totals.Totals.{Totals}

-- a frame that is held counts as neither
abbrev pub one_if_passed : Verdict → ℕ
one_if_passed Pass = 1
one_if_passed (Refused refusal) = 0
one_if_passed Held = 0

abbrev pub one_if_refused : Verdict → ℕ
one_if_refused Pass = 0
one_if_refused (Refused refusal) = 1
one_if_refused Held = 0

-- how many of the frames that an event sends from this realm go to the left, and to the right
abbrev pub frames_to_left : Side → ℕ → ℕ
frames_to_left Left frames = 0
frames_to_left Right frames = frames

abbrev pub frames_to_right : Side → ℕ → ℕ
frames_to_right Left frames = frames
frames_to_right Right frames = 0

-- nothing is counted
abbrev pub nothing_counted : Totals
nothing_counted = record { events = 0; passed = 0; refused = 0; to_left = 0; to_right = 0 }

-- one event more, with this verdict and so many frames sent
abbrev pub counted : Totals → Side → Verdict → ℕ → Totals
counted totals side verdict frames = record {
  events = totals.events + 1;
  passed = totals.passed + one_if_passed verdict;
  refused = totals.refused + one_if_refused verdict;
  to_left = totals.to_left + frames_to_left side frames;
  to_right = totals.to_right + frames_to_right side frames;
}

-- the last line of a report: what was counted, and the greatest number of changed lines that ever waited to be acknowledged
abbrev pub done_line : Totals → ℕ → Line
done_line totals pending = Done totals pending
