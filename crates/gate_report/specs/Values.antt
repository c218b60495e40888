-- The lines of a report as JSON values.
use Rattle.std.specs.Prelude.{ℕ, true, codes}
use Rattle.serde_json.specs.Data.{Data, boolean, number, unsigned, string, object, member, no_members}
use Rattle.verdicts.specs.declared.verdict.Verdict.{Verdict}
use Rattle.gate_base.specs.declared.side.Side.{Side}
use Rattle.gate_base.specs.Prelude.{name_of}
use Rattle.verdicts.specs.Prelude.{verdict_name}
use Rattle.gate_report.specs.declared.line.Line.{Line}
use Rattle.gate_report.specs.declared.line.Line.TheVariants.{Event, Done}
use Rattle.gate_report.specs.declared.totals.Totals.{Totals}

-- an event's line
unfoldable pub event_value : ℕ → Side → ℕ → Verdict → ℕ → Data
event_value event side moment verdict frames =
    object (member (codes "event") (number (unsigned event))
    (member (codes "frames") (number (unsigned frames))
    (member (codes "moment") (number (unsigned moment))
    (member (codes "side") (string (name_of side))
    (member (codes "verdict") (string (verdict_name verdict)) no_members)))))

-- the last line
unfoldable pub done_value : Totals → ℕ → Data
done_value totals pending =
    object (member (codes "done") (boolean true)
    (member (codes "events") (number (unsigned totals.events))
    (member (codes "passed") (number (unsigned totals.passed))
    (member (codes "pending") (number (unsigned pending))
    (member (codes "refused") (number (unsigned totals.refused))
    (member (codes "to_left") (number (unsigned totals.to_left))
    (member (codes "to_right") (number (unsigned totals.to_right)) no_members)))))))

-- a line
abbrev pub value_of : Line → Data
value_of (Event event side moment verdict frames) = event_value event side moment.0 verdict frames
value_of (Done totals pending) = done_value totals pending
