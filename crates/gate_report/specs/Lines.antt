-- The lines of a report, in either form.
use Rattle.std.specs.Prelude.{ℕ, Bool, true, false, List, ◌++◌, codes, decimal}
use Rattle.verdicts.specs.declared.verdict.Verdict.{Verdict}
use Rattle.gate_base.specs.declared.side.Side.{Side}
use Rattle.gate_base.specs.Prelude.{name_of}
use Rattle.verdicts.specs.Prelude.{verdict_name}
use Rattle.gate_settings.specs.declared.settings.ReportForm.{ReportForm}
use Rattle.gate_settings.specs.declared.settings.ReportForm.TheVariants.{Text, Json}
use Rattle.gate_report.specs.declared.line.Line.{Line}
use Rattle.gate_report.specs.declared.line.Line.TheVariants.{Event, Done}
use Rattle.gate_report.specs.declared.totals.Totals.{Totals}

-- ## Text

-- an event: its number, realm and moment in nanoseconds, the verdict, and the number of outgoing frames
abbrev pub text_front : ℕ → Side → ℕ → Verdict → List ℕ
text_front number side moment verdict =
    decimal number ++ codes " " ++ name_of side ++ codes " " ++ decimal moment ++ codes " " ++ verdict_name verdict ++ codes " "

unfoldable pub event_text : ℕ → Side → ℕ → Verdict → ℕ → List ℕ
event_text number side moment verdict frames = text_front number side moment verdict ++ decimal frames ++ codes "\n"

-- the last line: what was counted
unfoldable pub done_text : Totals → ℕ → List ℕ
done_text totals pending =
    codes "done events=" ++ decimal totals.events ++ codes " passed=" ++ decimal totals.passed ++ codes " refused=" ++ decimal totals.refused
    ++ codes " to_left=" ++ decimal totals.to_left ++ codes " to_right=" ++ decimal totals.to_right ++ codes " pending=" ++ decimal pending
    ++ codes "\n"

-- ## JSON

-- the same as objects, with their keys in order
abbrev pub json_front : ℕ → List ℕ
json_front number = codes "{\"event\":" ++ decimal number ++ codes ",\"frames\":"

unfoldable pub event_json : ℕ → Side → ℕ → Verdict → ℕ → List ℕ
event_json number side moment verdict frames =
    json_front number ++ decimal frames ++ codes ",\"moment\":" ++ decimal moment
    ++ codes ",\"side\":\"" ++ name_of side ++ codes "\",\"verdict\":\"" ++ verdict_name verdict ++ codes "\"}\n"

unfoldable pub done_json : Totals → ℕ → List ℕ
done_json totals pending =
    codes "{\"done\":true,\"events\":" ++ decimal totals.events ++ codes ",\"passed\":" ++ decimal totals.passed ++ codes ",\"pending\":"
    ++ decimal pending
    ++ codes ",\"refused\":" ++ decimal totals.refused ++ codes ",\"to_left\":" ++ decimal totals.to_left ++ codes ",\"to_right\":"
    ++ decimal totals.to_right ++ codes "}\n"

-- ## Either form

abbrev pub event_octets : ReportForm → ℕ → Side → ℕ → Verdict → ℕ → List ℕ
event_octets Text number side moment verdict frames = event_text number side moment verdict frames
event_octets Json number side moment verdict frames = event_json number side moment verdict frames

abbrev pub done_octets : ReportForm → Totals → ℕ → List ℕ
done_octets Text totals pending = done_text totals pending
done_octets Json totals pending = done_json totals pending

-- a line in a form
abbrev pub line_octets : ReportForm → Line → List ℕ
line_octets form (Event number side moment verdict frames) = event_octets form number side moment.0 verdict frames
line_octets form (Done totals pending) = done_octets form totals pending

-- what stands in an event's line in front of the number of outgoing frames
abbrev pub front_octets : ReportForm → ℕ → Side → ℕ → Verdict → List ℕ
front_octets Text number side moment verdict = text_front number side moment verdict
front_octets Json number side moment verdict = json_front number

-- whether a line in a form takes memory
abbrev pub takes_memory : ReportForm → Bool
takes_memory Text = false
takes_memory Json = true

-- the line of an event at so many nanoseconds
abbrev pub event_line : ℕ → Side → ℕ → Verdict → ℕ → Line
event_line number side moment verdict frames = Event number side (record { 0 = moment }) verdict frames
