-- The text of the JSON value of a line is that line.
use Rattle.std.proofs.Common.{◌≡◌, ◌++◌, ℕ, List, [], ◌∷◌, false, codes, decimal, refl, ap, ◌∙◌, append_assoc}
use Rattle.serde_json.proofs.OnLiterals.{serde_json_on_literals}
use Rattle.serde_json.specs.Data.{string}
use Rattle.serde_json.specs.Written.{has_float, compact_text}
use Rattle.verdicts.specs.declared.verdict.Verdict.{Verdict}
use Rattle.verdicts.specs.declared.verdict.Verdict.TheVariants.{Pass, Refused, Held}
use Rattle.verdicts.specs.declared.refusal.Refusal.{Refusal}
use Rattle.verdicts.specs.declared.refusal.Refusal.TheVariants as refusals
use Rattle.gate_base.specs.declared.side.Side.{Side}
use Rattle.gate_base.specs.declared.side.Side.TheVariants.{Left, Right}
use Rattle.gate_base.specs.Prelude.{name_of}
use Rattle.verdicts.specs.Prelude.{verdict_name}
use Rattle.verdicts.specs.Refusal as refusal
use Rattle.gate_settings.specs.declared.settings.ReportForm.TheVariants.{Json}
use Rattle.gate_report.specs.declared.line.Line.{Line}
use Rattle.gate_report.specs.declared.line.Line.TheVariants.{Event, Done}
use Rattle.gate_report.specs.Lines.{event_json, done_json, line_octets}
use Rattle.gate_report.specs.Values.{event_value, done_value, value_of}

side_quoted : (side : Side) → compact_text (string (name_of side)) ≡ 34 ∷ (name_of side ++ 34 ∷ [])
unfolding serde_json_on_literals
side_quoted Left = refl
side_quoted Right = refl

refusal_quoted : (r : Refusal) → compact_text (string (refusal.name_of r)) ≡ 34 ∷ (refusal.name_of r ++ 34 ∷ [])
unfolding serde_json_on_literals refusal.name_of
refusal_quoted refusals.Snapped = refl
refusal_quoted refusals.NotIpv4 = refl
refusal_quoted refusals.BadHeader = refl
refusal_quoted refusals.BadHeaderSum = refl
refusal_quoted refusals.Fragment = refl
refusal_quoted refusals.IpOptions = refl
refusal_quoted refusals.BadFragment = refl
refusal_quoted refusals.FragmentsFull = refl
refusal_quoted refusals.TtlSpent = refl
refusal_quoted refusals.NotUnicast = refl
refusal_quoted refusals.Protocol = refl
refusal_quoted refusals.BadTransport = refl
refusal_quoted refusals.BadSum = refl
refusal_quoted refusals.SourceInPool = refl
refusal_quoted refusals.NoBinding = refl
refusal_quoted refusals.BadInner = refl
refusal_quoted refusals.InnerUnbound = refl
refusal_quoted refusals.BadDns = refl
refusal_quoted refusals.DnsUnbound = refl
refusal_quoted refusals.BadSnmp = refl
refusal_quoted refusals.NoSession = refl
refusal_quoted refusals.SynData = refl
refusal_quoted refusals.SynInSession = refl
refusal_quoted refusals.NoAck = refl
refusal_quoted refusals.Gap = refl
refusal_quoted refusals.PastEnd = refl
refusal_quoted refusals.AckAhead = refl
refusal_quoted refusals.Unlike = refl
refusal_quoted refusals.StreamLimit = refl
refusal_quoted refusals.Backlog = refl
refusal_quoted refusals.BadUnit = refl
refusal_quoted refusals.UnitUnbound = refl
refusal_quoted refusals.RenamesFull = refl
refusal_quoted refusals.SessionsFull = refl
refusal_quoted refusals.PoolEmpty = refl
refusal_quoted refusals.UnitGrows = refl
refusal_quoted refusals.SnmpTooLong = refl

verdict_quoted : (verdict : Verdict) → compact_text (string (verdict_name verdict)) ≡ 34 ∷ (verdict_name verdict ++ 34 ∷ [])
unfolding serde_json_on_literals
verdict_quoted Pass = refl
verdict_quoted (Refused r) = refusal_quoted r
verdict_quoted Held = refl

-- no number of a line is a float
pub no_floats : (line : Line) → has_float (value_of line) ≡ false
unfolding event_value done_value
no_floats (Event event side moment verdict frames) = refl
no_floats (Done totals pending) = refl

-- the text of an event's value, and a line feed, of the texts of what it has
abbrev enclosed : List ℕ → List ℕ → List ℕ → List ℕ → List ℕ → List ℕ
enclosed number frames moment side verdict =
    (codes "{\"event\":" ++ (number ++ (codes ",\"frames\":" ++ (frames ++ (codes ",\"moment\":" ++ (moment
    ++ (codes ",\"side\":" ++ (side ++ (codes ",\"verdict\":" ++ (verdict ++ codes "}")))))))))) ++ codes "\n"

joined : (number frames moment side verdict : List ℕ)
    → enclosed number frames moment (34 ∷ (side ++ 34 ∷ [])) (34 ∷ (verdict ++ 34 ∷ []))
    ≡ codes "{\"event\":" ++ number ++ codes ",\"frames\":" ++ frames ++ codes ",\"moment\":" ++ moment
    ++ codes ",\"side\":\"" ++ side ++ codes "\",\"verdict\":\"" ++ verdict ++ codes "\"}\n"
joined number frames moment side verdict = simp append_assoc

-- its text, and a line feed
pub json_text : (line : Line) → compact_text (value_of line) ++ 10 ∷ [] ≡ line_octets Json line
unfolding event_value done_value event_json done_json serde_json_on_literals
json_text (Event event side moment verdict frames) =
    ap (λ s. enclosed (decimal event) (decimal frames) (decimal moment.0) s (compact_text (string (verdict_name verdict)))) (side_quoted side)
    ∙ ap (λ v. enclosed (decimal event) (decimal frames) (decimal moment.0) (34 ∷ (name_of side ++ 34 ∷ [])) v) (verdict_quoted verdict)
    ∙ joined (decimal event) (decimal frames) (decimal moment.0) (name_of side) (verdict_name verdict)
json_text (Done totals pending) = simp append_assoc
