-- The words of worked cases: settings, events, and what each gives.
use Rattle.std.proofs.Common.{ℕ, Bool, false, List, [], ◌∷◌, ◌++◌, map, fold}
use Rattle.byteorder.specs.Endian.{big_bytes}
use Rattle.gate_base.specs.Prelude.{Event}
use Rattle.verdicts.specs.declared.verdict.Verdict.{Verdict}
use Rattle.verdicts.specs.declared.verdict.Verdict.TheVariants.{Pass, Refused}
use Rattle.gate_base.specs.declared.rule.OidRule.{OidRule}
use Rattle.verdicts.specs.declared.refusal.Refusal.{Refusal}
use Rattle.gate_base.specs.declared.side.Link.{Link}
use Rattle.gate_base.specs.declared.side.Link.TheVariants.{Raw}
use Rattle.gate_base.specs.declared.side.Side.{Side}
use Rattle.gate_settings.specs.declared.settings.Block.{Block}
use Rattle.gate_settings.specs.declared.settings.Fixed.{Fixed}
use Rattle.gate_settings.specs.declared.settings.ReportForm.TheVariants.{Text}
use Rattle.gate_settings.specs.declared.settings.Settings.{Settings}
use Rattle.gate_settings.specs.declared.settings.SideSettings.{SideSettings}
use Rattle.gate_model.specs.Prelude.{WholeSession, whole_rules, World, opening_world, at_moment, verdict, next_by, out_by}

-- so many octets, written in hexadecimal
abbrev pub hex : ℕ → ℕ → List ℕ
hex = big_bytes

abbrev pub block : ℕ → ℕ → Block
block base bits = record { base = record { 0 = base }; bits = bits }

abbrev pub fixed : Side → ℕ → ℕ → Fixed
fixed side host alias = record { side = side; host = record { 0 = host }; alias = record { 0 = alias } }

abbrev pub pool : ℕ → ℕ → SideSettings
pool first last = record { first = record { 0 = first }; last = record { 0 = last }; link = Raw; gateway_mac = []; next_mac = [] }

abbrev pub set : List Block → SideSettings → SideSettings → List Fixed → Settings
set same left right statics = record { report = Text; join = false; same = same; left = left; right = right; statics = statics; oids = [] }

abbrev pub rule : List ℕ → ℕ → OidRule
rule prefix skip = record { prefix = prefix; skip = skip }

abbrev pub with_rules : List OidRule → Settings → Settings
with_rules rules settings = record settings { oids = rules }

abbrev pub event : Side → ℕ → Link → Bool → List ℕ → Event
event side moment link whole octets = record { side = side; moment = moment; link = link; whole = whole; octets = octets }

-- what an event gives
abbrev pub Shown : Type 0
Shown = Verdict × List (List ℕ)

abbrev pub passes : List (List ℕ) → Shown
passes frames = (Pass, frames)

abbrev pub refused : Refusal → Shown
refused refusal = (Refused refusal, [])

-- an event, and what is wanted of it
abbrev pub Row : Type 0
Row = Event × Shown

abbrev pub frame : Side → ℕ → Link → Bool → List ℕ → Shown → Row
frame side moment link whole octets shown = (event side moment link whole octets, shown)

-- the world so far, and what its events gave
abbrev So_far : Type 0
So_far = World WholeSession × List Shown

abbrev gone_on : So_far → Event → World WholeSession → Verdict → So_far
gone_on s e live v = (next_by whole_rules live e v, s.1 ++ (v, out_by whole_rules live e v) ∷ [])

abbrev step : So_far → Row → So_far
step s row = gone_on s row.0 (at_moment s.0 row.0.moment) (verdict whole_rules s.0 row.0)

abbrev shown : So_far → List Shown × ℕ
shown s = (s.1, s.0.pending)

-- what the events of rows give, one after the other, and the greatest number of lines that waited
abbrev pub found : Settings → List Row → List Shown × ℕ
found settings rows = shown (fold step (opening_world settings, []) rows)

abbrev pub wanted : List Row → ℕ → List Shown × ℕ
wanted rows pending = (map (λ row. row.1) rows, pending)
