-- That refused frames leave no trace in a whole run (RFC 7857, 7).
use Rattle.std.specs.Prelude.{◌≤◌, ℕ, List, [], ◌∷◌, ◌++◌, map}
use Rattle.gate_base.specs.Prelude.{Event}
use Rattle.verdicts.specs.declared.verdict.Verdict.{Verdict}
use Rattle.verdicts.specs.declared.verdict.Verdict.TheVariants.{Pass}
use Rattle.gate_model.specs.Rules.{SessionRules}
use Rattle.gate_model.specs.Step.{next, out}
use Rattle.gate_model.specs.Verdict.{verdict}
use Rattle.gate_model.specs.World.{World}

-- moments don't fall, from this one on
abbrev pub Rise : ℕ → List Event → Type 0
Rise moment [] = Unit {0}
Rise moment (e ∷ events) = (moment ≤ e.moment) × Rise e.moment events

-- an event, if its frame passes
abbrev pub if_passes : Verdict → Event → List Event → List Event
if_passes Pass e events = e ∷ events
if_passes _ e events = events

-- those of the events whose frames pass
abbrev pub passing : {S : Type 0} → SessionRules S → World S → List Event → List Event
passing rules w [] = []
passing rules w (e ∷ events) = if_passes (verdict rules w e) e (passing rules (next rules w e) events)

-- all that goes out for events, in its order: each datagram beside the event at which it goes
abbrev pub all_out : {S : Type 0} → SessionRules S → World S → List Event → List (Event × List ℕ)
all_out rules w [] = []
all_out rules w (e ∷ events) = map (λ octets. (e, octets)) (out rules w e) ++ all_out rules (next rules w e) events
