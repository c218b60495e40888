-- On which frames memory may run out for the auditor.
use Rattle.gate_base.specs.Prelude.{Event}
use Rattle.gate_model.specs.Prelude.{WholeSession, World, whole_rules}
use Rattle.event_state.specs.Lost as state

-- a session may want it for each segment
abbrev pub AuditorMayWant : World WholeSession → Event → Type 0
AuditorMayWant live e = state.EventMayWant whole_rules (λ from x segment. Unit {0}) live e
