-- What the gate tells of datagrams: those that go out.
use Rattle.std.specs.Prelude.{ℕ, List, refl}
use Rattle.gate_model.specs.Prelude.{stream_out}
use Rattle.gate_sessions.specs.Compact.{CompactSession, compact_rules}
use Rattle.event_segments.specs.Prelude.{Tells}
use Rattle.event_state.specs.Engines.{Gives}
use Rattle.gate_sessions.specs.Sessions.{KeptMayWant}

abbrev pub gate_tells : Tells CompactSession (List (List ℕ))
gate_tells = record { whole = λ datagrams. datagrams; segment = stream_out compact_rules; plain = λ image side d source destination. refl }

-- those of a segment are what its session put; where memory runs out nothing has changed
abbrev pub kept_gives : {P : Type 0} → Gives CompactSession P (List (List ℕ))
kept_gives = record { tells = gate_tells; cut = λ sent datagrams. datagrams; Keeps = Unit {0}; MayWant = KeptMayWant }
