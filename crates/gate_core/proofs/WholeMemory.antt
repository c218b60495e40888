-- The gate may want memory by what is kept of sessions exactly where it may by the sessions over whole lists.
use Rattle.gate_base.specs.Prelude.{Event}
use Rattle.gate_model.specs.Prelude.{AreRelated, WholeSession, World, at_moment, whole_rules}
use Rattle.gate_sessions.specs.Compact.{CompactSession, StandsFor, compact_rules}
use Rattle.gate_sessions.proofs.Agreed.{agreed}
use Rattle.gate_sessions.proofs.Bearing.{bears_kept, bears_whole}
use Rattle.event_state.proofs.ReadMemory.{memory_of_first, memory_of_second}
use Rattle.gate_core.specs.Memory.{CompletesKept, GateMayWant}
use Rattle.gate_core.specs.WholeMemory.{CompletesBearing, WholeMayWant}

pub whole_wants : (w : World WholeSession) (v : World CompactSession) → AreRelated StandsFor w v → (e : Event)
    → GateMayWant (at_moment v e.moment) e → WholeMayWant w e
whole_wants w v h e m = memory_of_second StandsFor whole_rules compact_rules agreed CompletesBearing CompletesKept bears_whole w v h e m

pub kept_wants : (w : World WholeSession) (v : World CompactSession) → AreRelated StandsFor w v → (e : Event)
    → WholeMayWant w e → GateMayWant (at_moment v e.moment) e
kept_wants w v h e m = memory_of_first StandsFor whole_rules compact_rules agreed CompletesBearing CompletesKept bears_kept w v h e m
