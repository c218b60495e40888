-- What is known from event to event.
use Rattle.gate_model.specs.Prelude.{World}
use Rattle.event_segments.specs.Prelude.{world_of}
use Rattle.event_state.specs.declared.state.State.{State}

abbrev pub world_in : {S : Type 0} → State S → World S
world_in state = world_of state.clock.0 state.table state.connections state.pending
