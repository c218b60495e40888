-- On which frames memory may run out, by sessions over whole lists.
use Rattle.std.specs.Prelude.{◌≡◌, true}
use Rattle.std.specs.List.{list_any}
use Rattle.gate_base.specs.Prelude.{Event}
use Rattle.gate_base.specs.declared.host.Host.{Host}
use Rattle.stream_model.specs.Prelude.{Segment, own}
use Rattle.gate_model.specs.Prelude.{WholeSession, World, at_moment, completed, whole_rules}
use Rattle.event_state.specs.Lost.{EventMayWant}

-- the segment completes a unit that bears an address
abbrev pub CompletesBearing : Host → WholeSession → Segment → Type 0
CompletesBearing from x g = let sender = own from x.session in list_any sender.meaning.bears (completed sender g) ≡ true

-- the gate may want memory for an event, by what is known before it
abbrev pub WholeMayWant : World WholeSession → Event → Type 0
WholeMayWant w e = EventMayWant whole_rules CompletesBearing (at_moment w e.moment) e
