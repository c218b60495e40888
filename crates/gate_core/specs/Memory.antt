-- On which frames memory may run out, by what is kept of sessions.
use Rattle.gate_base.specs.Prelude.{Event}
use Rattle.gate_base.specs.declared.host.Host.{Host}
use Rattle.gate_base.specs.declared.host.Host.TheVariants.{Client, Server}
use Rattle.stream_model.specs.Prelude.{Segment}
use Rattle.stream_gate.specs.Prelude.{KeptCompletes}
use Rattle.gate_model.specs.Prelude.{World, meaning_by}
use Rattle.gate_sessions.specs.Compact.{CompactSession, compact_rules}
use Rattle.event_state.specs.Lost as state

-- the segment completes a unit that bears an address
abbrev pub CompletesKept : Host → CompactSession → Segment → Type 0
CompletesKept from k g = KeptCompletes (meaning_by k.lists k.pair Client) (meaning_by k.lists k.pair Server) from k.kept g

abbrev pub GateMayWant : World CompactSession → Event → Type 0
GateMayWant live e = state.EventMayWant compact_rules CompletesKept live e
