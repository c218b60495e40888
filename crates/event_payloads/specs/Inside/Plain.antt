-- What only proofs and private contracts need beside `Plain`.
use Rattle.std.specs.Prelude.{Bool, true, false, []}
use Rattle.gate_model.specs.Prelude.{Whole, Kind, Error, Stream, World}
use Rattle.event_payloads.specs.Plain.{PlainSession}

-- the same clock and bindings, without connections
abbrev pub like : {S : Type 0} → World S → World PlainSession
like live = record { clock = live.clock; table = live.table; connections = []; pending = 0 }

-- a kind that asks for no session
abbrev pub asks_none : Kind → Bool
asks_none (Whole Error) = false
asks_none (Whole payload) = true
asks_none Stream = false
