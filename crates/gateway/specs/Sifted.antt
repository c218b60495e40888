-- The frames of both outgoing captures, apart from the report.
use Rattle.std.specs.Prelude.{ℕ, Bool, true, false, List}
use Rattle.std.specs.List.{filter}
use Rattle.gate_base.specs.Prelude.{Event, other}
use Rattle.gate_desk.specs.declared.slot.Slot.{Slot}
use Rattle.gate_desk.specs.declared.slot.Slot.TheVariants.{LeftOut, RightOut}
use Rattle.gate_settings.specs.declared.settings.Settings.{Settings}
use Rattle.gateway.specs.Machine.{frame_piece, framed}
use Rattle.gateway.specs.Pieces.{Piece}

-- the slot of an outgoing capture
abbrev pub is_capture : Slot → Bool
is_capture LeftOut = true
is_capture RightOut = true
is_capture _ = false

-- those of the pieces that go to an outgoing capture
abbrev pub frames_among : List Piece → List Piece
frames_among pieces = filter (λ piece. is_capture piece.slot) pieces

-- the frame of a datagram that goes out at an event
abbrev pub frame_at : Settings → Event × List ℕ → Piece
frame_at settings sent = frame_piece (other sent.0.side) sent.0.moment (framed settings (other sent.0.side) sent.1)
