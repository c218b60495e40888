-- What is told of a datagram that passes, and what is left after it.
use Rattle.std.specs.Prelude.{◌≡◌, ℕ, List, [], ◌∷◌, Option, Some, None}
use Rattle.gate_base.specs.declared.address.Addr.{Addr}
use Rattle.verdicts.specs.declared.refusal.Refusal.{Refusal}
use Rattle.gate_base.specs.declared.side.Side.{Side}
use Rattle.binding_table.specs.Prelude.{Bindings}
use Rattle.ipv4_frames.specs.Ipv4.{Datagram}
use Rattle.tcp_tracker.specs.declared.connection.Connection.{Connection}
use Rattle.twice_translate.specs.Renamed.{renamed}
use Rattle.gate_model.specs.Prelude.{Whole, Kind, Stream, SessionRules, after_kind, out_kind, taker_in, table_after, image_in, Tracked, World, called, source_of, destination_of}
use Rattle.event_payloads.specs.Plain.{PlainSession}
use Rattle.event_segments.specs.Segments.{stream_refusal}

-- the world of its parts
abbrev pub world_of : {S : Type 0} → ℕ → Bindings → List (Connection (Tracked S)) → ℕ → World S
world_of clock table connections pending = record { clock = clock; table = table; connections = connections; pending = pending }

-- what is told of datagrams that go out whole, and of a segment by the session that takes it, by what addresses that it names first are called and between which it goes on
pub record Tells (S A : Type 0) : Type 0 where
  pub whole : List (List ℕ) → A
  pub segment : (Addr → Option Addr) → Side → Datagram → ℕ → ℕ → Option (Tracked S) → A
  -- one that no session takes goes out whole
  pub plain : (image : Addr → Option Addr) (side : Side) (d : Datagram) (source destination : ℕ)
      → segment image side d source destination None ≡ whole (renamed d source destination ∷ [])

-- of a datagram that passes, by its kind
abbrev pub told_kind : {S A : Type 0} → SessionRules S → Tells S A → World S → Side → Datagram → Kind → A
told_kind rules tells live side d Stream =
    let table = table_after rules live side live.clock d Stream in
    tells.segment (image_in rules live side live.clock d) side d (called table side (source_of d)).0 (called table side (destination_of d)).0
    (taker_in rules live side live.clock d)
told_kind rules tells live side d (Whole payload) = tells.whole (out_kind rules live side live.clock d (Whole payload))

-- and of one that is refused, of which nothing goes out
abbrev pub told_by : {S A : Type 0} → Tells S A → Option Refusal → A → A
told_by tells None passed = passed
told_by tells (Some refusal) passed = tells.whole []

-- what is left of what lives after a datagram that is refused or passes
abbrev pub left_as : {S : Type 0} → SessionRules S → Kind → Option Refusal → World S → Side → Datagram → World S
left_as rules kind None live side d = after_kind rules live side live.clock d kind
left_as rules kind (Some refusal) live side d = live

-- it is refused as it is told, or passes
pub record IsPassed {S A : Type 0} (rules : SessionRules S) (tells : Tells S A) (told : Option Refusal) (kind : Kind) (live : World S) (side : Side)
    (d : Datagram) (refusal : Option Refusal) (after : World S) (given : A) : Type 0 where
  pub answer : refusal ≡ told
  pub left : after ≡ left_as rules kind refusal live side d
  pub gone : given ≡ told_by tells refusal (told_kind rules tells live side d kind)

-- a segment whose addresses are not refused
abbrev pub IsSegmentTaken : {S A : Type 0} → SessionRules S → Tells S A → World S → Side → Datagram → Option Refusal → World S → A → Type 0
IsSegmentTaken rules tells live side d refusal after given =
    IsPassed rules tells (stream_refusal rules live side d) Stream live side d refusal after given

-- bindings at a moment, and no connections
abbrev pub plain_world : ℕ → Bindings → World PlainSession
plain_world clock table = record { clock = clock; table = table; connections = []; pending = 0 }
