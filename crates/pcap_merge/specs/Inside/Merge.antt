-- What only proofs and private contracts need beside `Merge`.
use Rattle.std.specs.Prelude.{◌≡◌, ℕ, Option, None, IfSome, IsSome, option_map}
use Rattle.gate_base.specs.Prelude.{IsMoment, Event}
use Rattle.gate_base.specs.declared.side.Side.TheVariants.{Left, Right}
use Rattle.gate_desk.specs.declared.slot.Slot.TheVariants.{LeftIn, RightIn}
use Rattle.pcap_files.specs.Prelude.{Packet, Reading, IsSmall}
use Rattle.pcap_merge.specs.declared.order.Last.{Last}
use Rattle.pcap_merge.specs.declared.order.Last.TheVariants.{Nothing, Event as LastEvent, End}
use Rattle.pcap_merge.specs.declared.stop.MergeStop.{MergeStop}
use Rattle.pcap_merge.specs.Events.{event_at}
use Rattle.pcap_merge.specs.Merge.{Merging}

-- the event that was given last: the record that the reader of its side holds, at the greatest stamp so far
abbrev pub event_given : Last → Reading → Reading → ℕ → Option Event
event_given Nothing l r clock = None
event_given (LastEvent Left) l r clock = option_map (event_at Left clock l.form.link) l.packet
event_given (LastEvent Right) l r clock = option_map (event_at Right clock r.form.link) r.packet
event_given End l r clock = None

-- a merge with these parts
abbrev pub merging : Reading → Reading → ℕ → Last → Option MergeStop → Merging
merging l r clock last stop = record { left = l; right = r; clock = clock; last = last; event = event_given last l r clock; stop = stop }

-- after an event the reader of its side holds its record, and after the end none holds one
abbrev pub HoldsLast : Last → Option Packet → Option Packet → Type 0
HoldsLast Nothing l r = Unit {0}
HoldsLast (LastEvent Left) l r = IsSome l
HoldsLast (LastEvent Right) l r = IsSome r
HoldsLast End l r = (l ≡ None) × (r ≡ None)

-- neither reader has stopped
pub record IsRunning (l r : Reading) (last : Last) : Type 0 where
  pub left : l.stop ≡ None
  pub right : r.stop ≡ None
  pub holds : HoldsLast last l.packet r.packet

-- what the fields of a merge keep
pub record IsSound (l r : Reading) (clock : ℕ) (last : Last) (stop : Option MergeStop) : Type 0 where
  pub left : l.slot ≡ LeftIn
  pub right : r.slot ≡ RightIn
  pub small_clock : IsMoment clock
  pub small_left : IfSome l.packet IsSmall
  pub small_right : IfSome r.packet IsSmall
  pub running : stop ≡ None → IsRunning l r last
