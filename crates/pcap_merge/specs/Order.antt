-- Which side is read next, and which record is given next.
use Rattle.std.specs.Prelude.{Bool, true, false}
use Rattle.gate_base.specs.declared.side.Side.{Side}
use Rattle.gate_base.specs.Prelude.{same_side}
use Rattle.pcap_merge.specs.declared.order.Last.{Last}
use Rattle.pcap_merge.specs.declared.order.Last.TheVariants.{Nothing, Event, End}

-- whether the side is to be read before the next event: both sides before the first event, then the side of the last one
abbrev pub is_unread : Side → Last → Bool
is_unread side Nothing = true
is_unread side (Event given) = same_side given side
is_unread side End = false
