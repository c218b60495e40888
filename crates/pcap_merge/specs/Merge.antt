-- A merge of two captures, and what its calls answer.
use Rattle.std.specs.Prelude.{◌≡◌, ℕ, ◌+◌, ◌^◌, ◌<◌, ◌≤◌, List, [], ◌∷◌, ◌++◌, Bool, true, false, Option, Some, None, Result, Ok, Err, IfSome, option_map, drop, length}
use Rattle.gate_base.specs.Prelude.{IsMoment, Event}
use Rattle.gate_base.specs.declared.side.Side.{Side}
use Rattle.gate_base.specs.declared.side.Side.TheVariants.{Left, Right}
use Rattle.gate_desk.specs.declared.slot.Slot.TheVariants.{LeftIn, RightIn}
use Rattle.gate_desk.specs.declared.slot.PerSlot.{PerSlot}
use Rattle.gate_desk.specs.Outside.{Outside, Trace, told_at, took, HasFailed, Grows, IsAtEnd}
use Rattle.pcap_files.specs.Prelude.{Reading}
use Rattle.pcap_files.specs.declared.record.TheConstants.{LONGEST_CAPTURE, LONGEST_RECORD}
use Rattle.pcap_merge.specs.declared.order.Last.{Last}
use Rattle.pcap_merge.specs.declared.order.Last.TheVariants.{End}
use Rattle.pcap_merge.specs.declared.stop.MergeStop.{MergeStop}
use Rattle.pcap_merge.specs.declared.stop.MergeStop.TheVariants.{Fault, Desk, OutOfMemory}
use Rattle.pcap_merge.specs.Order.{is_unread}
use Rattle.pcap_merge.specs.Stops.{slot_of}
use Rattle.pcap_merge.specs.Events.{Merged, Done, Fault as EndsFaulty, Ahead, merge_from, have_good_heads, events_of, with_event}
use Rattle.pcap_merge.specs.Sides.{records_ahead, IsSpent, side_work}
use Rattle.pcap_merge.specs.Given.{HasRead, IsLast, EndsAtTaken, TakenFor, count_of_side}

-- a merge: the readers of both sides, the greatest stamp of the events so far, what the last advance answered, the event to which it came, and the
-- stop to which it came
pub record Merging : Type 0 where
  pub left : Reading
  pub right : Reading
  pub clock : ℕ
  pub last : Last
  pub event : Option Event
  pub stop : Option MergeStop

-- the reader of a side
abbrev pub reading_of : Side → Merging → Reading
reading_of Left m = m.left
reading_of Right m = m.right

-- so many octets, and nothing else, were taken from the two captures
pub record Reads (old new : Outside) : Type 0 where
  pub left_count : ℕ
  pub right_count : ℕ
  pub left : new.left ≡ took RightIn right_count (took LeftIn left_count old.left)
  pub written : new.written ≡ old.written
  pub starts : new.starts ≡ old.starts
  pub start_faults : new.start_faults ≡ old.start_faults
  pub grows : Grows old new

-- how many octets were taken from the capture of a side
abbrev pub count_of : {old new : Outside} → Side → Reads old new → ℕ
count_of Left reads = reads.left_count
count_of Right reads = reads.right_count

-- nothing was taken of a side that wasn't to be read
abbrev pub OnlyUnread : {old new : Outside} → Last → Reads old new → Type 0
OnlyUnread last reads = (is_unread Left last ≡ false → reads.left_count ≡ 0) × (is_unread Right last ≡ false → reads.right_count ≡ 0)

-- all events of the captures, where the desk tells them
unfoldable pub all_events : Trace → Option Merged
all_events told = option_map (λ (all : PerSlot (List ℕ)). events_of all.left_in all.right_in) told

-- what is still to come of the two sides, by the octets that are still to be read
abbrev pub sides_ahead : Merging → List ℕ → List ℕ → Ahead
sides_ahead m left right = record {
  clock = m.clock;
  left_link = m.left.form.link;
  right_link = m.right.form.link;
  left = records_ahead (is_unread Left m.last) m.left left;
  right = records_ahead (is_unread Right m.last) m.right right;
}

-- the events of a merge that are still to come, where the desk tells what is still to be read
unfoldable pub ahead : Merging → Trace → Option Merged
ahead m told = option_map (λ (all : PerSlot (List ℕ)). merge_from (sides_ahead m all.left_in all.right_in)) told

-- a number that falls with each event
abbrev pub work : Merging → ℕ
work m = side_work m.left + side_work m.right

-- each side that was read to its end has nothing left
abbrev pub AtEnds : Merging → Outside → Type 0
AtEnds m o = IfSome o.left
    (λ all. IsSpent (is_unread Left m.last) m.left.packet all.left_in × IsSpent (is_unread Right m.last) m.right.packet all.right_in)

-- an event that can be written again
pub record IsSmallEvent (e : Event) : Type 0 where
  pub moment : IsMoment e.moment
  pub octets : length e.octets ≤ LONGEST_RECORD

-- whether both heads are good, where the desk tells the captures
abbrev pub HeadsAre : Bool → Trace → Type 0
HeadsAre good told = IfSome told (λ all. have_good_heads all.left_in all.right_in ≡ good)

-- these events were given since the captures began, and of each side the records of its events, with one that is held, and nothing else were taken
pub record HasGiven (start : Outside) (m : Merging) (now : Outside) (events : List Event) : Type 0 where
  pub stands : (side : Side) → told_at now.left (slot_of side) ≡ option_map (drop (reading_of side m).place) (told_at start.left (slot_of side))
  pub near : (side : Side) → (reading_of side m).place ≤ LONGEST_CAPTURE
  pub before : (side : Side) → IfSome (told_at start.left (slot_of side))
      (HasRead (reading_of side m) (is_unread side m.last) (count_of_side side events))
  pub last : IsLast m.event events

-- from both captures no more was taken, since they began, than the events that were given need, and one record more of each
abbrev pub TakesFew : Merging → Outside → Outside → Type 0
TakesFew m old new = (start : Outside) (events : List Event) → HasGiven start m old events → TakenFor events start new

-- a merge that has just begun: the two heads alone were taken, and all events are still to come
pub record HasBegun (m : Merging) (old new : Outside) : Type 0 where
  pub stop : m.stop ≡ None
  pub event : m.event ≡ None
  pub clock : m.clock ≡ 0
  pub reads : Reads old new
  pub left_head : reads.left_count ≡ 24
  pub right_head : reads.right_count ≡ 24
  pub heads : HeadsAre true old.left
  pub events : all_events old.left ≡ ahead m new.left
  pub work : work m ≤ 2 ^ 41
  pub ends : AtEnds m new
  pub given : HasGiven old m new []

-- what a beginning answers: the desk fails before a whole head was taken from that slot
abbrev pub Begins : Result Merging MergeStop → Outside → Outside → Type 0
Begins (Ok m) old new = HasBegun m old new
Begins (Err (Fault side f place)) old new = Reads old new × IfSome (all_events old.left)
    (λ x. x ≡ record { events = []; ending = EndsFaulty side f place }) × HeadsAre false old.left × TakenFor [] old new
Begins (Err (Desk slot)) old new = (side : Side) × (slot ≡ slot_of side) × HasFailed slot old new
    × ((reads : Reads old new) × (count_of side reads < 24)) × TakenFor [] old new
Begins (Err OutOfMemory) old new = Reads old new × TakenFor [] old new

-- the merge came to this event
pub record ComesTo (e : Event) (m m' : Merging) (old new : Outside) : Type 0 where
  pub event : m'.event ≡ Some e
  pub small : IsSmallEvent e
  pub before : m.clock ≤ e.moment
  pub clock : m'.clock ≡ e.moment
  pub stop : m'.stop ≡ None
  pub reads : Reads old new
  pub only : OnlyUnread m.last reads
  pub work : work m' < work m
  pub events : ahead m old.left ≡ option_map (with_event e) (ahead m' new.left)
  pub ends : AtEnds m old → AtEnds m' new
  pub given : (start : Outside) (events : List Event) → HasGiven start m old events → HasGiven start m' new (events ++ e ∷ [])
  pub few : TakesFew m old new

-- the merge came to the end of both captures: nothing is read after it, so an advance behind the end takes nothing
pub record Finishes (m m' : Merging) (old new : Outside) : Type 0 where
  pub stop : m'.stop ≡ None
  pub last : m'.last ≡ End
  pub reads : Reads old new
  pub only : OnlyUnread m.last reads
  pub events : IfSome (ahead m old.left) (λ x. x ≡ record { events = []; ending = Done })
  pub left : AtEnds m old → IsAtEnd new LeftIn
  pub right : AtEnds m old → IsAtEnd new RightIn
  pub few : TakesFew m old new

-- the desk failed to read a side: the last event is that of the last record that was taken whole from it
pub record FailsAt (side : Side) (m : Merging) (old new : Outside) : Type 0 where
  pub cause : HasFailed (slot_of side) old new
  pub reads : Reads old new
  pub given : (start : Outside) (events : List Event) → HasGiven start m old events → EndsAtTaken side start new events
  pub few : TakesFew m old new

-- why a merge stops
abbrev pub StopsBy : MergeStop → Merging → Outside → Outside → Type 0
StopsBy (Fault side f place) m old new = Reads old new × IfSome (ahead m old.left) (λ x. x ≡ record { events = []; ending = EndsFaulty side f place })
    × TakesFew m old new
StopsBy (Desk slot) m old new = (side : Side) × (slot ≡ slot_of side) × FailsAt side m old new
StopsBy OutOfMemory m old new = ⊥

-- what an advance answers, where no earlier one stopped
abbrev pub Advances : Result Bool MergeStop → Merging → Merging → Outside → Outside → Type 0
Advances (Ok true) m m' old new = (e : Event) × ComesTo e m m' old new
Advances (Ok false) m m' old new = Finishes m m' old new
Advances (Err stop) m m' old new = (m'.stop ≡ Some stop) × StopsBy stop m old new
