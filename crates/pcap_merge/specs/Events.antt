-- The events of two captures, over whole lists.
use Rattle.std.specs.Prelude.{Bool, true, false, ℕ, ◌+◌, List, [], ◌∷◌, zero, suc, if◌then◌else◌, nat_le, max, length}
use Rattle.gate_base.specs.declared.side.Side.{Side}
use Rattle.gate_base.specs.declared.side.Side.TheVariants.{Left, Right}
use Rattle.gate_base.specs.declared.side.Link.{Link}
use Rattle.gate_base.specs.Prelude.{Event}
use Rattle.pcap_files.specs.declared.fault.CaptureFault.{CaptureFault}
use Rattle.pcap_files.specs.Prelude.{Packet, Records, Ending as CaptureEnding, Whole, Fault as CaptureEndsFaulty, Head, Good, Bad, head_of, capture_of}

-- how the events end: both captures are at their ends, or that of a side is faulty at a place
pub data Ending : Type 0 where
  Done : Ending
  Fault : Side → CaptureFault → ℕ → Ending

-- the events of two captures
pub record Merged : Type 0 where
  pub events : List Event
  pub ending : Ending

-- what a side comes to next: a record, its end, or a fault
pub data Front : Type 0 where
  AtRecord : Packet → Front
  AtEnd : Front
  AtFault : CaptureFault → ℕ → Front

-- what stands behind all records of a capture
abbrev pub front_behind : CaptureEnding → Front
front_behind Whole = AtEnd
front_behind (CaptureEndsFaulty f place) = AtFault f place

-- what stands first
abbrev pub front_by : List Packet → CaptureEnding → Front
front_by [] ending = front_behind ending
front_by (p ∷ packets) ending = AtRecord p

-- what a capture comes to next
abbrev pub front_of : Records → Front
front_of r = front_by r.packets r.ending

-- what the merge comes to next: a record of a side, the end, or the fault of a side
pub data Turn : Type 0 where
  Gives : Side → Packet → Turn
  Ends : Turn
  Stops : Side → CaptureFault → ℕ → Turn

-- a side at a fault stops the merge, the left one first; else the left record is next where the right side has none or the left stamp isn't
-- greater; else the right one
abbrev pub turn_of : Front → Front → Turn
turn_of (AtFault f place) _ = Stops Left f place
turn_of AtEnd (AtFault f place) = Stops Right f place
turn_of AtEnd AtEnd = Ends
turn_of AtEnd (AtRecord right) = Gives Right right
turn_of (AtRecord left) (AtFault f place) = Stops Right f place
turn_of (AtRecord left) AtEnd = Gives Left left
turn_of (AtRecord left) (AtRecord right) = if nat_le left.stamp right.stamp then Gives Left left else Gives Right right

-- the greatest stamp of the events so far, what the frames of each side are, and what is still to come of each side
pub record Ahead : Type 0 where
  pub clock : ℕ
  pub left_link : Link
  pub right_link : Link
  pub left : Records
  pub right : Records

-- what the merge comes to next
abbrev pub turn_at : Ahead → Turn
turn_at a = turn_of (front_of a.left) (front_of a.right)

-- what a side's frames are
abbrev pub link_at : Side → Ahead → Link
link_at Left a = a.left_link
link_at Right a = a.right_link

-- the event of a record: its moment is the greatest stamp of the events so far, its own included
abbrev pub event_at : Side → ℕ → Link → Packet → Event
event_at side moment link p = record { side = side; moment = moment; link = link; whole = p.whole; octets = p.octets }

-- all records but the first
abbrev pub without_first : List Packet → List Packet
without_first [] = []
without_first (p ∷ packets) = packets

-- what is still to come behind the first record
abbrev pub behind_first : Records → Records
behind_first r = record { packets = without_first r.packets; ending = r.ending }

-- what is still to come behind a record of a side
abbrev pub after : Ahead → Side → Packet → Ahead
after a Left p = record a { clock = max a.clock p.stamp; left = behind_first a.left }
after a Right p = record a { clock = max a.clock p.stamp; right = behind_first a.right }

-- an event in front of others
abbrev pub with_event : Event → Merged → Merged
with_event e rest = record { events = e ∷ rest.events; ending = rest.ending }

-- the events by what comes next, the first of them first
abbrev pub goes_on : Ahead → Turn → (Side → Packet → Merged) → Merged
goes_on a (Gives side p) rest = with_event (event_at side (max a.clock p.stamp) (link_at side a) p) (rest side p)
goes_on a Ends rest = record { events = []; ending = Done }
goes_on a (Stops side f place) rest = record { events = []; ending = Fault side f place }

-- so many events or fewer
unfoldable pub up_to : ℕ → Ahead → Merged
up_to zero a = record { events = []; ending = Done }
up_to (suc n) a = goes_on a (turn_at a) (λ (side : Side) (p : Packet). up_to n (after a side p))

-- the events that are still to come
unfoldable pub merge_from : Ahead → Merged
merge_from a = up_to (suc (length a.left.packets + length a.right.packets)) a

-- both heads are good
abbrev pub are_good : Head → Head → Bool
are_good (Good l) (Good r) = true
are_good l r = false

unfoldable pub have_good_heads : List ℕ → List ℕ → Bool
have_good_heads left right = are_good (head_of left) (head_of right)

-- the events of two captures by their heads: a faulty head gives no events, the left one first
abbrev pub by_heads : List ℕ → List ℕ → Head → Head → Merged
by_heads left right (Bad f) _ = record { events = []; ending = Fault Left f 0 }
by_heads left right (Good l) (Bad f) = record { events = []; ending = Fault Right f 0 }
by_heads left right (Good l) (Good r) =
    merge_from (record { clock = 0; left_link = l.link; right_link = r.link; left = capture_of left; right = capture_of right })

-- the events of two captures
unfoldable pub events_of : List ℕ → List ℕ → Merged
events_of left right = by_heads left right (head_of left) (head_of right)
