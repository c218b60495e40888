-- A merge as the list of the records that it takes from both sides.
use Rattle.std.specs.Prelude.{◌≡◌, ℕ, ◌<◌, ◌≤◌, List, [], ◌∷◌, ◌++◌, if◌then◌else◌, max, drop, length}
use Rattle.gate_base.specs.declared.side.Side.{Side}
use Rattle.gate_base.specs.declared.side.Side.TheVariants.{Left, Right}
use Rattle.gate_base.specs.declared.side.Link.{Link}
use Rattle.gate_base.specs.Prelude.{Event, other, same_side}
use Rattle.pcap_files.specs.Prelude.{Packet, Records, Ending as CaptureEnding, Whole, Fault as CaptureEndsFaulty}
use Rattle.pcap_merge.specs.Events.{Ending, Done, Fault, Merged, event_at}

-- the value of a side
abbrev pub by_side : {A : Type 0} → A → A → Side → A
by_side left right Left = left
by_side left right Right = right

-- a record that is taken from a side
pub record Pick : Type 0 where
  pub side : Side
  pub packet : Packet

-- the records that were taken from a side
abbrev pub taken : Side → List Pick → List Packet
taken side [] = []
taken side (pick ∷ picks) = if same_side pick.side side then pick.packet ∷ taken side picks else taken side picks

-- the events of these records: the moment of each is the greatest stamp so far, its own included
abbrev pub events_from : ℕ → (Side → Link) → List Pick → List Event
events_from clock link [] = []
events_from clock link (pick ∷ picks) = event_at pick.side (max clock pick.packet.stamp) (link pick.side) pick.packet
    ∷ events_from (max clock pick.packet.stamp) link picks

-- this record of a side comes before what is next on the other side: a left one with a stamp that isn't greater, a right one with a smaller stamp;
-- no record goes past a side that is used up and faulty
abbrev pub ComesBefore : Side → Packet → List Packet → CaptureEnding → Type 0
ComesBefore side p [] ending = ending ≡ Whole
ComesBefore Left p (q ∷ packets) ending = p.stamp ≤ q.stamp
ComesBefore Right p (q ∷ packets) ending = p.stamp < q.stamp

-- how the merge ends, by what wasn't taken of each side: both are used up and whole, or a side is used up and faulty, the left one first
abbrev pub EndsBy : Ending → List Packet → CaptureEnding → List Packet → CaptureEnding → Type 0
EndsBy Done left left_end right right_end = (left ≡ []) × (left_end ≡ Whole) × (right ≡ []) × (right_end ≡ Whole)
EndsBy (Fault Left f place) left left_end right right_end = (left ≡ []) × (left_end ≡ CaptureEndsFaulty f place)
EndsBy (Fault Right f place) left left_end right right_end = (right ≡ []) × (right_end ≡ CaptureEndsFaulty f place) × (left ≡ [] → left_end ≡ Whole)

-- these are the events of two captures from a moment on: each side's are its first records in their order, and no record is taken after one of the
-- other side that has to come before it
pub record IsMerge (clock : ℕ) (link : Side → Link) (records : Side → Records) (all : Merged) : Type 0 where
  pub picks : List Pick
  pub events : all.events ≡ events_from clock link picks
  pub untaken : Side → List Packet
  pub first : (side : Side) → (records side).packets ≡ taken side picks ++ untaken side
  pub in_order : (before behind : List Pick) (pick : Pick) → picks ≡ before ++ pick ∷ behind
      → ComesBefore pick.side pick.packet (drop (length (taken (other pick.side) before)) (records (other pick.side)).packets)
      (records (other pick.side)).ending
  pub ending : EndsBy all.ending (untaken Left) (records Left).ending (untaken Right) (records Right).ending
