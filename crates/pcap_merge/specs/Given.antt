-- Which records of each side were taken whole, and which events were given for them.
use Rattle.std.specs.Prelude.{◌≡◌, ◌≤◌, ◌⊎◌, ℕ, ◌+◌, ◌-◌, List, [], ◌∷◌, ◌++◌, Bool, true, false, Option, Some, None, IfSome, if◌then◌else◌, nat_le, option_map, drop, length, count_by}
use Rattle.gate_base.specs.declared.side.Side.{Side}
use Rattle.gate_base.specs.Prelude.{same_side, Event}
use Rattle.gate_desk.specs.Outside.{Outside, told_at}
use Rattle.pcap_files.specs.Prelude.{Packet, Records, size, capture_of, records_from, Reading}
use Rattle.pcap_merge.specs.Stops.{slot_of}
use Rattle.pcap_merge.specs.Sides.{one_for}
use Rattle.pcap_files.specs.declared.record.TheConstants.{LONGEST_CAPTURE}

-- how many of these records, from the first on, lie whole in so many octets
abbrev pub whole_in : ℕ → List Packet → ℕ
whole_in count [] = 0
whole_in count (p ∷ packets) = if nat_le (size p) count then 1 + whole_in (count - size p) packets else 0

-- how many records lie whole in the first octets of a capture
unfoldable pub whole_records : ℕ → List ℕ → ℕ
whole_records count all = whole_in (count - 24) (capture_of all).packets

-- how many of these events are of a side
abbrev pub count_of_side : Side → List Event → ℕ
count_of_side side events = count_by (λ (e : Event). same_side e.side side) events

-- there are no events, or the last of them is of this side
abbrev pub EndsOn : Side → List Event → Type 0
EndsOn side events = (events ≡ []) ⊎ ((front : List Event) × (e : Event) × (events ≡ front ++ e ∷ []) × (e.side ≡ side))

-- where reading a side failed, the last of these events is that of the last record that was taken whole from it since the captures began; where
-- none was, there are no events
pub record EndsAtTaken (side : Side) (start now : Outside) (events : List Event) : Type 0 where
  pub count : ℕ
  pub taken : told_at now.left (slot_of side) ≡ option_map (drop count) (told_at start.left (slot_of side))
  pub whole : IfSome (told_at start.left (slot_of side)) (λ all. whole_records count all ≡ count_of_side side events)
  pub last : EndsOn side events

-- of a side's capture no more whole records were taken since the captures began than those of so many events and one more, and it was read no
-- further than a capture may be and the head of a record
pub record HasTakenFew (side : Side) (start now : Outside) (given : ℕ) : Type 0 where
  pub count : ℕ
  pub taken : told_at now.left (slot_of side) ≡ option_map (drop count) (told_at start.left (slot_of side))
  pub near : count ≤ LONGEST_CAPTURE + 16
  pub few : IfSome (told_at start.left (slot_of side)) (λ all. whole_records count all ≤ given + 1)

-- the same of both sides and these events
abbrev pub TakenFor : List Event → Outside → Outside → Type 0
TakenFor events start now = (side : Side) → HasTakenFew side start now (count_of_side side events)

-- how many octets these records have
abbrev pub total : List Packet → ℕ
total [] = 0
total (p ∷ packets) = size p + total packets

-- records in front of others
abbrev pub with_records : List Packet → Records → Records
with_records packets rest = record { packets = packets ++ rest.packets; ending = rest.ending }

-- one where a record is held whose event wasn't given
abbrev pub one_held : Bool → Option Packet → ℕ
one_held true p = 0
one_held false p = one_for p

-- before a reader lie the head and these records: those of so many events, and one more where one is held
pub record HasRead (r : Reading) (unread : Bool) (given : ℕ) (all : List ℕ) : Type 0 where
  pub before : List Packet
  pub records : capture_of all ≡ with_records before (records_from r.form r.place (drop r.place all))
  pub place_is : r.place ≡ 24 + total before
  pub count : length before ≡ given + one_held unread r.packet

-- this is the last of the events, if one was given
abbrev pub IsLast : Option Event → List Event → Type 0
IsLast None events = events ≡ []
IsLast (Some e) events = (front : List Event) × (events ≡ front ++ e ∷ [])
