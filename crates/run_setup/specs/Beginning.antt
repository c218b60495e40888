-- How a run or an audit begins: the settings, and the heads of both captures.
use Rattle.std.specs.Prelude.{◌≡◌, ℕ, ◌+◌, ◌<◌, List, [], ◌∷◌, true, Ok, Err, IfSome, option_map, drop, ◌^◌, ◌≤◌, false, Result, None}
use Rattle.gate_desk.specs.declared.slot.Slot.{Slot}
use Rattle.gate_desk.specs.declared.slot.Slot.TheVariants.{Settings, LeftIn, RightIn}
use Rattle.gate_desk.specs.declared.slot.PerSlot.{PerSlot}
use Rattle.gate_desk.specs.Outside.{Outside, Grows, NoneFailed, told_at, Start, took}
use Rattle.gate_settings.specs.declared.settings.Settings.{Settings as GateSettings}
use Rattle.settings_file.specs.Accepting.{settings_of}
use Rattle.pcap_merge.specs.Prelude.{Merged, Fault as EndsFaulty, events_of, slot_of, Merging, HeadsAre, HasGiven, all_events, ahead, work, AtEnds}
use Rattle.run_setup.specs.declared.status.Status.{Status}
use Rattle.run_setup.specs.declared.status.Status.TheVariants.{SettingsRefused, CaptureRefused, ReadFault, OpenFault, OutOfMemory}
use Rattle.gate_base.specs.declared.side.Side.{Side}
use Rattle.gate_settings.specs.Prelude.{IsSound, HasForms}
use Rattle.run_setup.specs.Causes.{started_all, Stops}
use Rattle.gate_desk.specs.declared.slot.Access.TheVariants.{Read}

-- what is started to read the settings, and to read both captures, in this order
abbrev pub settings_start : List ℕ → List Start
settings_start name = (record { slot = Settings; name = name; access = Read }) ∷ []

abbrev pub inputs_start : List ℕ → List ℕ → List Start
inputs_start left right = (record { slot = LeftIn; name = left; access = Read }) ∷ (record { slot = RightIn; name = right; access = Read }) ∷ []

-- the octets that the desk tells are left: these settings are accepted
abbrev pub IsAccepted : GateSettings → PerSlot (List ℕ) → Type 0
IsAccepted settings all = settings_of all.settings ≡ Ok settings

-- the events of both captures
abbrev pub events_in : PerSlot (List ℕ) → Merged
events_in all = events_of all.left_in all.right_in

-- of a capture fewer octets than a head has were taken
abbrev pub IsBeforeHead : Slot → Outside → Outside → Type 0
IsBeforeHead Settings old new = Unit {0}
IsBeforeHead slot old new = (count : ℕ) × (count < 24) × (told_at new.left slot ≡ option_map (drop count) (told_at old.left slot))

-- of the settings no more octets were taken than they may have and one, and of no other slot any
abbrev pub TookSettings : Outside → Outside → Type 0
TookSettings old new = (count : ℕ) × (count ≤ 2 ^ 20 + 1) × (new.left ≡ took Settings count old.left)

-- of both captures so many octets were taken, and of no other slot any
pub record TookCaptures (old new : Outside) : Type 0 where
  pub left_count : ℕ
  pub right_count : ℕ
  pub left : new.left ≡ took RightIn right_count (took LeftIn left_count old.left)

-- of the settings and of both captures, and of no other slot
pub record TookInputs (old new : Outside) : Type 0 where
  pub settings_count : ℕ
  pub few : settings_count ≤ 2 ^ 20 + 1
  pub left_count : ℕ
  pub right_count : ℕ
  pub left : new.left ≡ took RightIn right_count (took LeftIn left_count (took Settings settings_count old.left))

-- the settings were read and accepted
pub record Settled (settings : GateSettings) (appended : List Start) (old new : Outside) : Type 0 where
  pub accepted : IfSome old.left (IsAccepted settings)
  pub sound : IsSound settings
  pub forms : HasForms settings
  pub count : ℕ
  pub left : new.left ≡ took Settings count old.left
  pub starts : new.starts ≡ started_all appended old.starts
  pub written : new.written ≡ old.written
  pub grows : Grows old new
  pub counts : NoneFailed old new

-- the settings could not be read, or were refused
abbrev pub EndsAtSettings : Status → List Start → Outside → Outside → Type 0
EndsAtSettings (SettingsRefused fault) starts old new =
    IfSome old.left (λ all. settings_of all.settings ≡ Err fault) × (new.starts ≡ started_all starts old.starts) × (new.written ≡ old.written)
    × Grows old new × NoneFailed old new
EndsAtSettings (ReadFault slot) starts old new = (slot ≡ Settings) × Stops (ReadFault slot) starts old new
EndsAtSettings (OpenFault slot) starts old new = Stops (OpenFault slot) starts old new
EndsAtSettings OutOfMemory starts old new = Stops OutOfMemory starts old new
EndsAtSettings status starts old new = ⊥

-- what reading the settings answers
abbrev pub Settles : Result GateSettings Status → List Start → Outside → Outside → Type 0
Settles (Ok settings) starts old new = Settled settings starts old new
Settles (Err status) starts old new = EndsAtSettings status starts old new

-- both captures were started and their heads read: all events are still to come
pub record Begun (m : Merging) (appended : List Start) (old new : Outside) : Type 0 where
  pub stop : m.stop ≡ None
  pub heads : HeadsAre true old.left
  pub events : all_events old.left ≡ ahead m new.left
  pub given : HasGiven old m new []
  pub work : work m ≤ 2 ^ 41
  pub ends : AtEnds m new
  pub left_count : ℕ
  pub right_count : ℕ
  pub left : new.left ≡ took RightIn right_count (took LeftIn left_count old.left)
  pub starts : new.starts ≡ started_all appended old.starts
  pub written : new.written ≡ old.written
  pub grows : Grows old new
  pub counts : NoneFailed old new

-- the captures could not be started, or their heads not be read, or one is faulty
abbrev pub EndsAtHeads : Status → List Start → Outside → Outside → Type 0
EndsAtHeads (CaptureRefused side fault place) starts old new =
    IfSome (all_events old.left) (λ all. all.ending ≡ EndsFaulty side fault place) × (new.starts ≡ started_all starts old.starts)
    × (new.written ≡ old.written) × Grows old new × HeadsAre false old.left × NoneFailed old new
EndsAtHeads (ReadFault slot) starts old new = (side : Side) × (slot ≡ slot_of side) × Stops (ReadFault slot) starts old new
    × IsBeforeHead slot old new
EndsAtHeads (OpenFault slot) starts old new = Stops (OpenFault slot) starts old new
EndsAtHeads OutOfMemory starts old new = Stops OutOfMemory starts old new
EndsAtHeads status starts old new = ⊥

-- what starting both captures and reading their heads answers
abbrev pub Merges : Result Merging Status → List Start → Outside → Outside → Type 0
Merges (Ok m) starts old new = Begun m starts old new
Merges (Err status) starts old new = EndsAtHeads status starts old new
