-- What is gathered for the slots of a desk over files, before it is written out.
use Rattle.std.specs.Io.KnownBytes.{Appends, append_known}
use Rattle.std.specs.Io.Buffered.{reader_buffer}
use Rattle.std.specs.Prelude.{◌≡◌, ◌⊎◌, ℕ, List, [], ◌++◌, Option, Some, None, Result, Ok, Err, false, if◌then◌else◌, min, take, drop, length}
use Rattle.file_desk.specs.declared.place.Place.{Place}
use Rattle.file_desk.specs.declared.place.Place.TheVariants.{Input, Output, StandardOutput}
use Rattle.gate_desk.specs.declared.slot.Slot.{Slot}
use Rattle.gate_desk.specs.declared.slot.Slot.TheVariants.{Errors}
use Rattle.gate_desk.specs.declared.slot.PerSlot.{PerSlot}
use Rattle.gate_desk.specs.declared.slot.Access.{Access}
use Rattle.gate_desk.specs.Slots.{at, put, same_slot}

-- what waits at a place to be written out
abbrev pub waiting : {F A : Type 0} → Place F A → List ℕ
waiting (Output file octets) = octets
waiting (StandardOutput octets) = octets
waiting _ = []

-- a piece waits on a slot, behind what waited there, or alone; a line of errors waits nowhere
abbrev pub Waits : Slot → List ℕ → PerSlot (List ℕ) → PerSlot (List ℕ) → Type 0
Waits Errors piece old new = Unit {0}
Waits slot piece old new = (at new slot ≡ at old slot ++ piece) ⊎ (at new slot ≡ piece)

-- what was read ahead of a place
abbrev pub ahead : {F A : Type 0} → Place F A → List ℕ
ahead (Input reader) = reader_buffer reader
ahead _ = []

-- a slot that was started has what its file has, and all else stays
abbrev pub unread_after : {T E X : Type 0} → Result T E → Slot → PerSlot X → PerSlot X → PerSlot X
unread_after (Ok x) slot old new = put old slot (at new slot)
unread_after (Err e) slot old new = old

-- so many of the octets that were read ahead stand in the buffer, and are gone: as many as there is room for, or all
abbrev pub TakesAhead : ℕ → List ℕ → List ℕ → List ℕ → Type 0
TakesAhead n buffer old new = (n ≡ min (length old) (length buffer)) × (take n buffer ≡ take n old) × (new ≡ drop n old)

-- nothing stands ahead of a slot that was started, and all else stays
abbrev pub ahead_after : {T E : Type 0} → Result T E → Slot → PerSlot (List ℕ) → PerSlot (List ℕ)
ahead_after (Ok x) slot ahead = put ahead slot []
ahead_after (Err e) slot ahead = ahead

-- a slot that was started is open for this, and all others stay
abbrev pub accesses_after : {T E : Type 0} → Result T E → Slot → Access → PerSlot (Option Access) → PerSlot (Option Access)
accesses_after (Ok x) slot access accesses = put accesses slot (Some access)
accesses_after (Err e) slot access accesses = accesses

-- what the file at a place holds, where it tells that
abbrev pub got : {F A : Type 0} → (F → Option (List ℕ)) → Place F A → Option (List ℕ)
got contents (Output file octets) = contents file
got contents _ = None

-- each file got what waited for it
abbrev pub HandsOut : PerSlot (Option (List ℕ)) → PerSlot (List ℕ) → PerSlot (Option (List ℕ)) → Type 0
HandsOut old waiting new = (s : Slot) → Appends (at old s) (at new s) (at waiting s)

-- what a slot's file got and what waits for it, where the file tells what it holds
abbrev pub taken_at : PerSlot (Option (List ℕ)) → PerSlot (List ℕ) → Slot → Option (List ℕ)
taken_at got waiting s = append_known (at got s) (at waiting s)

-- the slots that lead to files: a line of errors goes to standard error
abbrev pub IsFile : Slot → Type 0
IsFile Errors = ⊥
IsFile s = Unit {0}

-- of each such slot, what its file got and what waits for it grew by the piece, where it is the piece's own, and stayed else
abbrev pub TakesPiece : Slot → List ℕ → PerSlot (Option (List ℕ)) → PerSlot (List ℕ) → PerSlot (Option (List ℕ)) → PerSlot (List ℕ) → Type 0
TakesPiece slot piece got waiting got' waiting' = (s : Slot) → IsFile s
    → Appends (taken_at got waiting s) (taken_at got' waiting' s) (if same_slot slot s then piece else [])

-- of no slot did what its file got and what waits for it change together
abbrev pub TakesNothing : PerSlot (Option (List ℕ)) → PerSlot (List ℕ) → PerSlot (Option (List ℕ)) → PerSlot (List ℕ) → Type 0
TakesNothing got waiting got' waiting' = (s : Slot) → Appends (taken_at got waiting s) (taken_at got' waiting' s) []

-- nor of any but this one
abbrev pub TakesNothingElse : Slot → PerSlot (Option (List ℕ)) → PerSlot (List ℕ) → PerSlot (Option (List ℕ)) → PerSlot (List ℕ) → Type 0
TakesNothingElse slot got waiting got' waiting' = (s : Slot) → same_slot slot s ≡ false
    → Appends (taken_at got waiting s) (taken_at got' waiting' s) []
