-- What only proofs and private contracts need beside `Gathering`.
use Rattle.std.specs.Io.Buffered.{reader_remaining}
use Rattle.std.specs.Prelude.{◌≡◌, ◌<◌, ℕ, List, ◌++◌, Option, Some, None, IfSome, Result, OnErr, length}
use Rattle.file_desk.specs.declared.gathered.Gathering.{Gathering}
use Rattle.file_desk.specs.declared.gathered.Gathering.TheVariants.{Gathered, NoRoom, Refused}
use Rattle.file_desk.specs.declared.place.Place.{Place}
use Rattle.file_desk.specs.declared.place.Place.TheVariants.{Nowhere, Input, Output, StandardOutput}
use Rattle.gate_desk.specs.declared.slot.Slot.{Slot}
use Rattle.gate_desk.specs.declared.slot.PerSlot.{PerSlot}
use Rattle.gate_desk.specs.declared.slot.Access.{Access}
use Rattle.gate_desk.specs.declared.slot.Access.TheVariants.{Read, Write}
use Rattle.gate_desk.specs.Slots.{at}
use Rattle.gate_desk.specs.Inside.Slots.{mapped}
use Rattle.file_desk.specs.Gathering.{waiting, ahead, got, TakesNothing}

-- a piece is gathered whole, or nothing of it
abbrev pub gathered_after : Gathering → List ℕ → List ℕ → List ℕ
gathered_after Gathered piece octets = octets ++ piece
gathered_after NoRoom piece octets = octets
gathered_after Refused piece octets = octets

-- the same of each slot
abbrev pub waiting_in : {F A : Type 0} → PerSlot (Place F A) → PerSlot (List ℕ)
waiting_in p = mapped waiting p

-- something waits on a slot, and is left as it is
abbrev pub StaysWaiting : Slot → PerSlot (List ℕ) → PerSlot (List ℕ) → Type 0
StaysWaiting slot old new = (0 < length (at old slot)) × (at new slot ≡ at old slot)

-- where the system refused octets of a slot, some wait there
abbrev pub RefusedWaits : Option Slot → PerSlot (List ℕ) → Type 0
RefusedWaits refused waiting = IfSome refused (λ slot. 0 < length (at waiting slot))

-- the same of each slot
abbrev pub ahead_in : {F A : Type 0} → PerSlot (Place F A) → PerSlot (List ℕ)
ahead_in p = mapped ahead p

-- what is still to be read of a place, where its file tells that: what was read ahead, and then the file's rest
abbrev pub unread : {F A : Type 0} → (F → Option (List ℕ)) → Place F A → Option (List ℕ)
unread remaining (Input reader) = reader_remaining remaining reader
unread remaining _ = None

-- the same of each slot
abbrev pub unread_in : {F A : Type 0} → (F → Option (List ℕ)) → PerSlot (Place F A) → PerSlot (Option (List ℕ))
unread_in remaining p = mapped (unread remaining) p

-- for what a place is open
abbrev pub access_of : {F A : Type 0} → Place F A → Option Access
access_of (Input reader) = Some Read
access_of (Output file octets) = Some Write
access_of (StandardOutput octets) = Some Write
access_of Nowhere = None

-- the same of each slot
abbrev pub accesses_in : {F A : Type 0} → PerSlot (Place F A) → PerSlot (Option Access)
accesses_in p = mapped access_of p

-- the same of each slot
abbrev pub got_in : {F A : Type 0} → (F → Option (List ℕ)) → PerSlot (Place F A) → PerSlot (Option (List ℕ))
got_in contents p = mapped (got contents) p

-- for what the slots are open, what was read ahead of them, and what is still to be read, stay
pub record Keeps {F A : Type 0} (remaining : F → Option (List ℕ)) (old new : PerSlot (Place F A)) : Type 0 where
  pub accesses : accesses_in new ≡ accesses_in old
  pub ahead : ahead_in new ≡ ahead_in old
  pub unread : unread_in remaining new ≡ unread_in remaining old

-- a call that fails, though the system refused no octets, adds nothing and loses nothing that waited; and where it refused octets of a slot,
-- some wait there still
pub record LosesNothing {F A T E : Type 0} (contents : F
    → Option (List ℕ)) (result : Result T E) (refused refused' : Option Slot) (old new : PerSlot (Place F A)) : Type 0 where
  pub fails : OnErr result (refused' ≡ None → TakesNothing (got_in contents old) (waiting_in old) (got_in contents new) (waiting_in new))
  pub still : RefusedWaits refused (waiting_in old) → RefusedWaits refused' (waiting_in new)
