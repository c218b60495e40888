-- What a desk tells of the outside, and what a call makes of it.
use Rattle.std.specs.Prelude.{◌≡◌, ℕ, ◌+◌, ◌-◌, ◌^◌, ◌<◌, ◌≤◌, ◌++◌, List, [], ◌∷◌, Option, Some, None, if◌then◌else◌, min, drop, take, length, fold, IfSome, option_map}
use Rattle.gate_desk.specs.declared.slot.Slot.{Slot}
use Rattle.gate_desk.specs.declared.slot.Slot.TheVariants.{Errors}
use Rattle.gate_desk.specs.declared.slot.Access.{Access}
use Rattle.gate_desk.specs.declared.slot.Access.TheVariants.{Read, Write}
use Rattle.gate_desk.specs.declared.slot.PerSlot.{PerSlot}
use Rattle.gate_desk.specs.Slots.{at, put, same_slot}

-- the octets of each slot, where they are told
abbrev pub Trace : Type 0
Trace = Option (PerSlot (List ℕ))

pub record Start : Type 0 where
  pub slot : Slot
  pub name : List ℕ
  pub access : Access

-- what is still to be read, what was written, the starts that succeeded, and how often a read or write, or a start, has failed
pub record Outside : Type 0 where
  pub left : Trace
  pub written : Trace
  pub starts : Option (List Start)
  pub faults : PerSlot ℕ
  pub start_faults : PerSlot ℕ

-- these octets are appended to a slot
unfoldable pub wrote : Slot → List ℕ → Trace → Trace
wrote slot octets told = option_map (λ (p : PerSlot (List ℕ)). put p slot (at p slot ++ octets)) told

-- the first n octets of a slot are gone
unfoldable pub took : Slot → ℕ → Trace → Trace
took slot n told = option_map (λ (p : PerSlot (List ℕ)). put p slot (drop n (at p slot))) told

-- what a slot holds, where it is told
unfoldable pub told_at : Trace → Slot → Option (List ℕ)
told_at told slot = option_map (λ (p : PerSlot (List ℕ)). at p slot) told

-- the way of the slot's last start
abbrev pub last_access : Slot → List Start → Option Access
last_access slot starts = fold (λ (access : Option Access) (s : Start). if same_slot s.slot slot then Some s.access else access) None starts

abbrev pub CanRead : Outside → Slot → Type 0
CanRead o slot = IfSome o.starts (λ starts. last_access slot starts ≡ Some Read)

abbrev pub CanWrite : Outside → Slot → Type 0
CanWrite o Errors = Unit {0}
CanWrite o slot = IfSome o.starts (λ starts. last_access slot starts ≡ Some Write)

-- one start more, where the starts are told
unfoldable pub started : Slot → List ℕ → Access → Option (List Start) → Option (List Start)
started slot name access starts = option_map (λ (starts : List Start). starts ++ (record { slot = slot; name = name; access = access }) ∷ []) starts

-- a count rose, or can't
abbrev pub Rose : ℕ → ℕ → Type 0
Rose before after = min (before + 1) (2 ^ 64 - 1) ≤ after

-- no count fell, and none but this slot's changed
pub record Rises (slot : Slot) (before after : PerSlot ℕ) : Type 0 where
  pub never_falls : at before slot ≤ at after slot
  pub only : after ≡ put before slot (at after slot)

-- these octets, and nothing else, were written on the slot
pub record Writes (slot : Slot) (octets : List ℕ) (old new : Outside) : Type 0 where
  pub written : new.written ≡ wrote slot octets old.written
  pub left : new.left ≡ old.left
  pub starts : new.starts ≡ old.starts
  pub start_faults : new.start_faults ≡ old.start_faults
  pub faults : Rises slot old.faults new.faults

-- a prefix of these octets, and nothing else, was written on the slot
abbrev pub WritesPart : Slot → List ℕ → Outside → Outside → Type 0
WritesPart slot octets old new = (n : ℕ) × (n ≤ length octets) × Writes slot (take n octets) old new

-- so many octets were taken from the slot, and nothing else happened
pub record Takes (slot : Slot) (n : ℕ) (old new : Outside) : Type 0 where
  pub left : new.left ≡ took slot n old.left
  pub written : new.written ≡ old.written
  pub starts : new.starts ≡ old.starts
  pub start_faults : new.start_faults ≡ old.start_faults
  pub faults : Rises slot old.faults new.faults

-- these are the slot's next octets
abbrev pub AreNext : List ℕ → Outside → Slot → Type 0
AreNext octets o slot = IfSome (told_at o.left slot) (λ all. take (length octets) all ≡ octets)

-- the slot is read to its end
abbrev pub IsAtEnd : Outside → Slot → Type 0
IsAtEnd o slot = IfSome (told_at o.left slot) (λ all. length all ≡ 0)

-- these are the slot's next octets, as many as wanted or else all that are left
abbrev pub AreUpTo : ℕ → List ℕ → Outside → Slot → Type 0
AreUpTo wanted octets o slot = IfSome (told_at o.left slot) (λ all. octets ≡ take wanted all)

-- fewer octets than wanted were taken from the slot
abbrev pub TakesFewer : Slot → ℕ → Outside → Outside → Type 0
TakesFewer slot wanted old new = (n : ℕ) × (n < wanted) × Takes slot n old new

-- a read or a write failed
abbrev pub HasFailed : Slot → Outside → Outside → Type 0
HasFailed slot old new = Rose (at old.faults slot) (at new.faults slot)

-- no count of any slot fell
abbrev pub NoneFell : PerSlot ℕ → PerSlot ℕ → Type 0
NoneFell before after = (s : Slot) → at before s ≤ at after s

pub record Grows (old new : Outside) : Type 0 where
  pub faults : NoneFell old.faults new.faults
  pub start_faults : NoneFell old.start_faults new.start_faults

-- no call failed, so that no count rose
pub record NoneFailed (old new : Outside) : Type 0 where
  pub faults : new.faults ≡ old.faults
  pub start_faults : new.start_faults ≡ old.start_faults

-- a start failed
abbrev pub HasFailedToStart : Slot → Outside → Outside → Type 0
HasFailedToStart slot old new = Rose (at old.start_faults slot) (at new.start_faults slot)

-- a start succeeded, and nothing else happened
pub record Starts (slot : Slot) (name : List ℕ) (access : Access) (old new : Outside) : Type 0 where
  pub starts : new.starts ≡ started slot name access old.starts
  pub left : new.left ≡ old.left
  pub written : new.written ≡ old.written
  pub faults : new.faults ≡ old.faults
  pub start_faults : Rises slot old.start_faults new.start_faults

-- a start failed, and nothing else happened
pub record FailsToStart (slot : Slot) (old new : Outside) : Type 0 where
  pub cause : Rose (at old.start_faults slot) (at new.start_faults slot)
  pub starts : new.starts ≡ old.starts
  pub left : new.left ≡ old.left
  pub written : new.written ≡ old.written
  pub faults : new.faults ≡ old.faults
  pub start_faults : Rises slot old.start_faults new.start_faults

-- the octets of the names, and three for each start
abbrev pub names_size : List Start → ℕ
names_size [] = 0
names_size (s ∷ starts) = (length s.name + 3) + names_size starts
