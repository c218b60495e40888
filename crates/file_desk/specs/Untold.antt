-- A desk over files, which tells only how often its calls failed.
use Rattle.std.specs.Prelude.{◌≡◌, ℕ, List, [], drop, length, min, Option, Some, None, option_map}
use Rattle.gate_desk.specs.declared.slot.Slot.{Slot}
use Rattle.gate_desk.specs.declared.slot.PerSlot.{PerSlot}
use Rattle.gate_desk.specs.declared.slot.Access.{Access}
use Rattle.gate_desk.specs.Slots.{at, put, each}
use Rattle.gate_desk.specs.Counts.{raised}
use Rattle.file_desk.specs.Gathering.{HandsOut}
use Rattle.gate_desk.specs.Outside.{Outside}

-- for what each slot is open, what was read ahead of it, what is still to be read of it, where its file tells that, what its file got, where it
-- tells that, what is taken for each slot and isn't handed to the system yet, the slot of which the system refused such octets, and how often a
-- read or write, and how often a start of each slot failed
pub record Files : Type 0 where
  pub accesses : PerSlot (Option Access)
  pub ahead : PerSlot (List ℕ)
  pub unread : PerSlot (Option (List ℕ))
  pub got : PerSlot (Option (List ℕ))
  pub waiting : PerSlot (List ℕ)
  pub refused : Option Slot
  pub faults : PerSlot ℕ
  pub start_faults : PerSlot ℕ

-- the counts alone are told
abbrev pub untold : PerSlot ℕ → PerSlot ℕ → Outside
untold faults start_faults = record { left = None; written = None; starts = None; faults = faults; start_faults = start_faults }

abbrev pub told_by : Files → Outside
told_by d = untold d.faults d.start_faults

-- these octets stand ready, unless the system refused some
abbrev pub ready_of : Option Slot → List ℕ → List ℕ
ready_of None octets = octets
ready_of (Some refused) octets = []

-- what stands ready of a slot
abbrev pub ready : Files → Slot → List ℕ
ready d slot = ready_of d.refused (at d.ahead slot)

-- so many octets that were read ahead of a slot, or all, are gone, and nothing else changed
abbrev pub skipped : Slot → ℕ → Files → Files
skipped slot count d = record d {
  ahead = put d.ahead slot (drop count (at d.ahead slot));
  unread = put d.unread slot (option_map (drop (min count (length (at d.ahead slot)))) (at d.unread slot));
}

-- nothing waits any more, and these are what the files got
abbrev pub all_written : PerSlot (Option (List ℕ)) → Files → Files
all_written got d = record d { got = got; waiting = each [] }

-- each file got what waited for it, and nothing waits any more
pub record HandsOutAll (old new : Files) : Type 0 where
  pub files : HandsOut old.got old.waiting new.got
  pub rest : new ≡ all_written new.got old

-- all files are closed, and nothing waits any more, since the system refused octets of this slot, which counts as a failed write
abbrev pub all_dropped : Slot → Files → Files
all_dropped slot d = record {
  accesses = each None;
  ahead = each [];
  unread = each None;
  got = each None;
  waiting = each [];
  refused = None;
  faults = put d.faults slot (raised (at d.faults slot));
  start_faults = d.start_faults;
}
