-- Why a merge stopped, and the slot of each side.
use Rattle.std.specs.Prelude.{◌≡◌, Result, Ok, Err}
use Rattle.gate_base.specs.declared.side.Side.{Side}
use Rattle.gate_base.specs.declared.side.Side.TheVariants.{Left, Right}
use Rattle.gate_desk.specs.declared.slot.Slot.{Slot}
use Rattle.gate_desk.specs.declared.slot.Slot.TheVariants.{LeftIn, RightIn}
use Rattle.gate_desk.specs.Outside.{Outside}
use Rattle.pcap_files.specs.declared.fault.ReadStop.{ReadStop}
use Rattle.pcap_files.specs.declared.fault.ReadStop.TheVariants.{Fault as ReadFault, Desk as ReadDesk, OutOfMemory as ReadMemory}
use Rattle.pcap_merge.specs.declared.stop.MergeStop.{MergeStop}
use Rattle.pcap_merge.specs.declared.stop.MergeStop.TheVariants.{Fault, Desk, OutOfMemory}

-- the stop of a merge whose reader of this side stopped
abbrev pub stop_of : Side → ReadStop → MergeStop
stop_of side (ReadFault f place) = Fault side f place
stop_of side (ReadDesk slot) = Desk slot
stop_of side ReadMemory = OutOfMemory

-- no count of reads rose, but where the desk failed
abbrev pub StopLeavesCounts : MergeStop → Outside → Outside → Type 0
StopLeavesCounts (Fault side f place) old new = new.faults ≡ old.faults
StopLeavesCounts (Desk slot) old new = Unit {0}
StopLeavesCounts OutOfMemory old new = new.faults ≡ old.faults

abbrev pub LeavesCounts : {A : Type 0} → Result A MergeStop → Outside → Outside → Type 0
LeavesCounts (Ok answer) old new = new.faults ≡ old.faults
LeavesCounts (Err stop) old new = StopLeavesCounts stop old new

-- the slot from which a side is read
abbrev pub slot_of : Side → Slot
slot_of Left = LeftIn
slot_of Right = RightIn
