-- What reading leaves of the counts.
use Rattle.std.proofs.Common.{◌≡◌, Result, Ok, Err, ◌∙◌}
use Rattle.gate_base.specs.declared.side.Side.{Side}
use Rattle.gate_desk.specs.Outside.{Outside}
use Rattle.pcap_files.specs.declared.fault.ReadStop.{ReadStop}
use Rattle.pcap_files.specs.declared.fault.ReadStop.TheVariants as reads
use Rattle.pcap_files.specs.Reader as reader
use Rattle.pcap_merge.specs.declared.stop.MergeStop.{MergeStop}
use Rattle.pcap_merge.specs.declared.stop.MergeStop.TheVariants.{Fault, Desk, OutOfMemory}
use Rattle.pcap_merge.specs.Prelude.{StopLeavesCounts, stop_of}
use Rattle.pcap_merge.specs.Stops.{LeavesCounts}

-- a side's reader stopped
pub leaves_stopped : (side : Side) (stop : ReadStop) (a b : Outside) → reader.StopLeavesCounts stop a b → StopLeavesCounts (stop_of side stop) a b
leaves_stopped side (reads.Fault f place) a b h = h
leaves_stopped side (reads.Desk slot) a b h = tt
leaves_stopped side reads.OutOfMemory a b h = h

-- a stop behind a call that succeeded
pub stop_leaves_on : (stop : MergeStop) (a b c : Outside) → b.faults ≡ a.faults → StopLeavesCounts stop b c → StopLeavesCounts stop a c
stop_leaves_on (Fault side f place) a b c h k = k ∙ h
stop_leaves_on (Desk slot) a b c h k = tt
stop_leaves_on OutOfMemory a b c h k = k ∙ h

-- a call behind one that succeeded
pub leaves_on : {A : Type 0} (r : Result A MergeStop) (a b c : Outside) → b.faults ≡ a.faults → LeavesCounts r b c → LeavesCounts r a c
leaves_on (Ok x) a b c h k = k ∙ h
leaves_on (Err stop) a b c h k = stop_leaves_on stop a b c h k
