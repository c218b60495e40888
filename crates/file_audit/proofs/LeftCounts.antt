-- What is left of the counts, over parts of an audit.
use Rattle.std.proofs.Common.{◌≡◌, Result, Ok, Err, IsErrAnd, ◌∙◌}
use Rattle.gate_desk.specs.Outside.{Outside}
use Rattle.pcap_merge.specs.declared.stop.MergeStop.{MergeStop}
use Rattle.pcap_merge.specs.declared.stop.MergeStop.TheVariants as merges
use Rattle.pcap_merge.specs.Prelude.{Merging, Advances, StopLeavesCounts}
use Rattle.run_setup.specs.declared.status.Status.{Status}
use Rattle.run_setup.specs.declared.status.Status.TheVariants.{ReadFault}
use Rattle.run_setup.specs.Prelude.{status_of_merge}
use Rattle.run_setup.proofs.Causes.{handed_on}
use Rattle.file_audit.specs.Stops.{LeavesCounts}
use Rattle.file_audit.specs.Inside.Stops.{LeavesFaults}

pub leaves_on : {A : Type 0} (r : Result A Status) (a b c : Outside) → b.faults ≡ a.faults → LeavesFaults r b c → LeavesFaults r a c
leaves_on (Ok x) a b c h k = k ∙ h
leaves_on (Err (ReadFault slot)) a b c h k = tt
leaves_on (Err stop) a b c h k = k ∙ h

pub leaves_all : {A : Type 0} (r : Result A Status) (a b : Outside) → LeavesFaults r a b → b.start_faults ≡ a.start_faults → LeavesCounts r a b
leaves_all (Ok x) a b h k = record { faults = h; start_faults = k }
leaves_all (Err (ReadFault slot)) a b h k = tt
leaves_all (Err stop) a b h k = record { faults = h; start_faults = k }

-- another answer with the same stop
leaves_as : (A B : Type 0) (e : Status) (a b : Outside) → LeavesFaults {A = A} (Err e) a b → LeavesFaults {A = B} (Err e) a b
leaves_as A B (ReadFault slot) a b h = h
leaves_as A B stop a b h = h

-- a stop that a `?` hands on
pub leaves_handed : (A : Type 0) {B : Type 0} (r : Result B Status) (e : Status) (a b : Outside) → IsErrAnd r (λ y. y ≡ e)
    → LeavesFaults {A = A} (Err e) a b → LeavesFaults r a b
leaves_handed A {B = B} r e a b is h = handed_on (λ x. LeavesFaults x a b) r e is (leaves_as A B e a b h)

-- where no read failed
pub leaves_same : {A : Type 0} (r : Result A Status) (a b : Outside) → b.faults ≡ a.faults → LeavesFaults r a b
leaves_same (Ok x) a b h = h
leaves_same (Err (ReadFault slot)) a b h = tt
leaves_same (Err stop) a b h = h

-- the merge stopped
pub stop_leaves : (A : Type 0) (stop : MergeStop) (a b : Outside) → StopLeavesCounts stop a b → LeavesFaults {A = A} (Err (status_of_merge stop)) a b
stop_leaves A (merges.Fault side fault place) a b h = h
stop_leaves A (merges.Desk slot) a b h = tt
stop_leaves A merges.OutOfMemory a b h = h

pub stops_at : (stop : MergeStop) (m m' : Merging) (a b : Outside) → Advances (Err stop) m m' a b → b.start_faults ≡ a.start_faults
stops_at (merges.Fault side fault place) m m' a b h = h.1.0.start_faults
stops_at (merges.Desk slot) m m' a b h = h.1.2.reads.start_faults
stops_at merges.OutOfMemory m m' a b h = absurd h.1
