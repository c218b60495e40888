-- How parts of an audit stop, and what they take of the incoming captures.
use Rattle.std.proofs.Common.{◌≡◌, List, Err, sym, ap, subst, ◌∙◌}
use Rattle.gate_settings.specs.declared.settings.ReportForm.{ReportForm}
use Rattle.gate_report.specs.Lines.{takes_memory}
use Rattle.frag_join.specs.Prelude.{Arrival}
use Rattle.gate_base.specs.Prelude.{Event}
use Rattle.gate_base.specs.declared.side.Side.{Side}
use Rattle.gate_base.specs.declared.side.Side.TheVariants.{Left, Right}
use Rattle.gate_desk.specs.declared.slot.Slot.{Slot}
use Rattle.gate_desk.specs.declared.slot.Slot.TheVariants.{LeftIn, RightIn, ReportGiven}
use Rattle.gate_desk.specs.Outside.{Outside, Trace, Grows, HasFailed, told_at}
use Rattle.gate_desk.proofs.Laws.{failed_since}
use Rattle.gate_settings.specs.declared.settings.Settings.{Settings}
use Rattle.pcap_merge.specs.declared.stop.MergeStop.{MergeStop}
use Rattle.pcap_merge.specs.declared.stop.MergeStop.TheVariants as merges
use Rattle.pcap_merge.specs.Prelude.{TakenFor, Merging, HasGiven, StopsBy, TakesFew, slot_of}
use Rattle.pcap_merge.proofs.Given.{taken_later}
use Rattle.lawful_files.specs.Prelude.{State}
use Rattle.file_audit.specs.declared.given.GivenFiles.{GivenFiles}
use Rattle.run_setup.specs.declared.status.Status.{Status}
use Rattle.run_setup.specs.declared.status.Status.TheVariants.{ReadFault, OutOfMemory}
use Rattle.file_audit.specs.Events.{IsReadInAudit}
use Rattle.file_audit.specs.Inside.Events.{FailsInAudit, FindsAt, FindsLast}
use Rattle.file_audit.specs.Given.{ReadsGiven}
use Rattle.file_audit.proofs.IncomingEnds.{left_kept, right_kept}
use Rattle.file_audit.specs.Inside.Lines.{StopsLine}
use Rattle.file_audit.specs.Inside.Stops.{FailsAt}
use Rattle.gate_audit.specs.Auditing.{Auditing}

-- ## How a part of an audit stops

-- a slot that is read in an audit could not be read
pub fails_in_audit : (stop : Status) (slot : Slot) (old new : Outside) → IsReadInAudit slot → FailsAt stop slot old new → FailsInAudit stop old new
fails_in_audit (ReadFault s) slot old new is k = (subst IsReadInAudit (sym k.0) is, subst (λ u. HasFailed u old new) (sym k.0) k.1)
fails_in_audit stop slot old new is k = absurd k

-- nor behind others
pub failed_later : (stop : Status) (a b c : Outside) → Grows a b → FailsInAudit stop b c → FailsInAudit stop a c
failed_later (ReadFault slot) a b c grows k = (k.0, failed_since slot a b c grows k.1)
failed_later stop a b c grows k = absurd k

-- a line could not be taken
pub line_stops : (stop : Status) (form : ReportForm) (s : State) (x : Arrival) (r r' : GivenFiles) (a a' : Auditing) (old new : Outside)
    → form ≡ a.settings.report
    → StopsLine stop form old new → FindsAt (Err stop) s x r r' a a' old new
line_stops (ReadFault slot) form s x r r' a a' old new is k = fails_in_audit (ReadFault slot) ReportGiven old new tt k
line_stops OutOfMemory form s x r r' a a' old new is k = sym (ap takes_memory is) ∙ k
line_stops stop form s x r r' a a' old new is k = absurd k

-- records could not be taken
pub next_stops : (stop : Status) (s : State) (x : Arrival) (r r' : GivenFiles) (a a' : Auditing) (old new : Outside) → FailsInAudit stop old new
    → FindsAt (Err stop) s x r r' a a' old new
next_stops (ReadFault slot) s x r r' a a' old new k = k
next_stops stop s x r r' a a' old new k = absurd k

-- the end of a capture could not be read
pub end_stops : (stop : Status) (settings : Settings) (s : State) (r : GivenFiles) (old new : Outside) → FailsInAudit stop old new
    → FindsLast (Err stop) settings s r old new
end_stops (ReadFault slot) settings s r old new k = k
end_stops stop settings s r old new k = absurd k

-- the last line could not be taken
pub last_stops : (stop : Status) (form : ReportForm) (settings : Settings) (s : State) (r : GivenFiles) (old mid new : Outside)
    → form ≡ settings.report → Grows old mid
    → StopsLine stop form mid new → FindsLast (Err stop) settings s r old new
last_stops (ReadFault slot) form settings s r old mid new is grows k =
    failed_later (ReadFault slot) old mid new grows (fails_in_audit (ReadFault slot) ReportGiven mid new tt k)
last_stops OutOfMemory form settings s r old mid new is grows k = sym (ap takes_memory is) ∙ k
last_stops stop form settings s r old mid new is grows k = absurd k

-- ## What was taken of the incoming captures

-- what is read of the given files leaves them as they are
pub incoming_kept : (a b : Outside) → ReadsGiven a b → (side : Side) → told_at b.left (slot_of side) ≡ told_at a.left (slot_of side)
incoming_kept a b reads Left = ap (λ (t : Trace). told_at t LeftIn) reads.left
    ∙ left_kept reads.left_count reads.right_count reads.report_count a.left
incoming_kept a b reads Right = ap (λ (t : Trace). told_at t RightIn) reads.left
    ∙ right_kept reads.left_count reads.right_count reads.report_count a.left

pub given_later : (start : Outside) (m : Merging) (a b : Outside) (events : List Event)
    → ((side : Side) → told_at b.left (slot_of side) ≡ told_at a.left (slot_of side)) → HasGiven start m a events → HasGiven start m b events
given_later start m a b events same h = record { stands = λ side. same side ∙ h.stands side; near = h.near; before = h.before; last = h.last }

pub given_still : (start : Outside) (m : Merging) (a b : Outside) (events : List Event) → ReadsGiven a b → HasGiven start m a events
    → HasGiven start m b events
given_still start m a b events reads h = given_later start m a b events (incoming_kept a b reads) h

pub few_still : (start a b : Outside) (events : List Event) → ReadsGiven a b → TakenFor events start a → TakenFor events start b
few_still start a b events reads h = taken_later start a b events (incoming_kept a b reads) h

pub few_stop : (stop : MergeStop) (m : Merging) (now new : Outside) → StopsBy stop m now new → TakesFew m now new
few_stop (merges.Fault side f place) m now new k = k.2
few_stop (merges.Desk slot) m now new k = k.2.few
few_stop merges.OutOfMemory m now new k = absurd k
