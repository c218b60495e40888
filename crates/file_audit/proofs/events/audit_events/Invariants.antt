use Rattle.std.proofs.Common.{◌≡◌, None, ◌+◌, ◌^◌, ◌≤◌, false}
use Rattle.gate_desk.specs.Outside.{Grows}
use Rattle.pcap_merge.specs.Prelude.{work, AtEnds}
use Rattle.file_audit.specs.Given.{Fits, IsRunning, TookFiles}
use Rattle.file_audit.specs.Inside.Events.{state_of}
use Rattle.file_audit.proofs.Walked.{Walked}
use Rattle.file_audit.proofs.events.audit_events.Given as goal

abbrev pub invariant-events : goal.invariant-events
invariant-events g l = record {
  stop : l.merge.stop ≡ None;
  settings : l.auditor.settings ≡ l.initial.auditor.settings;
  kept : l.auditor.lost ≡ false;
  few : l.totals.events + work l.merge ≤ 2 ^ 41;
  running : IsRunning l.given;
  fits : Fits l.totals l.given;
  starts : (g.D.Desk.outside l.desk).starts ≡ (g.D.Desk.outside l.initial.desk).starts;
  written : (g.D.Desk.outside l.desk).written ≡ (g.D.Desk.outside l.initial.desk).written;
  faults : (g.D.Desk.outside l.desk).faults ≡ (g.D.Desk.outside l.initial.desk).faults;
  start_faults : (g.D.Desk.outside l.desk).start_faults ≡ (g.D.Desk.outside l.initial.desk).start_faults;
  grows : Grows (g.D.Desk.outside l.initial.desk) (g.D.Desk.outside l.desk);
  files : TookFiles (g.D.Desk.outside l.initial.desk) (g.D.Desk.outside l.desk);
  ends : AtEnds l.merge (g.D.Desk.outside l.desk);
  walked : Walked l.initial.auditor.settings l.initial.merge l.merge l.initial.given l.given (g.D.Desk.outside l.initial.desk)
      (g.D.Desk.outside l.desk) l.joiner (state_of l.auditor l.totals);
}

abbrev pub decreases-events : goal.decreases-events
decreases-events g l = work l.merge
