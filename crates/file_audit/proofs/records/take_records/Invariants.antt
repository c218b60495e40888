use Rattle.std.proofs.Common.{◌≡◌, ◌-◌, ◌*◌, ◌≤◌, List, length, false}
use Rattle.pcap_files.specs.Prelude.{Packet}
use Rattle.gate_desk.specs.Outside.{CanRead}
use Rattle.file_audit.specs.Inside.Records.{Took}
use Rattle.file_audit.proofs.records.take_records.Given as goal

abbrev pub invariant-loop-taken : goal.invariant-loop-taken
invariant-loop-taken g l = record {
  bound : l.taken ≤ l.frames;
  packets : List Packet;
  count : length packets ≡ l.taken;
  took : Took packets l.initial.reader l.reader l.initial.auditor l.auditor (g.D.Desk.outside l.initial.desk) (g.D.Desk.outside l.desk);
  leaves : (g.D.Desk.outside l.desk).faults ≡ (g.D.Desk.outside l.initial.desk).faults;
  can : CanRead (g.D.Desk.outside l.desk) l.reader.slot;
  kept : l.auditor.lost ≡ false;
  so_far : l.auditor.expecting.so_far.count ≡ l.taken;
  carried : l.auditor.expecting.so_far.carried ≤ 262144 * l.taken;
}

abbrev pub decreases-loop-taken : goal.decreases-loop-taken
decreases-loop-taken g l = l.frames - l.taken
