use Rattle.std.proofs.Common.{◌≡◌, length, ◌-◌, ◌≤◌, take}
use Rattle.gate_desk.specs.Outside.{Takes, AreNext}
use Rattle.gate_desk.proofs.whole.read_full.Given as goal

abbrev pub invariant-loop-filled : goal.invariant-loop-filled
invariant-loop-filled g l = record {
  bound : l.filled ≤ length l.initial.buffer;
  takes : Takes l.slot l.filled (g.D.Desk.outside l.initial.desk) (g.D.Desk.outside l.desk);
  next : AreNext (take l.filled l.buffer) (g.D.Desk.outside l.initial.desk) l.slot;
  leaves : (g.D.Desk.outside l.desk).faults ≡ (g.D.Desk.outside l.initial.desk).faults;
}

abbrev pub decreases-loop-filled : goal.decreases-loop-filled
decreases-loop-filled g l = length l.initial.buffer - l.filled
