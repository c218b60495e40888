use Rattle.std.proofs.Common.{◌≡◌, length, ◌-◌, ◌≤◌, take}
use Rattle.gate_desk.specs.Outside.{Writes}
use Rattle.gate_desk.proofs.whole.write_rest.Given as goal

abbrev pub invariant-loop-done : goal.invariant-loop-done
invariant-loop-done g l = record {
  bound : l.done ≤ length l.piece;
  writes : Writes l.slot (take l.done l.piece) (g.D.Desk.outside l.initial.desk) (g.D.Desk.outside l.desk);
  leaves : (g.D.Desk.outside l.desk).faults ≡ (g.D.Desk.outside l.initial.desk).faults;
}

abbrev pub decreases-loop-done : goal.decreases-loop-done
decreases-loop-done g l = length l.piece - l.done
