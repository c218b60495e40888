use Rattle.std.proofs.Common.{take}
use Rattle.gate_desk.specs.declared.slot.Slot.TheVariants.{LeftOut, RightOut}
use Rattle.gate_desk.specs.Outside.{CanWrite}
use Rattle.gateway.specs.Prelude.{sent, WritesAll}
use Rattle.gateway.proofs.event.send_all.Given as goal

abbrev pub invariant-loop-place : goal.invariant-loop-place
invariant-loop-place g l = record {
  written : WritesAll (sent l.settings l.side l.moment.0 (take l.place l.outbox)) (g.D.Desk.outside l.initial.desk) (g.D.Desk.outside l.desk);
  left : CanWrite (g.D.Desk.outside l.desk) LeftOut;
  right : CanWrite (g.D.Desk.outside l.desk) RightOut;
}
