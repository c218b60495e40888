use Rattle.std.proofs.Common.{◌≡◌, None, ◌+◌, ◌^◌, ◌≤◌}
use Rattle.gate_desk.specs.Outside.{Grows}
use Rattle.pcap_merge.specs.Prelude.{work, AtEnds}
use Rattle.gateway.specs.Prelude.{CanCount, state_of}
use Rattle.gateway.proofs.Progress.{Progress}
use Rattle.gateway.proofs.running.forward.Given as goal

abbrev pub invariant-events : goal.invariant-events
invariant-events g l = record {
  stop : l.merge.stop ≡ None;
  settings : l.gate.settings ≡ l.initial.gate.settings;
  few : l.reporter.totals.events + work l.merge ≤ 2 ^ 41;
  counts : CanCount l.reporter.totals;
  starts : (g.D.Desk.outside l.desk).starts ≡ (g.D.Desk.outside l.initial.desk).starts;
  grows : Grows (g.D.Desk.outside l.initial.desk) (g.D.Desk.outside l.desk);
  ends : AtEnds l.merge (g.D.Desk.outside l.desk);
  progress : Progress l.initial.gate.settings l.initial.merge (g.D.Desk.outside l.initial.desk) (g.D.Desk.outside l.desk) l.merge
      (state_of l.gate l.reporter.totals) l.joiner;
}

abbrev pub decreases-events : goal.decreases-events
decreases-events g l = work l.merge
