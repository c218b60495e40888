use Rattle.std.proofs.Common.{sym, subst}
use Rattle.gate_model.specs.Prelude.{World, KeepsListed}
use Rattle.gate_model.proofs.ListsWorld.{opening_lists}
use Rattle.gate_sessions.specs.Compact.{CompactSession, compact_rules}
use Rattle.gate_core.proofs.gate.Gate.new.Goals as goal

pub invariant_of-result : goal.invariant_of-result
invariant_of-result c =
    subst (λ (x : World CompactSession). KeepsListed compact_rules x) (sym c.in_ok-new.ensures)
    (opening_lists compact_rules c.args.settings c.requires.sound c.requires.forms)
