use Rattle.std.proofs.Common.{sym, subst}
use Rattle.gate_model.specs.Prelude.{KeepsListed, World}
use Rattle.gate_model.proofs.ListsWorld.{opening_lists}
use Rattle.audit_sessions.specs.Heard.{HeardSession, heard_rules}
use Rattle.gate_audit.proofs.auditor.Auditor.new.Goals as goal

pub invariant_of-result : goal.invariant_of-result
invariant_of-result c = (
  c.have_mac_addresses.ensures,
  λ kept. subst (λ (x : World HeardSession). KeepsListed heard_rules x) (sym c.in_ok-new.ensures)
      (opening_lists heard_rules c.args.settings c.requires.sound c.requires.forms),
)
