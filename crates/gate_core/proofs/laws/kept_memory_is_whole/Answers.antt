use Rattle.std.proofs.Common.{fold}
use Rattle.gate_model.specs.Prelude.{next, opening_world, whole_rules}
use Rattle.gate_sessions.specs.Compact.{compact_rules}
use Rattle.gate_sessions.proofs.Agreed.{run_related}
use Rattle.gate_core.proofs.WholeMemory.{kept_wants, whole_wants}
use Rattle.gate_core.proofs.laws.kept_memory_is_whole.Goals as goal

pub returns-clause-whole : goal.returns-clause-whole
returns-clause-whole c = λ settings events e wants.
    whole_wants (fold (next whole_rules) (opening_world settings) events) (fold (next compact_rules) (opening_world settings) events)
    (run_related settings events) e wants

pub returns-clause-kept : goal.returns-clause-kept
returns-clause-kept c = λ settings events e wants.
    kept_wants (fold (next whole_rules) (opening_world settings) events) (fold (next compact_rules) (opening_world settings) events)
    (run_related settings events) e wants
