use Rattle.gate_model.specs.Prelude.{whole_rules}
use Rattle.gate_model.proofs.Related.{related_verdict, related_out, related_next}
use Rattle.gate_sessions.specs.Compact.{compact_rules, StandsFor}
use Rattle.gate_sessions.proofs.Agreed.{agreed, run_related, pending_related}
use Rattle.gate_sessions.proofs.Listing.{kept_have_lists}
use Rattle.gate_sessions.proofs.Witness.{witness_run, witness_next, streams_listed}
use Rattle.gate_sessions.proofs.laws.compact_worlds_answer.Goals as goal

pub returns : goal.returns
returns g = record {
  agree = agreed;
  verdict = λ settings events e. related_verdict StandsFor whole_rules compact_rules agreed _ _ (run_related settings events) e;
  out = λ settings events e. related_out StandsFor whole_rules compact_rules agreed _ _ (run_related settings events) e;
  pending = λ settings events. pending_related _ _ (run_related settings events);
  related = run_related;
  lists = kept_have_lists;
  some = witness_run;
  step_some = witness_next;
  listed = streams_listed;
  step_verdict = λ w v e h. related_verdict StandsFor whole_rules compact_rules agreed w v h e;
  step_out = λ w v e h. related_out StandsFor whole_rules compact_rules agreed w v h e;
  step_next = λ w v e h. related_next StandsFor whole_rules compact_rules agreed w v h e;
}
