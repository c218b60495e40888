use Rattle.std.proofs.Common.{sym}
use Rattle.gate_model.specs.Prelude.{whole_rules, RememberedSession, remembering_rules, opening_world}
use Rattle.gate_model.proofs.ReadWorlds.{verdict_as}
use Rattle.gate_model.proofs.ReadSteps.{out_as, run_as}
use Rattle.gate_model.proofs.RememberedSessions.{remembered_reads, streams_are, facts_are}
use Rattle.gate_model.proofs.laws.streams_are_renamed.Goals as goal

pub returns : goal.returns
returns k = record {
  streams = λ settings events client. streams_are events settings client;
  facts = λ settings events client. facts_are events settings client;
  world = λ settings events. sym
      (run_as (λ (t : RememberedSession). t.session) remembering_rules whole_rules remembered_reads events (opening_world settings));
  sent = λ w e. sym (out_as (λ (t : RememberedSession). t.session) remembering_rules whole_rules remembered_reads w e);
  verdict = λ w e. sym (verdict_as (λ (t : RememberedSession). t.session) remembering_rules whole_rules remembered_reads w e);
}
