-- An audit, and the line of its status.
use Rattle.std.proofs.Common.{◌≡◌, ℕ, sym, subst}
use Rattle.gate_desk.specs.Outside.{Outside}
use Rattle.lawful_files.specs.declared.reason.AuditReason.{AuditReason}
use Rattle.run_setup.specs.declared.status.Status.{Status}
use Rattle.run_setup.specs.declared.status.Status.TheVariants.{Done, Unlawful}
use Rattle.run_setup.specs.Prelude.{Tells, TellsLine}
use Rattle.run_setup.specs.AuditNames.{Names}
use Rattle.gateway_audit.specs.Audits.{IsAudit, TookForEvents}
use Rattle.gate_command.specs.Answers.{IsToldAudit, AnswersAudit}

told_audit : (e answer : Status) (names : Names) (a b c : Outside) → IsAudit e names a b → TookForEvents a b → Tells e answer b c
    → IsToldAudit answer names a c
told_audit e answer names a b c h took t =
    record {
      ended = b;
      audit = subst (λ s. IsAudit s names a b) (sym t.answer_is) h;
      taken = took;
      line =
          subst (λ s. TellsLine s b c) (sym t.answer_is) t.line;
    }

-- what the call answers to the words of an audit that gives no verdict
pub answers_audit : (e answer : Status) (names : Names) (a b c : Outside) → (e ≡ Done → ⊥)
    → ((number : ℕ) (reason : AuditReason) → e ≡ Unlawful number reason → ⊥) → IsAudit e names a b → TookForEvents a b → Tells e answer b c
    → AnswersAudit answer names a c
answers_audit e Done names a b c undone other h took t = absurd (undone (sym t.answer_is))
answers_audit e (Unlawful number reason) names a b c undone other h took t = absurd (other number reason (sym t.answer_is))
answers_audit e answer names a b c undone other h took t = told_audit e answer names a b c h took t
