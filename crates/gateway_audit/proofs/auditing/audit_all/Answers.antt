use Rattle.std.proofs.Common.{inl, refl, sym, subst}
use Rattle.run_setup.specs.declared.status.Status.TheVariants.{OutOfMemory}
use Rattle.run_setup.proofs.Causes.{handed_on}
use Rattle.file_audit.specs.Events.{Finds, TookFew}
use Rattle.gateway_audit.specs.Inside.Phases.{Walks}
use Rattle.gateway_audit.proofs.Judging.{took_not, walks_of}
use Rattle.gateway_audit.proofs.auditing.audit_all.Goals as goal

pub returns : goal.returns
returns g c =
    let old = g.D.Desk.outside c.args.desk.now in
    let new = g.D.Desk.outside c.audit_events-found.new.desk in
    record {
      answer = subst (λ found. Walks found c.args.settings c.args.merge.now c.args.given.now old new) (sym c.verdict_of.ensures)
          (walks_of c.audit_events-found.result c.args.settings c.args.merge.now c.args.given.now old new
          (subst (λ s. Finds c.audit_events-found.result s c.args.merge.now c.args.given.now old new) c.in_ok-auditor.ensures.settings_are
          c.audit_events-found.ensures.answer) c.audit_events-found.ensures.leaves c.audit_events-found.ensures.left_end
          c.audit_events-found.ensures.right_end);
      taken = subst (λ s. TookFew s c.args.merge.now c.args.given.now old new) c.in_ok-auditor.ensures.settings_are
          c.audit_events-found.ensures.taken;
    }

pub returns-in_err-joiner-clause-answer : goal.returns-in_err-joiner-clause-answer
returns-in_err-joiner-clause-answer g c =
    let old = g.D.Desk.outside c.args.desk.now in
    handed_on (λ r. Walks r c.args.settings c.args.merge.now c.args.given.now old old) c.from_residual.result OutOfMemory c.from_residual.ensures.1
    (inl refl)

pub returns-in_err-joiner-clause-taken : goal.returns-in_err-joiner-clause-taken
returns-in_err-joiner-clause-taken g c = let old = g.D.Desk.outside c.args.desk.now in
    took_not c.args.settings c.args.merge.now c.args.given.now old old refl

pub returns-in_err-auditor-clause-answer : goal.returns-in_err-auditor-clause-answer
returns-in_err-auditor-clause-answer g c =
    let old = g.D.Desk.outside c.args.desk.now in
    handed_on
    (λ r. Walks r c.args.settings c.args.merge.now c.args.given.now old old) c.from_residual-in_err-auditor.result OutOfMemory
    c.from_residual-in_err-auditor.ensures.1 (inl refl)

pub returns-in_err-auditor-clause-taken : goal.returns-in_err-auditor-clause-taken
returns-in_err-auditor-clause-taken g c = let old = g.D.Desk.outside c.args.desk.now in
    took_not c.args.settings c.args.merge.now c.args.given.now old old refl
