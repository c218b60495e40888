-- A run, and the line of its status.
use Rattle.std.proofs.Common.{Ok, Err, sym, subst}
use Rattle.gate_desk.specs.Outside.{Outside}
use Rattle.gate_report.specs.declared.line.Line.{Line}
use Rattle.run_setup.specs.declared.status.Status.{Status}
use Rattle.run_setup.specs.declared.status.Status.TheVariants.{Done}
use Rattle.run_setup.specs.Prelude.{Tells, TellsLine}
use Rattle.run_setup.specs.RunNames.{Names}
use Rattle.gateway.specs.Prelude.{IsRun, Runs, TookForWritten}
use Rattle.gate_command.specs.Answers.{IsDoneRun, IsToldRun, AnswersRun}
use Rattle.gateway.proofs.Promises.{promise_kept}
use Rattle.gateway.proofs.Runs.{run_of}

-- a run that is done keeps the promise
pub done_run : (line : Line) (names : Names) (a b : Outside) → Runs (Ok line) names a b → TookForWritten a b → IsDoneRun names a b
done_run line names a b h took = record { run = h.0; promise = promise_kept Done names a b h.0; taken = took }

told_run : (e answer : Status) (names : Names) (a b c : Outside) → Runs (Err e) names a b → TookForWritten a b → Tells e answer b c
    → IsToldRun answer names a c
told_run e answer names a b c h took t =
    let run = subst (λ s. IsRun s names a b) (sym t.answer_is) (run_of e names a b h) in
    record {
      ended = b;
      run = run;
      promise = promise_kept answer names a b run;
      taken = took;
      line =
          subst (λ s. TellsLine s b c) (sym t.answer_is) t.line;
    }

not_done : (e : Status) (names : Names) (a b c : Outside) → Runs (Err e) names a b → Tells e Done b c → ⊥
not_done e names a b c h t = subst (λ s. Runs (Err s) names a b) (sym t.answer_is) h

-- what the call answers to the words of a run
pub answers_run : (e answer : Status) (names : Names) (a b c : Outside) → Runs (Err e) names a b → TookForWritten a b → Tells e answer b c
    → AnswersRun answer names a c
answers_run e Done names a b c h took t = absurd (not_done e names a b c h t)
answers_run e answer names a b c h took t = told_run e answer names a b c h took t
