-- A make, and the line of its status.
use Rattle.std.proofs.Common.{◌≡◌, ℕ, List, sym, subst}
use Rattle.gate_desk.specs.Outside.{Outside}
use Rattle.run_setup.specs.declared.status.Status.{Status}
use Rattle.run_setup.specs.declared.status.Status.TheVariants.{Done}
use Rattle.run_setup.specs.Prelude.{Tells, TellsLine}
use Rattle.gateway.specs.Prelude.{IsMake}
use Rattle.gate_command.specs.Answers.{IsToldMake, AnswersMake}

told_make : (e answer : Status) (number count : ℕ) (report : List ℕ) (a b c : Outside) → IsMake e number count report a b → Tells e answer b c
    → IsToldMake answer number count report a c
told_make e answer number count report a b c h t =
    record {
      ended = b;
      make = subst (λ s. IsMake s number count report a b) (sym t.answer_is) h;
      line =
          subst (λ s. TellsLine s b c) (sym t.answer_is) t.line;
    }

-- what the call answers to the words of a make
pub answers_make : (e answer : Status) (number count : ℕ) (report : List ℕ) (a b c : Outside) → (e ≡ Done → ⊥) → IsMake e number count report a b
    → Tells e answer b c → AnswersMake answer number count report a c
answers_make e Done number count report a b c undone h t = absurd (undone (sym t.answer_is))
answers_make e answer number count report a b c undone h t = told_make e answer number count report a b c h t
