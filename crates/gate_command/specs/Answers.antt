-- What the whole call answers.
use Rattle.std.specs.Prelude.{◌≡◌, ℕ, List}
use Rattle.gate_desk.specs.Outside.{Outside}
use Rattle.run_setup.specs.declared.status.Status.{Status}
use Rattle.run_setup.specs.declared.status.Status.TheVariants.{Done, Usage, Unlawful}
use Rattle.run_setup.specs.Prelude.{TellsLine, Command}
use Rattle.run_setup.specs.RunNames.{Names}
use Rattle.gateway.specs.Prelude.{IsRun, IsPromised, TookForWritten, IsMake}
use Rattle.run_setup.specs.AuditNames.{Names as AuditNames}
use Rattle.gateway_audit.specs.Audits.{IsAudit, TookForEvents}
use Rattle.run_setup.specs.Command.{Run, Make, Audit}
use Rattle.run_setup.specs.Command as commands

-- a run that is done
pub record IsDoneRun (names : Names) (old new : Outside) : Type 0 where
  pub run : IsRun Done names old new
  pub promise : IsPromised Done old new
  pub taken : TookForWritten old new

-- a run that isn't done, and then the line of its status
pub record IsToldRun (status : Status) (names : Names) (old new : Outside) : Type 0 where
  pub ended : Outside
  pub run : IsRun status names old ended
  pub promise : IsPromised status old ended
  pub taken : TookForWritten old ended
  pub line : TellsLine status ended new

abbrev pub AnswersRun : Status → Names → Outside → Outside → Type 0
AnswersRun Done names old new = IsDoneRun names old new
AnswersRun status names old new = IsToldRun status names old new

-- a make that isn't done, and then the line of its status
pub record IsToldMake (status : Status) (number count : ℕ) (report : List ℕ) (old new : Outside) : Type 0 where
  pub ended : Outside
  pub make : IsMake status number count report old ended
  pub line : TellsLine status ended new

abbrev pub AnswersMake : Status → ℕ → ℕ → List ℕ → Outside → Outside → Type 0
AnswersMake Done number count report old new = IsMake Done number count report old new
AnswersMake status number count report old new = IsToldMake status number count report old new

-- an audit that gives a verdict
pub record IsDoneAudit (status : Status) (names : AuditNames) (old new : Outside) : Type 0 where
  pub audit : IsAudit status names old new
  pub taken : TookForEvents old new

-- an audit that gives no verdict, and then the line of its status
pub record IsToldAudit (status : Status) (names : AuditNames) (old new : Outside) : Type 0 where
  pub ended : Outside
  pub audit : IsAudit status names old ended
  pub taken : TookForEvents old ended
  pub line : TellsLine status ended new

abbrev pub AnswersAudit : Status → AuditNames → Outside → Outside → Type 0
AnswersAudit Done names old new = IsDoneAudit Done names old new
AnswersAudit (Unlawful number reason) names old new = IsDoneAudit (Unlawful number reason) names old new
AnswersAudit status names old new = IsToldAudit status names old new

-- what the call answers to the words of a run, to those of a make, to those of an audit, and to other words
abbrev pub Answers : Status → Command → Outside → Outside → Type 0
Answers status (Run names) old new = AnswersRun status names old new
Answers status (Make number count report) old new = AnswersMake status number count report old new
Answers status (Audit names) old new = AnswersAudit status names old new
Answers status commands.Usage old new = (status ≡ Usage) × TellsLine Usage old new
