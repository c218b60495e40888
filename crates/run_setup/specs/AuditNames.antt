-- The files of an audit, and what it starts.
use Rattle.std.specs.Prelude.{ℕ, List, [], ◌∷◌, ◌++◌}
use Rattle.gate_desk.specs.declared.slot.Slot.TheVariants.{LeftGiven, RightGiven, ReportGiven, Report}
use Rattle.gate_desk.specs.declared.slot.Access.TheVariants.{Read, Write}
use Rattle.gate_desk.specs.Outside.{Start}
use Rattle.run_setup.specs.Beginning.{settings_start, inputs_start}
use Rattle.run_setup.specs.declared.names.AuditNames.{AuditNames}

-- the files of an audit
pub record Names : Type 0 where
  pub settings : List ℕ
  pub left_in : List ℕ
  pub right_in : List ℕ
  pub left_given : List ℕ
  pub right_given : List ℕ
  pub report_given : List ℕ
  pub report : List ℕ

abbrev pub names_of : AuditNames → Names
names_of n = record {
  settings = n.settings.now;
  left_in = n.left_in.now;
  right_in = n.right_in.now;
  left_given = n.left_given.now;
  right_given = n.right_given.now;
  report_given = n.report_given.now;
  report = n.report.now;
}

-- what is started to read the settings and both incoming captures, to read the given files, and to write, in this order
abbrev pub first_starts : Names → List Start
first_starts names = settings_start names.settings ++ inputs_start names.left_in names.right_in

abbrev pub given_starts : Names → List Start
given_starts names =
    (record { slot = LeftGiven; name = names.left_given; access = Read }) ∷ (record { slot = RightGiven; name = names.right_given; access = Read })
    ∷ (record { slot = ReportGiven; name = names.report_given; access = Read }) ∷ []

abbrev pub answer_start : Names → List Start
answer_start names = (record { slot = Report; name = names.report; access = Write }) ∷ []

-- all that is started to read, and all
abbrev pub read_starts : Names → List Start
read_starts names = first_starts names ++ given_starts names

abbrev pub plan : Names → List Start
plan names = read_starts names ++ answer_start names
