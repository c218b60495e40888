-- The files of a run, and what it starts.
use Rattle.std.specs.Prelude.{ℕ, List, [], ◌∷◌, ◌++◌}
use Rattle.gate_desk.specs.declared.slot.Slot.TheVariants.{LeftOut, RightOut, Report}
use Rattle.gate_desk.specs.declared.slot.Access.TheVariants.{Write}
use Rattle.gate_desk.specs.Outside.{Start}
use Rattle.run_setup.specs.Beginning.{settings_start, inputs_start}
use Rattle.run_setup.specs.declared.names.FileNames.{FileNames}

-- the files of a run
pub record Names : Type 0 where
  pub settings : List ℕ
  pub left_in : List ℕ
  pub right_in : List ℕ
  pub left_out : List ℕ
  pub right_out : List ℕ
  pub report : List ℕ

abbrev pub names_of : FileNames → Names
names_of n =
    record {
      settings = n.settings.now;
      left_in = n.left_in.now;
      right_in = n.right_in.now;
      left_out = n.left_out.now;
      right_out = n.right_out.now;
      report = n.report.now;
    }

-- what a run starts to read the settings, to read both captures, and to write, in this order
abbrev pub settings_starts : Names → List Start
settings_starts names = settings_start names.settings

abbrev pub input_starts : Names → List Start
input_starts names = inputs_start names.left_in names.right_in

abbrev pub output_starts : Names → List Start
output_starts names =
    (record { slot = LeftOut; name = names.left_out; access = Write }) ∷ (record { slot = RightOut; name = names.right_out; access = Write })
    ∷ (record { slot = Report; name = names.report; access = Write }) ∷ []

-- what a run starts before its outputs, and all that it starts, in this order
abbrev pub first_starts : Names → List Start
first_starts names = settings_starts names ++ input_starts names

abbrev pub plan : Names → List Start
plan names = first_starts names ++ output_starts names

-- what a make starts
abbrev pub make_starts : List ℕ → List Start
make_starts report = (record { slot = Report; name = report; access = Write }) ∷ []
