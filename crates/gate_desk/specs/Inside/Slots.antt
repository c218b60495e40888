-- What only proofs and private contracts need beside `Slots`.
use Rattle.gate_desk.specs.declared.slot.PerSlot.{PerSlot}

-- what f makes of each value
abbrev pub mapped : {A B : Type 0} → (A → B) → PerSlot A → PerSlot B
mapped f p = record {
  settings = f p.settings;
  left_in = f p.left_in;
  right_in = f p.right_in;
  left_given = f p.left_given;
  right_given = f p.right_given;
  report_given = f p.report_given;
  left_out = f p.left_out;
  right_out = f p.right_out;
  report = f p.report;
  errors = f p.errors;
}
