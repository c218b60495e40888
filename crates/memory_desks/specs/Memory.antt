-- A desk in memory, as its callers see it.
use Rattle.std.specs.Prelude.{ℕ, ◌+◌, List, [], Some, length}
use Rattle.gate_desk.specs.declared.slot.PerSlot.{PerSlot}
use Rattle.gate_desk.specs.Slots.{each, inputs}
use Rattle.gate_desk.specs.Outside.{Outside, Start}

pub record Memory : Type 0 where
  pub left : PerSlot (List ℕ)
  pub written : PerSlot (List ℕ)
  pub starts : List Start
  pub faults : PerSlot ℕ
  pub start_faults : PerSlot ℕ

-- it tells all
abbrev pub told_of : Memory → Outside
told_of m = record { left = Some m.left; written = Some m.written; starts = Some m.starts; faults = m.faults; start_faults = m.start_faults }

-- the octets of all slots
abbrev pub total : PerSlot (List ℕ) → ℕ
total p =
    length p.settings + length p.left_in + length p.right_in + length p.left_given + length p.right_given + length p.report_given + length p.left_out
    + length p.right_out + length p.report + length p.errors

-- and, to be audited, two captures and a report that some gateway made of them
abbrev pub audit_inputs : List ℕ → List ℕ → List ℕ → List ℕ → List ℕ → List ℕ → PerSlot (List ℕ)
audit_inputs settings left right left_given right_given report_given =
    record (inputs settings left right) { left_given = left_given; right_given = right_given; report_given = report_given }

-- these octets to be read, nothing written, no start and no fault
abbrev pub opening_of : PerSlot (List ℕ) → Memory
opening_of left = record { left = left; written = each []; starts = []; faults = each 0; start_faults = each 0 }

abbrev pub opening : List ℕ → List ℕ → List ℕ → Memory
opening settings left right = opening_of (inputs settings left right)
