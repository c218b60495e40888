-- Tests in their order.
use Rattle.std.specs.Prelude.{Bool, if◌then◌else◌, List, [], ◌∷◌, Result, Ok, Err}

-- the fault of the first test that holds, or else the value
abbrev pub first_fault_or : {T F : Type 0} → List (Bool × F) → T → Result T F
first_fault_or [] value = Ok value
first_fault_or (test ∷ more) value = if test.0 then Err test.1 else first_fault_or more value
