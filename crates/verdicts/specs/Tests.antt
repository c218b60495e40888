-- Tests in their order.
use Rattle.std.specs.Prelude.{Bool, cond, List, [], ◌∷◌, Option, Some, None}
use Rattle.verdicts.specs.declared.refusal.Refusal.{Refusal}

-- the refusal of the first test that holds
abbrev pub first_that_holds : List (Bool × Refusal) → Option Refusal
first_that_holds [] = None
first_that_holds (test ∷ others) = cond test.0 (Some test.1) (first_that_holds others)

-- what comes of that which passes; what stays, where it is refused
abbrev pub unless_refused : {A : Type 0} → Option Refusal → A → A → A
unless_refused None passed stays = passed
unless_refused (Some refusal) passed stays = stays
