-- What only proofs and private contracts need beside `Given`.
use Rattle.std.specs.Prelude.{◌≡◌, ℕ, List, ◌++◌, take, drop, Option, Some, None, IfSome}
use Rattle.gate_desk.specs.declared.slot.Slot.TheVariants.{ReportGiven}
use Rattle.gate_desk.specs.Outside.{Outside, Takes, told_at}

-- the octets that were read ahead are as many as there is room for, or all that are left, and nothing of the report was lost
pub record Fills (ahead ahead' : List ℕ) (old new : Outside) : Type 0 where
  pub count : ℕ
  pub takes : Takes ReportGiven count old new
  pub first : IfSome (told_at old.left ReportGiven) (λ all. ahead' ≡ take 256 (ahead ++ all))
  pub whole : IfSome (told_at old.left ReportGiven) (λ all. ahead' ++ drop count all ≡ ahead ++ all)

-- two values that are told or not, both alike, and where they are, in this relation
abbrev pub Alike : {A B : Type 0} → (A → B → Type 0) → Option A → Option B → Type 0
Alike R (Some a) (Some b) = R a b
Alike R None None = Unit {0}
Alike R _ _ = ⊥
