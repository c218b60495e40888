-- What only proofs and private contracts need beside `Arcs`.
use Rattle.std.specs.Prelude.{ℕ, zero, suc, ◌+◌, ◌*◌, nat_le, if◌then◌else◌, List, [], ◌∷◌, Option, Some, None, unwrap_or}
use Rattle.gate_base.specs.Prelude.{◌>>=◌}
use Rattle.snmp_oids.specs.Arcs.{numbers_of, arcs_of}

-- the same, or none
abbrev pub numbers_in : List ℕ → List ℕ
numbers_in content = unwrap_or (numbers_of content) []

-- the same, or none
abbrev pub arcs_in : List ℕ → List ℕ
arcs_in content = unwrap_or (arcs_of content) []

-- an arc, if it is at most 255
abbrev pub small : ℕ → Option ℕ
small arc = if nat_le arc 255 then Some arc else None

-- one of some arcs, if there are so many and it is at most 255
abbrev pub small_at : List ℕ → ℕ → Option ℕ
small_at [] place = None
small_at (arc ∷ arcs) zero = small arc
small_at (arc ∷ arcs) (suc place) = small_at arcs place

-- the address that four arcs make
abbrev pub four_of : Option ℕ → Option ℕ → Option ℕ → Option ℕ → Option ℕ
four_of first second third fourth = do
  a ← first
  b ← second
  c ← third
  d ← fourth
  Some (((a * 256 + b) * 256 + c) * 256 + d)

-- the same for those from a place on
abbrev pub four_at : (ℕ → Option ℕ) → ℕ → Option ℕ
four_at arc place = four_of (arc place) (arc (place + 1)) (arc (place + 2)) (arc (place + 3))
