-- What a joiner keeps.
use Rattle.std.specs.Prelude.{◌≡◌, ℕ, ◌+◌, ◌≤◌, List, length, slice_get, Option, Some, None, is_some, option_and_then, if◌then◌else◌, vec_capacity}
use Rattle.gate_base.specs.Prelude.{Event}
use Rattle.gate_base.specs.declared.event.Moment.{Moment}
use Rattle.frag_join.specs.declared.part.Name.{Name}
use Rattle.frag_join.specs.declared.part.Part.{Part}
use Rattle.frag_join.specs.Coverage.{Coverage, nothing}
use Rattle.frag_join.specs.Joining.{State, Step, by_known, with_fragment, settled}
use Rattle.frag_join.specs.declared.joiner.TheConstants.{MOST_JOINED}
use Rattle.frag_join.specs.declared.joiner.Joiner.TheInside.{Inside}

-- the state that it stands for
abbrev pub state_of : Inside → State Coverage
state_of j = record { parts = j.parts.items; joined = j.joined }

-- what is known of the datagram at a place, and nothing of a new one
abbrev pub known_or_nothing : Option (Part Coverage) → Coverage
known_or_nothing None = nothing
known_or_nothing (Some part) = part.kept

abbrev pub known_at : List (Part Coverage) → Option ℕ → Coverage
known_at parts place = known_or_nothing (option_and_then (slice_get parts) place)

-- a datagram of which nothing is held
abbrev pub new_part : Name → Moment → Part Coverage
new_part name since = record { name = name; since = since; kept = nothing }

-- the datagram at a place takes a fragment
abbrev pub put_at : List (Part Coverage) → ℕ → Event → Part Coverage → Step Coverage
put_at parts place e part = settled by_known parts (Some place) e (with_fragment by_known part e)

-- there are as many buffers as datagrams may be joined, for those of which parts are there, the one that is joined, and the others; and there is
-- room for all
pub record IsFull (j : Inside) : Type 0 where
  pub buffers : (length j.parts.items + length j.spare.items) + (if is_some j.joined then 1 else 0) ≡ MOST_JOINED
  pub parts : MOST_JOINED ≤ vec_capacity j.parts
  pub spare : MOST_JOINED ≤ vec_capacity j.spare
