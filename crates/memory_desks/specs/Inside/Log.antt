-- The starts of a desk in memory.
use Rattle.std.specs.Prelude.{◌≡◌, ℕ, ◌+◌, ◌*◌, ◌≤◌, List, [], ◌∷◌, length, take, drop, vec_capacity}
use Rattle.memory_desks.specs.declared.log.Entry.{Entry}
use Rattle.memory_desks.specs.declared.log.StartLog.TheInside.{Inside}
use Rattle.gate_desk.specs.Outside.{Start}

-- the names, cut one after another
abbrev pub starts_in : List Entry → List ℕ → List Start
starts_in [] names = []
starts_in (e ∷ es) names = (record { slot = e.slot; name = take e.len names; access = e.access }) ∷ starts_in es (drop e.len names)

abbrev pub log_view : Inside → List Start
log_view d = starts_in d.entries.items d.names.items

abbrev pub total_len : List Entry → ℕ
total_len [] = 0
total_len (e ∷ es) = e.len + total_len es

pub record LogFits (d : Inside) : Type 0 where
  pub whole : total_len d.entries.items ≡ length d.names.items
  pub small : length d.names.items + 3 * length d.entries.items ≤ 65536
  pub entries : 65536 ≤ vec_capacity d.entries
  pub names : 65536 ≤ vec_capacity d.names
