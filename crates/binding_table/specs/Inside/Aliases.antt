-- What the aliases of a realm keep.
use Rattle.std.specs.Prelude.{◌≡◌, length}
use Rattle.binding_table.specs.declared.aliases.Aliases.TheInside.{Inside}
use Rattle.binding_table.specs.Inside.Steps.{Aliases}

abbrev pub aliases_in : Inside → Aliases
aliases_in aliases = record { pool = aliases.pool; hosts = aliases.hosts.items }

-- there is a host, or none, for each address of the pool
pub record AreWhole (inside : Inside) : Type 0 where
  pub first : inside.first ≡ inside.pool.range.first
  pub long : length inside.hosts.items ≡ length inside.pool.taken
