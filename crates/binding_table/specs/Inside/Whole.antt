-- What a table keeps.
use Rattle.std.specs.Prelude.{◌≡◌, ◌+◌, ◌≤◌, length, map}
use Rattle.gate_base.specs.Prelude.{AreRules}
use Rattle.gate_base.specs.declared.side.Side.TheVariants.{Left, Right}
use Rattle.binding_table.specs.declared.table.Table.TheInside.{Inside}
use Rattle.binding_table.specs.Bindings.{Bindings}
use Rattle.binding_table.specs.Lawful.{IsLawful}
use Rattle.binding_table.specs.Inside.Steps.{aliases_of, entries_in, filed}

-- the bindings of the table
abbrev pub bindings_of : Inside → Bindings
bindings_of table = record {
  same = table.same;
  left = table.left.pool.range;
  right = table.right.pool.range;
  oids = table.oids;
  entries = entries_in table.bindings.rows;
}

-- each binding is under its host's number, in the pools exactly the aliases are taken and stand for their hosts, there is room for a binding for each
-- address of the pools, and each rule about object identifiers has its form
pub record IsWhole (table : Inside) : Type 0 where
  pub lawful : IsLawful (bindings_of table)
  pub rows : table.bindings.rows ≡ map filed (entries_in table.bindings.rows)
  pub left : table.left ≡ aliases_of (bindings_of table) Left
  pub right : table.right ≡ aliases_of (bindings_of table) Right
  pub room : length table.left.hosts + length table.right.hosts ≤ table.bindings.most
  pub rules : AreRules table.oids
