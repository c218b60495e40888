use Rattle.std.proofs.Common.{◌≡◌, map, take}
use Rattle.binding_table.specs.Prelude.{without_bindings, fixed_binding}
use Rattle.binding_table.proofs.table.Table.new.Given as goal

-- the static bindings so far are in the table
abbrev pub invariant-loop-fixed : goal.invariant-loop-fixed
invariant-loop-fixed l = l.table ≡ record (without_bindings l.settings) { entries = map fixed_binding (take l.fixed-index l.settings.statics) }
