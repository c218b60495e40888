use Rattle.std.proofs.Common.{◌≡◌, length, filter}
use Rattle.binding_table.specs.Prelude.{is_live, entries_in, AreKept}
use Rattle.binding_table.proofs.table.drop_ended.Given as goal

-- the rows that are left are kept, and those that live are all left
abbrev pub invariant-loop-row : goal.invariant-loop-row
invariant-loop-row l = record {
  kept : AreKept l.left l.right l.bindings.rows;
  left : l.left.pool.range ≡ l.initial.left.pool.range;
  right : l.right.pool.range ≡ l.initial.right.pool.range;
  live : filter (is_live l.now) (entries_in l.bindings.rows) ≡ filter (is_live l.now) (entries_in l.initial.bindings.rows);
  most : l.bindings.most ≡ l.initial.bindings.most;
}

abbrev pub decreases-loop-row : goal.decreases-loop-row
decreases-loop-row l = length l.bindings.rows
