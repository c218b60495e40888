use Rattle.std.proofs.Common.{◌≡◌}
use Rattle.expiring_table.specs.Prelude.{IsListed}
use Rattle.expiring_table.proofs.store.Store.compact.Given as goal

abbrev pub invariant-loop-place : goal.invariant-loop-place
invariant-loop-place g l = record {
  listed : IsListed l.place l.self;
  most : l.self.most ≡ l.initial.self.most;
  cells : l.self.cells ≡ l.initial.self.cells;
}
