use Rattle.std.proofs.Common.{◌≡◌, All, length}
use Rattle.binding_table.specs.Prelude.{EndsAtOnce}
use Rattle.binding_table.proofs.seen_addresses.forget.Given as goal

-- what is left is taken out too
abbrev pub invariant-loop : goal.invariant-loop
invariant-loop l = record {
  most : l.seen_addresses.most ≡ l.initial.seen_addresses.most;
  ends : All EndsAtOnce l.seen_addresses.rows;
}

abbrev pub decreases-loop : goal.decreases-loop
decreases-loop l = length l.seen_addresses.rows
