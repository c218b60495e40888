use Rattle.std.proofs.Common.{◌≡◌, ◌≤◌, ◌+◌, List, length, take, drop}
use Rattle.gate_base.specs.Prelude.{other}
use Rattle.binding_table.specs.Prelude.{free, Use, AreUsesOf, fresh_after, needed, AreFirsts, needing}
use Rattle.binding_table.proofs.Planned.{IsAt}
use Rattle.binding_table.proofs.table.Table.write_images.Given as goal

-- the plan so far is that of all uses of the addresses, whatever their moments, where there is room for all; those counted so far and those of
-- what is left are all; and it is noted where the addresses so far stand first
abbrev pub invariant-loop-place : goal.invariant-loop-place
invariant-loop-place l = record {
  plan : needed l.self l.side l.addresses ≤ free l.self (other l.side) → (uses : List Use) → AreUsesOf l.side l.addresses uses
      → IsAt l.self l.side l.addresses l.place l.images l.given uses;
  count : l.count + length (fresh_after l.self l.side (take l.place l.addresses) (drop l.place l.addresses)) ≡ needed l.self l.side l.addresses;
  seen_addresses : AreFirsts (needing l.self l.side) (take l.place l.addresses) l.seen_addresses;
}
