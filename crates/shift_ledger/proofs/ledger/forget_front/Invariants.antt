use Rattle.std.proofs.Common.{◌≡◌, ◌≤◌, drop, deque_capacity, deque_len}
use Rattle.shift_ledger.proofs.ledger.forget_front.Given as goal

abbrev pub invariant-loop : goal.invariant-loop
invariant-loop l = record {
  items : l.units.items ≡ drop l.counter l.initial.units.items;
  room : deque_capacity l.units ≡ deque_capacity l.initial.units;
  fewer : deque_len l.units ≤ deque_len l.initial.units;
}
