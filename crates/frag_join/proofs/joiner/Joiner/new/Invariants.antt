use Rattle.std.proofs.Common.{◌≡◌, ◌≤◌, length, vec_capacity}
use Rattle.frag_join.proofs.joiner.Joiner.new.Given as goal

-- there are as many buffers as were made, and room for the others
abbrev pub invariant-loop : goal.invariant-loop
invariant-loop l = record {
  made : length l.spare.items ≡ l.counter;
  room : 64 ≤ vec_capacity l.spare;
}
