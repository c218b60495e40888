use Rattle.std.proofs.Common.{◌≡◌, ◌+◌, length, vec_capacity}
use Rattle.frag_join.specs.Prelude.{live}
use Rattle.frag_join.proofs.joiner.drop_ended.Given as goal

-- those that live are the same, and the buffers go from one list to the other
abbrev pub invariant-loop-place : goal.invariant-loop-place
invariant-loop-place l = record {
  live : live l.now.0 l.parts.items ≡ live l.now.0 l.initial.parts.items;
  buffers : length l.parts.items + length l.spare.items ≡ length l.initial.parts.items + length l.initial.spare.items;
  room : vec_capacity l.parts ≡ vec_capacity l.initial.parts;
  spare : vec_capacity l.spare ≡ vec_capacity l.initial.spare;
}

abbrev pub decreases-loop-place : goal.decreases-loop-place
decreases-loop-place l = length l.parts.items
