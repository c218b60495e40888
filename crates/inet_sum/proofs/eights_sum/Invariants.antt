use Rattle.std.proofs.Common.{◌≡◌, ◌+◌, ◌*◌, ◌%◌, ◌^◌, ◌≤◌, length}
use Rattle.std.specs.Slice.Iter.{chunks_exact_rest, chunks_exact_size}
use Rattle.inet_sum.specs.Sum.{fold_of, total}
use Rattle.inet_sum.proofs.eights_sum.Given as goal

abbrev pub invariant-loop-eight : goal.invariant-loop-eight
invariant-loop-eight l = record {
  can_next : (goal.iterator-loop-eight).can_next l.eight-iterator;
  is_finite : (goal.iterator-loop-eight).is_finite l.eight-iterator;
  eights : chunks_exact_size l.eight-iterator ≡ 8;
  whole : length (chunks_exact_rest l.eight-iterator) % 8 ≡ 0;
  small : l.sum + length (chunks_exact_rest l.eight-iterator) * 2 ^ 61 ≤ length l.fn.octets * 2 ^ 61;
  so_far : fold_of (256 * l.sum + total (chunks_exact_rest l.eight-iterator)) ≡ fold_of (total l.fn.octets);
}
