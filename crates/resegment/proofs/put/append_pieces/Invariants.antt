use Rattle.std.proofs.Common.{◌≡◌, ◌≤◌, ◌+◌, ◌*◌, ◌++◌, length, vec_capacity, flat_map}
use Rattle.resegment.specs.Pieces.{cut_at}
use Rattle.resegment.specs.Datagrams.{datagrams_below, ends_from}
use Rattle.resegment.proofs.put.append_pieces.Given as goal

-- the pieces so far are appended
abbrev pub invariant-loop-index : goal.invariant-loop-index
invariant-loop-index l = record {
  octets : l.outbox.items ≡ l.initial.outbox.items ++ flat_map (λ d. d) (datagrams_below l.model l.octets l.limit l.index);
  ends : l.ends.items ≡ l.initial.ends.items ++ ends_from (length l.initial.outbox.items) (datagrams_below l.model l.octets l.limit l.index);
  len : length l.outbox.items ≡ length l.initial.outbox.items + (cut_at (length l.octets) l.limit l.index + l.index * (20 + length l.model.tcp.now));
  many : length l.ends.items ≡ length l.initial.ends.items + l.index;
  room : vec_capacity l.initial.outbox ≤ vec_capacity l.outbox;
  more : vec_capacity l.initial.ends ≤ vec_capacity l.ends;
}
