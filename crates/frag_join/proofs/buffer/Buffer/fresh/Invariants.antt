use Rattle.std.proofs.Common.{◌≡◌, ◌≤◌, ◌&&◌, not, is_some}
use Rattle.frag_join.specs.Prelude.{count_below, covers, octet_of}
use Rattle.frag_join.proofs.buffer.Buffer.fresh.Given as goal

-- the places so far are counted
abbrev pub invariant-loop-place : goal.invariant-loop-place
invariant-loop-place l = record {
  counted : l.count ≡ count_below (λ place. covers l.fragment place && not (is_some (octet_of l.self place))) l.place;
  few : l.count ≤ l.place;
}
