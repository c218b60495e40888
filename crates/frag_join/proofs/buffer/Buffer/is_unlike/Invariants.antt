use Rattle.std.proofs.Common.{◌≡◌}
use Rattle.frag_join.specs.Prelude.{any_below, octet_in, are_unlike, octet_of}
use Rattle.frag_join.proofs.buffer.Buffer.is_unlike.Given as goal

-- whether an octet so far differs
abbrev pub invariant-loop-place : goal.invariant-loop-place
invariant-loop-place l = l.unlike ≡ any_below (λ place. are_unlike (octet_of l.self place) (octet_in l.fragment place)) l.place
