-- Options that segments have here.
use Rattle.std.proofs.Common.{refl, [], arith}
use Rattle.tcp_segments.specs.Options.{options_within}
use Rattle.gate_workload.specs.Datagrams.{AreShortOptions}
use Rattle.gate_workload.specs.Payloads.{segment_size}

pub none_short : AreShortOptions []
unfolding options_within
none_short = record { whole = refl; few = omega arith; right = refl }

pub size_short : AreShortOptions segment_size
unfolding options_within
size_short = record { whole = refl; few = omega arith; right = refl }
