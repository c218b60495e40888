use Rattle.std.proofs.Common.{refl, arith}
use Rattle.ipv4_frames.specs.Ipv4.{read_datagram}
use Rattle.inet_sum.specs.Sum.{words, fold_of}
use Rattle.udp_icmp.specs.Udp.{read_udp}
use Rattle.tcp_segments.specs.Options.{options_within}
use Rattle.tcp_segments.specs.Tcp.{read_tcp}
use Rattle.wire_tests.proofs.renaming.adjusts_sums.Goals as goal

pub translate_accepted-requires : goal.translate_accepted-requires
unfolding read_datagram words fold_of read_udp
translate_accepted-requires g c = record { accepted = record { header = refl; payload = refl }; whole = refl; lifetime = omega arith }

pub translate_accepted-requires-2 : goal.translate_accepted-requires-2
unfolding read_datagram words fold_of read_tcp options_within
translate_accepted-requires-2 g c = record { accepted = record { header = refl; payload = refl }; whole = refl; lifetime = omega arith }
