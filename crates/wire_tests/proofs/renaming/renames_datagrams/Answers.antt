use Rattle.std.proofs.Common.{refl, arith, inl}
use Rattle.ipv4_frames.specs.Ipv4.{read_datagram}
use Rattle.inet_sum.specs.Sum.{words, fold_of}
use Rattle.udp_icmp.specs.Udp.{read_udp}
use Rattle.wire_tests.proofs.renaming.renames_datagrams.Goals as goal

pub translate-requires : goal.translate-requires
translate-requires g c = record { long = omega arith; whole = refl; header = omega arith; lifetime = omega arith }

pub translate-requires-2 : goal.translate-requires-2
translate-requires-2 g c = record { long = omega arith; whole = refl; header = omega arith; lifetime = omega arith }

pub translate-requires-3 : goal.translate-requires-3
translate-requires-3 g c = record { long = omega arith; whole = refl; header = omega arith; lifetime = omega arith }

pub translate-requires-4 : goal.translate-requires-4
translate-requires-4 g c = record { long = omega arith; whole = refl; header = omega arith; lifetime = omega arith }

pub translate-requires-5 : goal.translate-requires-5
translate-requires-5 g c = record { long = omega arith; whole = refl; header = omega arith; lifetime = omega arith }

pub translate-requires-6 : goal.translate-requires-6
translate-requires-6 g c = record { long = omega arith; whole = refl; header = omega arith; lifetime = omega arith }

pub seal-requires : goal.seal-requires
unfolding read_datagram words fold_of
seal-requires g c = record { header = refl; payload = inl (refl, omega arith) }

pub rebuild-requires-clause-datagram : goal.rebuild-requires-clause-datagram
unfolding read_datagram words fold_of read_udp
rebuild-requires-clause-datagram g c = record { accepted = record { header = refl; payload = refl }; protocol = refl; lifetime = omega arith }
