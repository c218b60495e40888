use Rattle.std.proofs.Common.{arith}
use Rattle.udp_icmp.proofs.Sealed.{sealed_udp_reads, short_segment}
use Rattle.udp_icmp.proofs.udp.sealed_udp_is_right.Goals as goal

pub returns : goal.returns
returns c = sealed_udp_reads c.args.source c.args.destination c.args.segment.now (omega arith) (omega arith)
    (short_segment c.args.segment.now c.type_inv.segment c.requires) c.requires
