use Rattle.udp_icmp.proofs.Sealed.{sealed_icmp_reads}
use Rattle.udp_icmp.proofs.icmp.sealed_icmp_is_right.Goals as goal

pub returns : goal.returns
returns c = sealed_icmp_reads c.args.message.now c.requires
