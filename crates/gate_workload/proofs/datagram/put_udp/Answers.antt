use Rattle.std.proofs.Common.{arith, ap, ◌∙◌}
use Rattle.udp_icmp.specs.Udp.{sealed_udp}
use Rattle.gate_workload.specs.Datagrams.{udp_datagram}
use Rattle.gate_workload.proofs.Joined.{carried}
use Rattle.gate_workload.proofs.datagram.put_udp.Goals as goal

pub returns : goal.returns
unfolding udp_datagram
returns c =
    carried 17 c.args.flow.now c.put_ip_head.new.head c.put_udp_sum.new.segment _ _ c.put_ip_head.ensures (omega arith)
    (c.put_udp_sum.ensures ∙ ap (sealed_udp c.args.flow.now.source.0 c.args.flow.now.destination.0) c.put_udp_parts.ensures)
