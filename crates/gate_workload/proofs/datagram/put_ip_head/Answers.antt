use Rattle.gate_workload.proofs.Joined.{filled}
use Rattle.gate_workload.proofs.datagram.put_ip_head.Goals as goal

pub returns : goal.returns
returns c = filled _ _ _ _ _ _ _ c.put_head.ensures c.requires c.ip_model.ensures
