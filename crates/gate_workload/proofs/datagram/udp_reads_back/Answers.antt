use Rattle.std.proofs.Common.{arith}
use Rattle.gate_workload.proofs.ReadBack.{udp_reads}
use Rattle.gate_workload.proofs.datagram.udp_reads_back.Goals as goal

pub returns : goal.returns
returns c = udp_reads _ c.args.payload.now (omega arith) (omega arith) (omega arith) (omega arith) c.requires
