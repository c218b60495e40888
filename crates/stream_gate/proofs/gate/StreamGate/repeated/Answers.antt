use Rattle.std.proofs.Common.{◌≡◌, min, length}
use Rattle.gate_base.specs.declared.host.Host.{Host}
use Rattle.gate_base.specs.declared.host.Host.TheVariants.{Client, Server}
use Rattle.stream_model.specs.Prelude.{segment_in}
use Rattle.compact_stream.specs.Prelude.{start_kept, sender_kept}
use Rattle.stream_gate.specs.Prelude.{GateKept}
use Rattle.gate_base.proofs.Hosts.{at_host}
use Rattle.stream_gate.proofs.gate.StreamGate.repeated.Goals as goal

pub returns-in-Client : goal.returns-in-Client
returns-in-Client g c =
    at_host (λ (h : Host) (d : GateKept _ _). c.repeated_by.result ≡ min (length c.args.segment.now.payload)
    (start_kept (sender_kept h d.kept) (segment_in c.args.segment.now)).before) Client c.args.from _ c.args.self.now c.in-Client.is c.self.view_is
    c.repeated_by.ensures

pub returns-in-Server : goal.returns-in-Server
returns-in-Server g c =
    at_host (λ (h : Host) (d : GateKept _ _). c.repeated_by-in-Server.result ≡ min (length c.args.segment.now.payload)
    (start_kept (sender_kept h d.kept) (segment_in c.args.segment.now)).before) Server c.args.from _ c.args.self.now c.in-Server.is c.self.view_is
    c.repeated_by-in-Server.ensures
