use Rattle.std.proofs.Common.{◌≡◌, length}
use Rattle.gate_base.specs.declared.host.Host.{Host}
use Rattle.gate_base.specs.declared.host.Host.TheVariants.{Client, Server}
use Rattle.stream_gate.specs.Prelude.{GateKept, entries_of}
use Rattle.gate_base.proofs.Hosts.{at_host}
use Rattle.stream_gate.proofs.gate.StreamGate.listed.Goals as goal

pub returns-in-Client : goal.returns-in-Client
returns-in-Client g c =
    at_host (λ (h : Host) (d : GateKept _ _). c.listed.result ≡ length (entries_of g.C.Learns.entries g.S.Learns.entries h d)) Client c.args.host _
    c.args.self.now c.in-Client.is c.self.view_is c.listed.ensures

pub returns-in-Server : goal.returns-in-Server
returns-in-Server g c =
    at_host (λ (h : Host) (d : GateKept _ _). c.listed-in-Server.result ≡ length (entries_of g.C.Learns.entries g.S.Learns.entries h d)) Server
    c.args.host _ c.args.self.now c.in-Server.is c.self.view_is c.listed-in-Server.ensures
