use Rattle.std.proofs.Common.{◌≡◌, ◌<◌, length, Some, slice_get}
use Rattle.gate_base.specs.declared.host.Host.{Host}
use Rattle.gate_base.specs.declared.host.Host.TheVariants.{Client, Server}
use Rattle.stream_gate.specs.Prelude.{GateKept, entries_of}
use Rattle.gate_base.proofs.Hosts.{at_host, of_host}
use Rattle.stream_gate.proofs.gate.StreamGate.entry.Goals as goal

pub entry-requires : goal.entry-requires
entry-requires g c =
    of_host (λ (h : Host) (d : GateKept _ _). c.args.place < length (entries_of g.C.Learns.entries g.S.Learns.entries h d)) Client c.args.host _
    c.args.self.now c.in-Client.is c.self.view_is c.requires

pub returns-in-Client : goal.returns-in-Client
returns-in-Client g c =
    at_host (λ (h : Host) (d : GateKept _ _). slice_get (entries_of g.C.Learns.entries g.S.Learns.entries h d) c.args.place ≡ Some c.entry.result)
    Client c.args.host _ c.args.self.now c.in-Client.is c.self.view_is c.entry.ensures

pub entry-requires-in-Server : goal.entry-requires-in-Server
entry-requires-in-Server g c =
    of_host (λ (h : Host) (d : GateKept _ _). c.args.place < length (entries_of g.C.Learns.entries g.S.Learns.entries h d)) Server c.args.host _
    c.args.self.now c.in-Server.is c.self.view_is c.requires

pub returns-in-Server : goal.returns-in-Server
returns-in-Server g c =
    at_host (λ (h : Host) (d : GateKept _ _). slice_get (entries_of g.C.Learns.entries g.S.Learns.entries h d) c.args.place
    ≡ Some c.entry-in-Server.result) Server c.args.host _ c.args.self.now c.in-Server.is c.self.view_is c.entry-in-Server.ensures
