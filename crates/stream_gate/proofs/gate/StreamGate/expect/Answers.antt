use Rattle.std.proofs.Common.{sym, subst, ◌∙◌, ap}
use Rattle.dialogue.specs.Prelude.{AreImages}
use Rattle.stream_gate.specs.Prelude.{GateKept, DirectionKept}
use Rattle.stream_gate.proofs.SteppedGate.{gate_by}
use Rattle.stream_gate.proofs.gate.StreamGate.expect.Goals as goal

pub expect-requires : goal.expect-requires
expect-requires g c =
    subst (λ (d : GateKept _ _). AreImages (g.C.Dialogue.meaning d.client_dialogue) c.args.images.items) (sym c.self.view_is)
    (c.requires.client c.in-Client.is)

pub returns-in-Client : goal.returns-in-Client
returns-in-Client g c =
    ap (λ (x : DirectionKept _). gate_by x.dialogue c.self.inside.server.dialogue x.kept c.self.inside.server.kept) c.expect.ensures ∙ c.self.view_is

pub expect-requires-in-Server : goal.expect-requires-in-Server
expect-requires-in-Server g c =
    subst (λ (d : GateKept _ _). AreImages (g.S.Dialogue.meaning d.server_dialogue) c.args.images.items) (sym c.self.view_is)
    (c.requires.server c.in-Server.is)

pub returns-in-Server : goal.returns-in-Server
returns-in-Server g c =
    ap (λ (x : DirectionKept _). gate_by c.self.inside.client.dialogue x.dialogue c.self.inside.client.kept x.kept) c.expect-in-Server.ensures
    ∙ c.self.view_is
