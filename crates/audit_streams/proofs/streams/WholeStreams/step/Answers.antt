use Rattle.std.proofs.Common.{◌≡◌, IfOk}
use Rattle.gate_base.proofs.Hosts.{at_host}
use Rattle.audit_streams.specs.Hosts.{session_of}
use Rattle.audit_streams.specs.Inside.Hosts.{sender_of}
use Rattle.audit_streams.specs.Sending.{handed}
use Rattle.stream_model.specs.Prelude.{Segment, segment_in, session_sent, session_ends}
use Rattle.audit_streams.proofs.BothHosts.{heard_by, next_at}
use Rattle.audit_streams.proofs.HostLists.{can_take, opens_alone, verdict_here}
use Rattle.audit_streams.proofs.streams.WholeStreams.step.Goals as goal
use Rattle.gate_base.specs.declared.host.Host.TheVariants.{Client, Server}

pub pass-requires-clause-opens : goal.pass-requires-clause-opens
pass-requires-clause-opens g c =
    let segment = segment_in c.args.segment.now in
    opens_alone Client (sender_of g.C.Dialogue.meaning c.self.inside.client) (sender_of g.S.Dialogue.meaning c.self.inside.server) segment
    (verdict_here g.C.Dialogue.meaning g.S.Dialogue.meaning c.args.from Client _ _ segment c.in-Client.is c.self.view_is c.requires.passes)

pub pass-requires-clause-can : goal.pass-requires-clause-can
pass-requires-clause-can g c =
    let segment = segment_in c.args.segment.now in
    can_take Client (sender_of g.C.Dialogue.meaning c.self.inside.client) (sender_of g.S.Dialogue.meaning c.self.inside.server) segment
    (verdict_here g.C.Dialogue.meaning g.S.Dialogue.meaning c.args.from Client _ _ segment c.in-Client.is c.self.view_is c.requires.passes)

pub pass-requires-in-Server-clause-opens : goal.pass-requires-in-Server-clause-opens
pass-requires-in-Server-clause-opens g c =
    let segment = segment_in c.args.segment.now in
    opens_alone Server (sender_of g.S.Dialogue.meaning c.self.inside.server) (sender_of g.C.Dialogue.meaning c.self.inside.client) segment
    (verdict_here g.C.Dialogue.meaning g.S.Dialogue.meaning c.args.from Server _ _ segment c.in-Server.is c.self.view_is c.requires.passes)

pub pass-requires-in-Server-clause-can : goal.pass-requires-in-Server-clause-can
pass-requires-in-Server-clause-can g c =
    let segment = segment_in c.args.segment.now in
    can_take Server (sender_of g.S.Dialogue.meaning c.self.inside.server) (sender_of g.C.Dialogue.meaning c.self.inside.client) segment
    (verdict_here g.C.Dialogue.meaning g.S.Dialogue.meaning c.args.from Server _ _ segment c.in-Server.is c.self.view_is c.requires.passes)

pub returns-in-Client-clause-next : goal.returns-in-Client-clause-next
returns-in-Client-clause-next g c =
    next_at Client c.args.from c.pass.result g.C.Dialogue.meaning g.S.Dialogue.meaning
    (heard_by c.self.inside.client c.self.inside.server) c.args.self.now
    (segment_in c.args.segment.now) c.pass.new.own c.pass.new.other c.in-Client.is c.self.view_is c.pass.ensures.own c.pass.ensures.other

pub returns-in-Client-clause-sent : goal.returns-in-Client-clause-sent
returns-in-Client-clause-sent g c =
    let t : Segment = segment_in c.args.segment.now in
    at_host (λ h w. let s = session_of g.C.Dialogue.meaning g.S.Dialogue.meaning w in
    IfOk c.pass.result (λ r. r ≡ handed (session_sent h s t) (session_ends h s t)))
    Client c.args.from (heard_by c.self.inside.client c.self.inside.server) c.args.self.now c.in-Client.is c.self.view_is c.pass.ensures.sent

pub returns-in-Server-clause-next : goal.returns-in-Server-clause-next
returns-in-Server-clause-next g c =
    next_at Server c.args.from c.pass-in-Server.result g.C.Dialogue.meaning g.S.Dialogue.meaning (heard_by c.self.inside.client c.self.inside.server)
    c.args.self.now (segment_in c.args.segment.now) c.pass-in-Server.new.other c.pass-in-Server.new.own c.in-Server.is c.self.view_is
    c.pass-in-Server.ensures.own c.pass-in-Server.ensures.other

pub returns-in-Server-clause-sent : goal.returns-in-Server-clause-sent
returns-in-Server-clause-sent g c =
    let t : Segment = segment_in c.args.segment.now in
    at_host (λ h w. let s = session_of g.C.Dialogue.meaning g.S.Dialogue.meaning w in
    IfOk c.pass-in-Server.result (λ r. r ≡ handed (session_sent h s t) (session_ends h s t)))
    Server c.args.from
    (heard_by c.self.inside.client c.self.inside.server) c.args.self.now c.in-Server.is c.self.view_is c.pass-in-Server.ensures.sent
