use Rattle.std.proofs.Common.{◌≡◌, ◌∙◌, subst}
use Rattle.audit_streams.specs.Hosts.{held_in}
use Rattle.audit_streams.specs.Inside.Hosts.{HeardStream, sender_of}
use Rattle.audit_streams.proofs.HostLists.{rest_open}
use Rattle.audit_streams.proofs.host.WholeStream.rest.Goals as goal

pub returns : goal.returns
returns g c =
    let a = c.self.inside in
    subst (λ (h : HeardStream _). c.rest.result.now ≡ held_in (sender_of g.D.Dialogue.meaning h)) c.self.view_is
    (c.rest.ensures.octets
    ∙ rest_open (g.D.Dialogue.meaning a.dialogue) a.ended a.released a.transcript c.self.invariant c.if-self.false c.if-self-2.false)
