use Rattle.std.proofs.Common.{◌≡◌, ◌∙◌, ap, subst}
use Rattle.dialogue.specs.Prelude.{rear_in, spans}
use Rattle.audit_streams.specs.Inside.Hosts.{HeardStream}
use Rattle.audit_streams.proofs.HostLists.{spans_are}
use Rattle.audit_streams.proofs.host.WholeStreamStands.rear.Goals as goal

pub returns : goal.returns
returns g c =
    let a = c.self.inside in
    let here : c.rear.result ≡ rear_in (spans (g.D.Dialogue.meaning a.dialogue) a.transcript.octets) c.due_len.result c.args.end =
    c.rear.ensures.rear ∙ ap (λ ss. rear_in ss c.due_len.result c.args.end)
    (spans_are (g.D.Dialogue.meaning a.dialogue) a.released a.transcript c.self.invariant)
    in
    subst (λ (h : HeardStream _). c.rear.result ≡ rear_in (spans (g.D.Dialogue.meaning h.dialogue) h.heard.octets) c.due_len.result c.args.end)
    c.self.view_is here
    ∙ ap (λ n. rear_in (spans (g.D.Dialogue.meaning c.args.self.now.dialogue) c.args.self.now.heard.octets) n c.args.end) c.due_len.ensures.due
