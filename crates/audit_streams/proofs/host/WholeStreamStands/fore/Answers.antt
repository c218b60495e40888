use Rattle.std.proofs.Common.{◌≡◌, ◌∙◌, ap, subst}
use Rattle.dialogue.specs.Prelude.{fore_in, spans}
use Rattle.audit_streams.specs.Inside.Hosts.{HeardStream}
use Rattle.audit_streams.proofs.HostLists.{spans_are}
use Rattle.audit_streams.proofs.host.WholeStreamStands.fore.Goals as goal

pub returns : goal.returns
returns g c =
    let a = c.self.inside in
    let here : c.fore.result ≡ fore_in (spans (g.D.Dialogue.meaning a.dialogue) a.transcript.octets) c.due_len.result c.args.place =
    c.fore.ensures ∙ ap (λ ss. fore_in ss c.due_len.result c.args.place)
    (spans_are (g.D.Dialogue.meaning a.dialogue) a.released a.transcript c.self.invariant)
    in
    subst (λ (h : HeardStream _). c.fore.result ≡ fore_in (spans (g.D.Dialogue.meaning h.dialogue) h.heard.octets) c.due_len.result c.args.place)
    c.self.view_is here
    ∙ ap (λ n. fore_in (spans (g.D.Dialogue.meaning c.args.self.now.dialogue) c.args.self.now.heard.octets) n c.args.place) c.due_len.ensures.due
