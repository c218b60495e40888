use Rattle.std.proofs.Common.{◌≡◌, ◌+◌, length, sym, ◌∙◌, ap, subst}
use Rattle.dialogue.specs.Prelude.{back_in, spans, back_if}
use Rattle.audit_streams.specs.Inside.Hosts.{HeardStream}
use Rattle.audit_streams.proofs.HostLists.{spans_are}
use Rattle.audit_streams.proofs.host.WholeStreamStands.back.Goals as goal

pub returns : goal.returns
returns g c =
    let a = c.self.inside in
    let m = g.D.Dialogue.meaning c.args.self.now.dialogue in
    let octets = c.args.self.now.heard.octets in
    let here : c.below.result ≡ back_in (spans (g.D.Dialogue.meaning a.dialogue) a.transcript.octets) c.args.place =
    c.below.ensures.back ∙ ap (λ ss. back_in ss c.args.place) (spans_are (g.D.Dialogue.meaning a.dialogue) a.released a.transcript c.self.invariant)
    in
    subst (λ (h : HeardStream _). c.below.result ≡ back_in (spans (g.D.Dialogue.meaning h.dialogue) h.heard.octets) c.args.place) c.self.view_is here
    ∙ sym (ap (λ b. back_if b (length octets + 1) (back_in (spans m octets) c.args.place)) (sym c.is_past_end.ensures ∙ c.if-is_past_end.false))
