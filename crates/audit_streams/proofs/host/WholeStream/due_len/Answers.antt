use Rattle.std.proofs.Common.{◌≡◌, ◌-◌, length, ◌∙◌, ap, subst}
use Rattle.stream_model.specs.Prelude.{due_in}
use Rattle.audit_streams.specs.Inside.Hosts.{HeardStream, sender_of}
use Rattle.audit_streams.proofs.HostLists.{due_open}
use Rattle.audit_streams.proofs.host.WholeStream.due_len.Goals as goal

pub returns-clause-due : goal.returns-clause-due
returns-clause-due g c =
    let a = c.self.inside in
    let here = ap length c.image-all.ensures.octets in
    let due = due_open (g.D.Dialogue.meaning a.dialogue) a.ended a.released a.transcript c.self.invariant c.if-self.false c.if-self-2.false in
    subst (λ (h : HeardStream _). length c.image-all.result.now - c.rest_len.result ≡ length (due_in (sender_of g.D.Dialogue.meaning h)))
    c.self.view_is
    (ap (λ n. n - c.rest_len.result) here ∙ ap (λ n. length a.transcript.image - n) c.rest_len.ensures.len ∙ due)
