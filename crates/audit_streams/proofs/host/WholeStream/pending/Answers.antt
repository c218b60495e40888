use Rattle.std.proofs.Common.{◌≡◌, ◌∙◌, ap, subst, count_by, nat_lt}
use Rattle.stream_model.specs.Prelude.{open_of}
use Rattle.audit_streams.specs.Inside.Hosts.{HeardStream, sender_of}
use Rattle.audit_streams.proofs.HostLists.{ends_are}
use Rattle.audit_streams.proofs.host.WholeStream.pending.Goals as goal

pub returns : goal.returns
returns g c =
    let a = c.self.inside in
    subst (λ (h : HeardStream _). c.above.result ≡ open_of (sender_of g.D.Dialogue.meaning h)) c.self.view_is
    (c.above.ensures
    ∙ ap (λ es. count_by (λ e. nat_lt a.acked e) es) (ends_are (g.D.Dialogue.meaning a.dialogue) a.released a.transcript c.self.invariant))
