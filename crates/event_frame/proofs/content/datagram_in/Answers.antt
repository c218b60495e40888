use Rattle.std.proofs.Common.{◌≡◌, Ok, IfOk, ap, subst, ◌∙◌}
use Rattle.gate_base.specs.Prelude.{event_of}
use Rattle.ipv4_frames.specs.Ipv4.{read_datagram}
use Rattle.event_frame.proofs.Tests.{refused, refused_is, was_read, read_is}
use Rattle.event_frame.proofs.content.datagram_in.Goals as goal

pub returns-clause-judged : goal.returns-clause-judged
returns-clause-judged c = refused_is _ _ c.map_err.ensures.cases ∙ ap refused (c.of.ensures ∙ ap read_datagram c.requires)
    ∙ read_is (event_of c.args.event.now) c.if-not-event.false

pub returns-clause-read : goal.returns-clause-read
returns-clause-read c =
    subst (λ r. IfOk c.map_err.result (λ d. r ≡ Ok d)) c.of.ensures (was_read c.of.result c.map_err.result c.map_err.ensures.cases)
