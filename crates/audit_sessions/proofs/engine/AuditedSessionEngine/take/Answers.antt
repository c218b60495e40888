use Rattle.std.proofs.Common.{◌≡◌, Some, List, sym, ap, subst, ◌∙◌}
use Rattle.gate_base.specs.declared.address.Addr.{Addr}
use Rattle.dialogue.specs.Prelude.{Entry, AreImages}
use Rattle.dns_stream.specs.Prelude.{dns_units}
use Rattle.dns_plans.specs.Prelude.{entered_all, beside}
use Rattle.gate_model.specs.Prelude.{Tracked, addresses_in, segment_of}
use Rattle.stream_model.specs.Prelude.{Segment, segment_in}
use Rattle.audit_streams.specs.Sending.{Handed, handed}
use Rattle.lawful_files.specs.Prelude.{wanted_segment}
use Rattle.audit_sessions.specs.Heard.{HeardSession, heard_rules, heard_sent}
use Rattle.event_payloads.specs.Prelude.{image_by}
use Rattle.event_segments.proofs.SteppedSessions.{IsSeen, called_is, next_is, waits_is}
use Rattle.gate_base.proofs.Options.{on_err}
use Rattle.gate_base.specs.declared.host.Host.{Host}
use Rattle.audit_sessions.proofs.SteppedStreams.{sent_wanted, pieces_fit}
use Rattle.audit_sessions.proofs.engine.AuditedSessionEngine.take.Goals as goal

pub step-requires-clause-images : goal.step-requires-clause-images
step-requires-clause-images c =
    let t = c.args.tracked.now in
    let f = c.host_on-from.result in
    let seen : c.tracked.inside.session ≡ t.session = ap (λ (x : Tracked HeardSession). x.session) c.tracked.view_is in
    subst (λ (xs : List Entry). AreImages (dns_units (entered_all xs c.args.completed.entries.now)) c.args.completed.images.items)
    (ap (λ (b : Host). heard_rules.listed b t.session) (sym c.host_on-from.ensures) ∙ ap (heard_rules.listed f) (sym seen)) c.requires.enters.right

pub of-requires-clause-fits : goal.of-requires-clause-fits
of-requires-clause-fits c =
    let side = c.args.way.now.side in
    let d = c.args.segment.now.datagram.now in
    let tcp = c.args.segment.now.tcp.now in
    let t = c.args.tracked.now in
    let entries : List Entry = c.args.completed.entries.now in
    let f = c.host_on-from.result in
    let session : HeardSession = c.tracked.inside.session in
    let image = c.requires.enters.image in
    let i : IsSeen heard_rules c.tracked.inside.client c.tracked.inside.pair session f side d t image entries =
    record { seen = c.tracked.view_is; sender = c.host_on-from.ensures; called = c.requires.enters.called } in
    let same : segment_in tcp ≡ segment_of d = ap segment_in c.requires.whole.tcp_is in
    let named =
    subst (λ (g : Segment). entries ≡ beside image (addresses_in (heard_rules.units f session g))) (sym same)
    (called_is heard_rules c.tracked.inside.client c.tracked.inside.pair session f side d t image entries i) in
    pieces_fit d tcp session f image c.in_ok-sent.sent c.header-header.result.now c.requires.whole.tcp_is
    (c.in_ok-sent.ensures.sent image named) c.header-header.ensures.octets c.header-header.ensures.few

pub returns-clause-next : goal.returns-clause-next
returns-clause-next c = λ image called.
    let side = c.args.way.now.side in
    let d = c.args.segment.now.datagram.now in
    let tcp = c.args.segment.now.tcp.now in
    let t = c.args.tracked.now in
    let entries : List Entry = c.args.completed.entries.now in
    let f = c.host_on-from.result in
    let session : HeardSession = c.tracked.inside.session in
    let i : IsSeen heard_rules c.tracked.inside.client c.tracked.inside.pair session f side d t image entries =
    record { seen = c.tracked.view_is; sender = c.host_on-from.ensures; called = called } in
    let same : segment_in tcp ≡ segment_of d = ap segment_in c.requires.whole.tcp_is in
    let named =
    subst (λ (g : Segment). entries ≡ beside image (addresses_in (heard_rules.units f session g))) (sym same)
    (called_is heard_rules c.tracked.inside.client c.tracked.inside.pair session f side d t image entries i) in
    next_is heard_rules c.tracked.inside.client c.tracked.inside.pair session c.step.new.self f side d t image entries i
    (c.in_ok-sent.ensures.next image named ∙ ap (heard_rules.next image f session) same)

pub returns-clause-stepped : goal.returns-clause-stepped
returns-clause-stepped c = λ image called.
    let way = c.args.way.now in
    let side = way.side in
    let d = c.args.segment.now.datagram.now in
    let tcp = c.args.segment.now.tcp.now in
    let t = c.args.tracked.now in
    let entries : List Entry = c.args.completed.entries.now in
    let f = c.host_on-from.result in
    let session : HeardSession = c.tracked.inside.session in
    let sent : Handed = c.in_ok-sent.sent in
    let i : IsSeen heard_rules c.tracked.inside.client c.tracked.inside.pair session f side d t image entries =
    record { seen = c.tracked.view_is; sender = c.host_on-from.ensures; called = called } in
    let same : segment_in tcp ≡ segment_of d = ap segment_in c.requires.whole.tcp_is in
    let named =
    subst (λ (g : Segment). entries ≡ beside image (addresses_in (heard_rules.units f session g))) (sym same)
    (called_is heard_rules c.tracked.inside.client c.tracked.inside.pair session f side d t image entries i) in
    let next : c.step.new.self ≡ heard_rules.next image f session (segment_of d) = c.in_ok-sent.ensures.next image named
    ∙ ap (heard_rules.next image f session) same in
    let is : sent ≡ handed (heard_sent image f session (segment_in tcp)) (heard_rules.ends f session (segment_in tcp)) =
    c.in_ok-sent.ensures.sent image named in
    record {
      gone = sent_wanted c.tracked.inside.client c.tracked.inside.pair session f side d t image entries c.args.segment.now.octets.now
          (segment_in tcp) c.source_image.result.0 c.destination_image.result.0 sent c.in_ok-pieces.pieces i c.requires.whole.same same is
          c.in_ok-pieces.ensures
          ∙ ap (λ (a : Addr). wanted_segment heard_sent image side d a.0 c.destination_image.result.0 (Some t)) c.source_image.ensures
          ∙ ap (λ (a : Addr). wanted_segment heard_sent image side d (image_by way.of_source way.source).0 a.0 (Some t)) c.destination_image.ensures;
      waits = waits_is heard_rules c.tracked.inside.client c.tracked.inside.pair session c.step.new.self f side d t image entries c.sent.inside.ends
          c.waiting-waiting.result i next
          (ap (λ (s : Handed). s.ends) (c.sent.view_is ∙ is) ∙ ap (heard_rules.ends f session) same) c.waiting-waiting.ensures;
    }

pub returns-in_err-sent-clause-lost : goal.returns-in_err-sent-clause-lost
returns-in_err-sent-clause-lost c =
    on_err c.from_residual.result (record { same = λ keeps. absurd keeps; nothing = λ keeps. absurd keeps; wants = tt })

pub returns-in_err-pieces-clause-lost : goal.returns-in_err-pieces-clause-lost
returns-in_err-pieces-clause-lost c =
    on_err c.from_residual-in_err-pieces.result (record { same = λ keeps. absurd keeps; nothing = λ keeps. absurd keeps; wants = tt })
