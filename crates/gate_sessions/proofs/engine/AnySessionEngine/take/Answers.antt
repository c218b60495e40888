use Rattle.std.proofs.Common.{◌≡◌, Some, List, sym, ap, subst, ◌∙◌}
use Rattle.gate_base.specs.declared.address.Addr.{Addr}
use Rattle.dialogue.specs.Prelude.{Entry, AreImages}
use Rattle.dns_stream.specs.Prelude.{dns_units}
use Rattle.dns_plans.specs.Prelude.{entered_all}
use Rattle.gate_model.specs.Prelude.{stream_out, segment_of, Tracked}
use Rattle.gate_sessions.specs.Compact.{CompactSession, compact_rules}
use Rattle.event_payloads.specs.Prelude.{image_by}
use Rattle.gate_base.proofs.Options.{on_err}
use Rattle.gate_base.specs.declared.host.Host.{Host}
use Rattle.event_segments.proofs.SteppedSessions.{IsSeen, seen_as, called_is, next_is, waits_is}
use Rattle.gate_sessions.specs.Sessions.{KeptMayWant}
use Rattle.gate_sessions.proofs.Gone.{gone_is}
use Rattle.gate_sessions.proofs.engine.AnySessionEngine.take.Goals as goal

pub step-requires-clause-images : goal.step-requires-clause-images
step-requires-clause-images c =
    let t = c.args.tracked.now in
    let f = c.host_on.result in
    let seen : c.tracked.inside.session ≡ t.session = ap (λ (x : Tracked CompactSession). x.session) c.tracked.view_is in
    subst (λ (xs : List Entry). AreImages (dns_units (entered_all xs c.args.completed.entries.now)) c.args.completed.images.items)
    (ap (λ (b : Host). compact_rules.listed b t.session) (sym c.host_on.ensures) ∙ ap (compact_rules.listed f) (sym seen)) c.requires.enters.right

pub returns-clause-next : goal.returns-clause-next
returns-clause-next c = λ image called.
    let side = c.args.way.now.side in
    let d = c.args.segment.now.datagram.now in
    let t = c.args.tracked.now in
    let entries = c.args.completed.entries.now in
    let i : IsSeen compact_rules c.tracked.inside.client c.tracked.inside.pair c.tracked.inside.session c.host_on.result side d t image entries =
    record { seen = c.tracked.view_is; sender = c.host_on.ensures; called = called } in
    next_is compact_rules c.tracked.inside.client c.tracked.inside.pair c.tracked.inside.session c.step.new.self c.host_on.result side d t image
    entries i
    (c.in_ok-over.ensures.next image
    (called_is compact_rules c.tracked.inside.client c.tracked.inside.pair c.tracked.inside.session c.host_on.result side d t image entries i))

pub returns-clause-stepped : goal.returns-clause-stepped
returns-clause-stepped c = λ image called.
    let way = c.args.way.now in
    let side = way.side in
    let d = c.args.segment.now.datagram.now in
    let t = c.args.tracked.now in
    let entries = c.args.completed.entries.now in
    let i : IsSeen compact_rules c.tracked.inside.client c.tracked.inside.pair c.tracked.inside.session c.host_on.result side d t image entries =
    record { seen = c.tracked.view_is; sender = c.host_on.ensures; called = called } in
    let named =
    called_is compact_rules c.tracked.inside.client c.tracked.inside.pair c.tracked.inside.session c.host_on.result side d t image entries i in
    record {
      gone = gone_is c.tracked.inside.client c.tracked.inside.pair c.tracked.inside.session c.host_on.result side d t image entries
          c.source_image.result.0 c.destination_image.result.0 c.step.new.outbox i (c.in_ok-over.ensures.out image named)
          ∙ ap (λ (a : Addr). stream_out compact_rules image side d a.0 c.destination_image.result.0 (Some t)) c.source_image.ensures
          ∙ ap (λ (a : Addr). stream_out compact_rules image side d (image_by way.of_source way.source).0 a.0 (Some t)) c.destination_image.ensures;
      waits = waits_is compact_rules c.tracked.inside.client c.tracked.inside.pair c.tracked.inside.session c.step.new.self c.host_on.result side d t
          image entries c.in_ok-over.over c.waiting-waiting.result i
          (c.in_ok-over.ensures.next image named) c.in_ok-over.ensures.over c.waiting-waiting.ensures;
    }

pub returns-in_err-over-clause-lost : goal.returns-in_err-over-clause-lost
returns-in_err-over-clause-lost c =
    let d = c.args.segment.now.datagram.now in
    let t = c.args.tracked.now in
    on_err c.from_residual.result (record {
      same = λ keeps. ap (seen_as c.tracked.inside.client c.tracked.inside.pair) c.in_err-over.ensures.same ∙ c.tracked.view_is;
      nothing = λ keeps. c.in_err-over.ensures.nothing;
      wants = subst (λ (b : Host). KeptMayWant b t.session (segment_of d)) c.host_on.ensures
          (subst (λ (x : Tracked CompactSession). KeptMayWant c.host_on.result x.session (segment_of d)) c.tracked.view_is
          c.in_err-over.ensures.memory);
    })
