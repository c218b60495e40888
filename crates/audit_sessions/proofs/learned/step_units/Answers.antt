use Rattle.std.proofs.Common.{◌≡◌, List, sym, ◌∙◌, ap, subst, IfOk}
use Rattle.dialogue.specs.Prelude.{Entry, AreImages}
use Rattle.dialogue.specs.declared.learns.UnitImage.{UnitImage}
use Rattle.dns_stream.specs.Prelude.{dns_units}
use Rattle.gate_base.specs.declared.host.Host.{Host}
use Rattle.audit_streams.specs.Sending.{handed}
use Rattle.stream_model.specs.Prelude.{segment_in, session_sent, session_ends, segment_refusal}
use Rattle.audit_sessions.specs.Inside.Sessions.{DnsHeard, listed_of, streams_of, with_entered}
use Rattle.audit_sessions.proofs.LearnedSessions.{still_passes, has_passed, with_listed}
use Rattle.audit_sessions.proofs.learned.step_units.Goals as goal

-- the images are by the list that its sender has now
pub expect-requires : goal.expect-requires
expect-requires c =
    let images : List UnitImage = c.args.completed.images.items in
    let g : DnsHeard = c.learn_all.new.session in
    let f : Host = c.args.from in
    let right : AreImages (dns_units (listed_of f g)) images =
    subst (λ (xs : List Entry). AreImages (dns_units xs) images)
    (sym (ap (listed_of f) c.learn_all.ensures ∙ with_listed f c.args.completed.entries.now c.args.session.now)) c.requires.images in
    record {
      client = λ e. subst (λ (b : Host). AreImages (dns_units (listed_of b g)) images) e right;
      server = λ e. subst (λ (b : Host). AreImages (dns_units (listed_of b g)) images) e right;
    }

pub step-requires : goal.step-requires
step-requires c =
    let f = c.args.from in
    let g = segment_in c.args.segment.now in
    record {
      passes = ap (λ (d : DnsHeard). segment_refusal f (streams_of d) g) (c.expect.ensures ∙ c.learn_all.ensures)
          ∙ still_passes f c.args.completed.entries.now c.args.session.now g c.requires.listed ∙ c.requires.passes;
    }

pub returns-clause-next : goal.returns-clause-next
returns-clause-next c =
    has_passed c.step.result c.args.from c.expect.new.self (with_entered c.args.from c.args.completed.entries.now c.args.session.now) c.step.new.self
    (segment_in c.args.segment.now)
    (c.expect.ensures ∙ c.learn_all.ensures) c.step.ensures.client c.step.ensures.server c.step.ensures.next

pub returns-clause-sent : goal.returns-clause-sent
returns-clause-sent c =
    let f = c.args.from in
    let g = segment_in c.args.segment.now in
    subst (λ (d : DnsHeard). IfOk c.step.result (λ s. s ≡ handed (session_sent f (streams_of d) g) (session_ends f (streams_of d) g)))
    (c.expect.ensures ∙ c.learn_all.ensures) c.step.ensures.sent
