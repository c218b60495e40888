use Rattle.std.proofs.Common.{◌∙◌, ap, refl, subst, sym}
use Rattle.gate_model.specs.Prelude.{Payload, Whole}
use Rattle.twice_translate.specs.Renamed.{datagram_of}
use Rattle.event_payloads.specs.Prelude.{IsTaken}
use Rattle.event_payloads.proofs.HeadersOnly.{echo_taken, echo_kind}
use Rattle.event_segments.proofs.Taking.{error_kind}
use Rattle.event_state.specs.Knowing.{world_in}
use Rattle.event_state.proofs.state.State.take_icmp.Goals as goal

pub returns-then-is_error-clause-taken : goal.returns-then-is_error-clause-taken
returns-then-is_error-clause-taken g c =
    let live = world_in c.args.self.now in
    let d = datagram_of c.args.octets.now in
    subst (λ (p : Payload). IsTaken g.S.Session.rules live c.args.way.now.side d
    (Whole p) c.take_error.result c.take_error.new.table c.take_error.new.outbox)
    (sym (error_kind d (ap (λ v. v.is_error) (sym c.requires.view) ∙ sym c.is_error.ensures ∙ c.if-is_error.true)))
    (c.take_error.ensures.taken live refl refl c.requires.way)

pub returns-clause-taken : goal.returns-clause-taken
returns-clause-taken g c =
    let live = world_in c.args.self.now in
    let way = c.args.way.now in
    let d = datagram_of c.args.octets.now in
    let r = c.take_plain.result in
    subst (λ (p : Payload). IsTaken g.S.Session.rules live way.side d (Whole p) r c.take_plain.new.table c.take_plain.new.outbox)
    (sym (echo_kind d (ap (λ v. v.is_error) (sym c.requires.view) ∙ sym c.is_error.ensures ∙ c.if-is_error.false)))
    (echo_taken g.S.Session.rules live way.side d way r c.take_plain.new.table c.take_plain.new.outbox c.requires.way c.take_plain.ensures.refusal
    c.take_plain.ensures.table c.take_plain.ensures.out)
