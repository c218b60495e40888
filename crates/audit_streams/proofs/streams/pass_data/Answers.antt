use Rattle.std.proofs.Common.{◌≡◌, false, length, arith, sym, ◌∙◌, ap, subst, IfOk}
use Rattle.dialogue.specs.Prelude.{Meaning}
use Rattle.dialogue.proofs.Laws.{length-due-le}
use Rattle.tcp_segments.specs.Prelude.{flags_of}
use Rattle.stream_model.specs.Prelude.{Sender, Segment, Sent, segment_in, extent, start_at, start_of, taken, acknowledged, standing, acknowledgement_to, limit_of}
use Rattle.stream_model.specs.declared.refusals.Extent.{Extent}
use Rattle.stream_model.proofs.SentLaw.{high-le}
use Rattle.audit_streams.specs.Inside.Hosts.{sender_of}
use Rattle.audit_streams.specs.Sending.{handed}
use Rattle.audit_streams.proofs.GoesOut.{few_taken, taken_is, acknowledged_is, data_is, on_ok}
use Rattle.audit_streams.proofs.streams.pass_data.Given.{Over}
use Rattle.audit_streams.proofs.streams.pass_data.Goals as goal
use Rattle.audit_streams.proofs.streams.pass_data.Goals.{After-start_at-start, After-hand_on}

module _ (g : Over) (c : After-start_at-start g) where
  start : c.start_at-start.result ≡ start_of (sender_of g.A.Dialogue.meaning c.args.own.now) (segment_in c.args.segment.now)
  start =
      c.start_at-start.ensures ∙ ap (λ (e : Extent). start_at e c.arrival_of-arrival.result) c.extent-old.ensures
      ∙ ap (start_at (extent (sender_of g.A.Dialogue.meaning c.args.own.now))) c.arrival_of-arrival.ensures

module _ (g : Over) (c : After-hand_on g) where
  -- the sender after the segment
  new : sender_of g.A.Dialogue.meaning c.take.new.self ≡ taken (sender_of g.A.Dialogue.meaning c.args.own.now) (segment_in c.args.segment.now)
  new =
      taken_is g.A.Dialogue.meaning c.take.new.self c.args.own.now (segment_in c.args.segment.now) c.start_at-start.result c.payload.result.now
      c.from_place.result.now c.flags_of-fin.result c.in_ok-take.ensures.taken c.from_place.ensures
      (start g (goal.at.After-hand_on g c).After-start_at-start) c.payload.ensures.octets (c.flags_of-fin.ensures ∙ ap flags_of c.flags.ensures)

  -- the receiver
  heard : sender_of g.B.Dialogue.meaning c.acknowledge.new.self
      ≡ acknowledged (sender_of g.B.Dialogue.meaning c.args.other.now) (segment_in c.args.segment.now)
  heard =
      acknowledged_is g.B.Dialogue.meaning c.acknowledge.new.self c.args.other.now (segment_in c.args.segment.now) c.extent.result
      c.arrival_of-arrival.result c.place_acknowledged.result c.acknowledge.ensures c.place_acknowledged.ensures c.extent.ensures
      c.arrival_of-arrival.ensures

pub take-requires : goal.take-requires
take-requires g c =
    let s : Segment = segment_in c.args.segment.now in
    record {
      limit = few_taken (sender_of g.A.Dialogue.meaning c.args.own.now) s c.start_at-start.result c.payload.result.now c.from_place.result.now
          c.requires.can c.from_place.ensures (start g (goal.at.take-requires g c).After-start_at-start) c.payload.ensures.octets;
    }

pub hand_on-requires-clause-within : goal.hand_on-requires-clause-within
hand_on-requires-clause-within g c =
    let m : Meaning = g.A.Dialogue.meaning c.take.new.self.dialogue in
    let new : Sender = sender_of g.A.Dialogue.meaning c.take.new.self in
    let s : Segment = segment_in c.args.segment.now in
    omega (
      arith,
      c.going_out-going.ensures.past,
      high-le c.extent-old.result new c.start_at-start.result (length s.octets) s.flags.fin,
      length-due-le m (g.met.A.Dialogue.lawful c.take.new.self.dialogue) new.ended new.octets,
    )

pub returns-clause-own : goal.returns-clause-own
returns-clause-own g c = on_ok c.hand_on.result _ (new g (goal.at.returns-clause-own g c).After-hand_on)

pub returns-clause-other : goal.returns-clause-other
returns-clause-other g c = on_ok c.hand_on.result _ (heard g (goal.at.returns-clause-other g c).After-hand_on)

pub returns-clause-sent : goal.returns-clause-sent
returns-clause-sent g c =
    let a : Sender = sender_of g.A.Dialogue.meaning c.args.own.now in
    let b : Sender = sender_of g.B.Dialogue.meaning c.args.other.now in
    let s : Segment = segment_in c.args.segment.now in
    let here : After-hand_on g = (goal.at.returns-clause-sent g c).After-hand_on in
    let ack : c.acknowledgement_to-acknowledgement.result ≡ acknowledgement_to (standing (acknowledged b s)) =
    c.acknowledgement_to-acknowledgement.ensures ∙ ap (λ (x : Sender). acknowledgement_to (standing x)) (heard g here) in
    let is = sym c.going_out-going.ensures.sent
    ∙ data_is a (sender_of g.A.Dialogue.meaning c.take.new.self) s c.extent-old.result c.start_at-start.result
    c.acknowledgement_to-acknowledgement.result (acknowledgement_to (standing (acknowledged b s))) c.args.limit (limit_of b.mss s)
    c.extent-old.ensures (start g (goal.at.returns-clause-sent g c).After-start_at-start) (new g here) ack c.requires.limit in
    subst (λ (x : Sent). IfOk c.hand_on.result (λ r. r ≡ handed x false)) is c.hand_on.ensures
