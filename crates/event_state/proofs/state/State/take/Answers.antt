use Rattle.std.proofs.Common.{◌∙◌, Ok, ap, refl, subst, sym}
use Rattle.verdicts.specs.Prelude.{first_that_holds}
use Rattle.event_frame.specs.Judged.{IsContentOf}
use Rattle.gate_model.specs.Prelude.{kind_of, carried, address_tests, world_tests}
use Rattle.event_payloads.specs.Prelude.{IsWayOf, way_tests}
use Rattle.twice_translate.specs.Renamed.{datagram_of}
use Rattle.event_segments.specs.Prelude.{world_of}
use Rattle.event_segments.proofs.Taking.{allowed, way_is, refused_way, way_plain, udp_like}
use Rattle.event_state.specs.Knowing.{world_in}
use Rattle.event_state.specs.Lost.{IsDone}
use Rattle.event_state.proofs.Wholes.{udp_done, icmp_done, tcp_done}
use Rattle.event_state.proofs.state.State.take.Goals as goal

pub returns-in-Some : goal.returns-in-Some
returns-in-Some g c =
    let live = world_in c.args.self.now in
    let d = c.args.frame.now.datagram in
    let way =
    way_is live c.args.side d c.args.self.now.clock c.of-way.result c.source.result c.destination.result c.source.ensures c.destination.ensures
    c.of-way.ensures in
    record {
      answer =
          refused_way g.S.Session.rules live c.args.side d c.in-Some.refusal
          (ap (λ w. first_that_holds (way_tests c.args.self.now.table w)) (sym way) ∙ sym c.address_refusal.ensures ∙ c.in-Some.is);
      left = refl {a = live};
      gone = ap g.S.Engine.gives.tells.whole c.requires.empty;
    }

pub take_udp-requires-clause-way : goal.take_udp-requires-clause-way
take_udp-requires-clause-way g c =
    let live = world_in c.args.self.now in
    let d = c.args.frame.now.datagram in
    let a = allowed live c.args.side d c.args.self.now.clock c.of-way.result c.source.result c.destination.result refl c.source.ensures
    c.destination.ensures c.of-way.ensures (sym c.address_refusal.ensures ∙ c.in_default.is) in
    way_plain live c.of-way.result.side (datagram_of c.args.frame.now.octets.now) c.of-way.result
    (subst (λ x. IsWayOf live c.of-way.result.side x c.of-way.result) (sym c.requires.judged.same) a.of)

pub take_udp-requires-clause-whole : goal.take_udp-requires-clause-whole
take_udp-requires-clause-whole g c =
    let content = subst (λ x. IsContentOf c.args.frame.now.datagram x) c.in-Udp.is c.requires.judged.content_is in
    record {
      few = c.requires.judged.few;
      can = c.requires.judged.can;
      protocol = ap (λ d. d.protocol) c.requires.judged.same ∙ content.0;
      same = c.payload.ensures ∙ ap (λ v. v.payload) content.1 ∙ ap carried (sym c.requires.judged.same);
    }

pub take_icmp-requires-clause-way : goal.take_icmp-requires-clause-way
take_icmp-requires-clause-way g c =
    let live = world_in c.args.self.now in
    let d = c.args.frame.now.datagram in
    let a = allowed live c.args.side d c.args.self.now.clock c.of-way.result c.source.result c.destination.result refl c.source.ensures
    c.destination.ensures c.of-way.ensures (sym c.address_refusal.ensures ∙ c.in_default.is) in
    subst (λ x. IsWayOf live c.of-way.result.side x c.of-way.result) (sym c.requires.judged.same) a.of

pub take_segment-requires-clause-way : goal.take_segment-requires-clause-way
take_segment-requires-clause-way g c =
    let live = world_in c.args.self.now in
    let d = c.args.frame.now.datagram in
    let a = allowed live c.args.side d c.args.self.now.clock c.of-way.result c.source.result c.destination.result refl c.source.ensures
    c.destination.ensures c.of-way.ensures (sym c.address_refusal.ensures ∙ c.in_default.is) in
    a.of

pub take_segment-requires-clause-whole : goal.take_segment-requires-clause-whole
take_segment-requires-clause-whole g c =
    let content = subst (λ x. IsContentOf c.args.frame.now.datagram x) c.in-Tcp.is c.requires.judged.content_is in
    record { same = c.requires.judged.same; few = c.requires.judged.few; can = c.requires.judged.can; tcp_is = content.1 }

pub returns-in-Udp : goal.returns-in-Udp
returns-in-Udp g c =
    let live = world_in c.args.self.now in
    let d = c.args.frame.now.datagram in
    let one = datagram_of c.args.frame.now.octets.now in
    let way = c.of-way.result in
    let table = c.take_udp.new.table in
    let a = allowed live c.args.side d c.args.self.now.clock c.of-way.result c.source.result c.destination.result refl c.source.ensures
    c.destination.ensures c.of-way.ensures (sym c.address_refusal.ensures ∙ c.in_default.is) in
    let content = subst (λ x. IsContentOf d x) c.in-Udp.is c.requires.judged.content_is in
    let on = subst (λ x. IsWayOf live way.side x way) (sym c.requires.judged.same) a.of in
    let after = world_of c.args.self.now.clock.0 table c.args.self.now.connections c.args.self.now.pending in
    subst (λ r. IsDone g.S.Session.rules g.S.Engine.gives (first_that_holds (world_tests g.S.Session.rules live c.args.side live.clock d (kind_of d)))
    (first_that_holds (address_tests live.table c.args.side d)) live c.args.side d r after c.take_udp.new.outbox) (sym c.whole_of.ensures)
    (udp_done g.S.Session.rules g.S.Engine.gives live
    (world_of c.args.self.now.clock.0 table c.args.self.now.connections c.args.self.now.pending) c.args.side one d way c.take_udp.result table
    c.take_udp.new.outbox a c.requires.judged.same content.0
    refl (udp_like g.S.Session.rules live way.side one way c.take_udp.result table c.take_udp.new.outbox on c.take_udp.ensures.taken)
    c.take_udp.ensures.memory c.take_udp.ensures.wants)

pub returns-in-Icmp : goal.returns-in-Icmp
returns-in-Icmp g c =
    let live = world_in c.args.self.now in
    let d = c.args.frame.now.datagram in
    let a = allowed live c.args.side d c.args.self.now.clock c.of-way.result c.source.result c.destination.result refl c.source.ensures
    c.destination.ensures c.of-way.ensures (sym c.address_refusal.ensures ∙ c.in_default.is) in
    let content = subst (λ x. IsContentOf d x) c.in-Icmp.is c.requires.judged.content_is in
    subst (λ t. IsDone g.S.Session.rules g.S.Engine.gives (first_that_holds (world_tests g.S.Session.rules live c.args.side live.clock d (kind_of d)))
    (first_that_holds (address_tests live.table c.args.side d)) live c.args.side d (Ok t) (world_in c.take_icmp.new.self) c.take_icmp.new.outbox)
    (sym c.whole.ensures)
    (icmp_done g.S.Session.rules g.S.Engine.gives live
    (world_in c.take_icmp.new.self) c.args.side _ d c.of-way.result c.take_icmp.result c.take_icmp.new.self.table c.take_icmp.new.outbox a
    c.requires.judged.same content.0 content.1
    (ap world_in c.take_icmp.ensures.rest) c.take_icmp.ensures.taken)

pub returns-in-Tcp : goal.returns-in-Tcp
returns-in-Tcp g c =
    let live = world_in c.args.self.now in
    let d = c.args.frame.now.datagram in
    let a = allowed live c.args.side d c.args.self.now.clock c.of-way.result c.source.result c.destination.result refl c.source.ensures
    c.destination.ensures c.of-way.ensures (sym c.address_refusal.ensures ∙ c.in_default.is) in
    let content = subst (λ x. IsContentOf d x) c.in-Tcp.is c.requires.judged.content_is in
    tcp_done g.S.Session.rules g.S.Engine.gives live
    (world_in c.take_segment.new.self) c.args.side d c.of-way.result c.take_segment.result c.take_segment.new.outbox a content.0
    c.take_segment.ensures
