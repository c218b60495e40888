use Rattle.std.proofs.Common.{ap, refl, subst, sym}
use Rattle.gate_base.specs.Prelude.{event_of}
use Rattle.verdicts.specs.Prelude.{first_that_holds}
use Rattle.event_frame.specs.Frames.{IsJudged}
use Rattle.gate_model.specs.Prelude.{datagram_in, kind_of, tests, address_tests, world_tests}
use Rattle.event_segments.proofs.Stepping.{first_world, first_front}
use Rattle.event_state.specs.Knowing.{world_in}
use Rattle.event_state.specs.Lost.{IsDone}
use Rattle.event_state.proofs.Early.{first_early}
use Rattle.event_state.proofs.state.State.take_frame.Goals as goal

pub take-requires-clause-judged : goal.take-requires-clause-judged
take-requires-clause-judged g c =
    subst (λ d. IsJudged c.in-Ok.frame.octets.now d c.in-Ok.frame.content) (sym c.in-Ok.ensures.datagram_is) c.in-Ok.ensures.judged

pub returns-in-Ok : goal.returns-in-Ok
returns-in-Ok g c =
    let e = event_of c.args.event.now in
    let live = world_in c.args.self.now in
    let after = world_in c.take.new.self in
    let h = subst (λ d. IsDone g.S.Session.rules g.S.Engine.gives
    (first_that_holds (world_tests g.S.Session.rules live e.side live.clock d (kind_of d))) (first_that_holds (address_tests live.table e.side d))
    live e.side d c.take.result after c.take.new.outbox) c.in-Ok.ensures.datagram_is c.take.ensures in
    let told = subst (λ o. IsDone g.S.Session.rules g.S.Engine.gives o (first_that_holds (address_tests live.table e.side (datagram_in e))) live
    e.side (datagram_in e) c.take.result after c.take.new.outbox)
    (first_world g.S.Session.rules live e (ap (λ m. m.0) c.requires.clock) c.in-Ok.ensures.none) h in
    subst (λ o. IsDone g.S.Session.rules g.S.Engine.gives (first_that_holds (tests g.S.Session.rules live e)) o live e.side
    (datagram_in e) c.take.result after c.take.new.outbox) (first_early live e c.in-Ok.ensures.none) told

pub returns-in-Err : goal.returns-in-Err
returns-in-Err g c =
    let e = event_of c.args.event.now in
    let live = world_in c.args.self.now in
    record {
      answer = first_front g.S.Session.rules live e c.in-Err.refusal c.in-Err.ensures;
      left = refl {a = live};
      gone =
          ap g.S.Engine.gives.tells.whole c.requires.empty;
    }
