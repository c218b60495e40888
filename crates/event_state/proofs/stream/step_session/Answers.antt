use Rattle.std.proofs.Common.{◌≡◌, Some, sym, ap, subst, ◌∙◌, IfOk}
use Rattle.std.proofs.lemmas.Result.{on_ok_weaker, on_err_weaker}
use Rattle.tcp_tracker.specs.Prelude.{replaced}
use Rattle.gate_model.specs.Prelude.{stepped, segment_of, Tracked, host_on}
use Rattle.event_segments.specs.Prelude.{AreCalled}
use Rattle.event_segments.proofs.NotedConnections.{replaced_same}
use Rattle.event_state.specs.Engines.{IsStepped}
use Rattle.event_state.proofs.stream.step_session.Goals as goal

pub take-requires-clause-enters : goal.take-requires-clause-enters
take-requires-clause-enters g c = c.requires.enters c.in-Some.tracked.now (sym c.in-Some.ensures.value)

pub returns-in-Some-clause-next : goal.returns-in-Some-clause-next
returns-in-Some-clause-next g c = λ image t e called.
    let is : Some c.in-Some.tracked.now ≡ Some t = c.in-Some.ensures.value ∙ e in
    let same : c.in-Some.tracked.now ≡ t = cc in
    let side = c.args.on.way.now.side in
    let d = c.args.on.segment.now.datagram.now in
    on_ok_weaker c.take.result (λ n. ap (replaced c.args.connections.now c.args.on.key.now) (n ∙ ap (stepped g.S.Session.rules image side d) same))
    (c.take.ensures.next image
    (subst (λ (x : Tracked g.row.S.Denot). AreCalled g.S.Session.rules image side d x c.args.completed.entries.now) (sym same) called))

pub returns-in-Some-clause-stepped : goal.returns-in-Some-clause-stepped
returns-in-Some-clause-stepped g c = λ image t e called.
    let is : Some c.in-Some.tracked.now ≡ Some t = c.in-Some.ensures.value ∙ e in
    let same : c.in-Some.tracked.now ≡ t = cc in
    let way = c.args.on.way.now in
    let d = c.args.on.segment.now.datagram.now in
    subst (λ (x : Tracked g.row.S.Denot). IfOk c.take.result (λ s. IsStepped g.S.Session.rules g.S.Engine.gives image way d x s c.take.new.outbox))
    same (c.take.ensures.stepped image
    (subst (λ (x : Tracked g.row.S.Denot). AreCalled g.S.Session.rules image way.side d x c.args.completed.entries.now) (sym same) called))

pub returns-in-Some-clause-lost : goal.returns-in-Some-clause-lost
returns-in-Some-clause-lost g c = λ t e.
    let is : Some c.in-Some.tracked.now ≡ Some t = c.in-Some.ensures.value ∙ e in
    let same : c.in-Some.tracked.now ≡ t = cc in
    on_err_weaker c.take.result (λ lost. record {
      same = λ keeps. ap (replaced c.args.connections.now c.args.on.key.now) (lost.same keeps)
          ∙ replaced_same c.args.on.key.now c.args.connections.now c.in-Some.tracked.now (sym c.in-Some.ensures.value);
      nothing = lost.nothing;
      wants = subst
          (λ (x : Tracked g.row.S.Denot). g.S.Engine.gives.MayWant (host_on c.args.on.way.now.side x) x.session
          (segment_of c.args.on.segment.now.datagram.now)) same lost.wants;
    }) c.take.ensures.lost
