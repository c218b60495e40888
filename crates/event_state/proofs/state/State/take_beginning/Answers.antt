use Rattle.std.proofs.Common.{◌&&◌, ◌||◌, not, Option, None, refl, subst, sym, ap, ◌∙◌}
use Rattle.tcp_segments.specs.Prelude.{Tcp}
use Rattle.tcp_tracker.specs.Prelude.{connection_of}
use Rattle.tcp_tracker.specs.declared.connection.ConnKey.{ConnKey}
use Rattle.tcp_tracker.specs.declared.connection.Connection.{Connection}
use Rattle.gate_model.specs.Prelude.{is_tracked_port, tcp_of, is_opening, session_in, lacks_session, Tracked, Stream}
use Rattle.event_segments.specs.Prelude.{lacks_place, world_of, stream_refusal}
use Rattle.event_segments.proofs.SegmentTests.{new_joined, refused_beginning}
use Rattle.event_segments.proofs.SegmentsPassed.{untracked_by}
use Rattle.event_state.specs.Given.{IsGiven}
use Rattle.event_state.specs.Knowing.{world_in}
use Rattle.event_state.proofs.Wholes.{as_whole}
use Rattle.event_state.proofs.state.State.take_beginning.Goals as goal

pub returns : goal.returns
returns g c =
    let way = c.args.way.now in
    let d = c.args.segment.now.datagram.now in
    let tcp = c.args.segment.now.tcp.now in
    let live = world_in c.args.self.now in
    let none = ap (λ (k : ConnKey). connection_of k c.args.self.now.connections) (sym c.requires.on.key) ∙ c.requires.absent in
    let after = world_of c.args.self.now.clock.0 c.take_untracked.new.table c.take_untracked.new.connections c.args.self.now.pending in
    let passed = untracked_by g.S.Session.rules g.S.Engine.gives.tells live way d c.args.key.now tcp c.args.segment.now.octets.now
    (lacks_place c.args.self.now.connections None (tcp_of d).flags) c.take_untracked.result c.take_untracked.new.table
    c.take_untracked.new.connections (g.S.Engine.gives.tells.whole c.take_untracked.new.outbox)
    c.requires.on.way c.requires.on.key c.requires.on.whole.tcp_is c.requires.on.whole.same
    (ap (λ (o : Option (Connection (Tracked g.row.S.Denot))). lacks_place c.args.self.now.connections o tcp.flags) c.requires.absent
    ∙ ap (λ (t : Tcp). lacks_place c.args.self.now.connections None t.flags) c.requires.on.whole.tcp_is)
    (new_joined g.S.Session.rules live way.side d none
    (ap (λ (t : Tcp). (is_tracked_port t.source_port || is_tracked_port t.destination_port) && not (is_opening t.flags))
    (sym c.requires.on.whole.tcp_is) ∙ sym c.is_late.ensures ∙ c.if-is_late.false)
    (ap (λ (t : Tcp). is_opening t.flags && is_tracked_port t.destination_port) (sym c.requires.on.whole.tcp_is) ∙ sym c.is_first.ensures
    ∙ c.if-is_first.false))
    (ap session_in none)
    c.take_untracked.ensures.refusal c.take_untracked.ensures.table c.take_untracked.ensures.connections
    (ap g.S.Engine.gives.tells.whole c.take_untracked.ensures.out) in
    subst (λ t. IsGiven g.S.Session.rules g.S.Engine.gives
    (stream_refusal g.S.Session.rules live way.side d) Stream live way.side d t after c.take_untracked.new.outbox) (sym c.whole.ensures)
    (as_whole g.S.Session.rules g.S.Engine.gives
    (stream_refusal g.S.Session.rules live way.side d) Stream live way.side d c.take_untracked.result after c.take_untracked.new.outbox passed)

pub returns-then-is_late : goal.returns-then-is_late
returns-then-is_late g c =
    let way = c.args.way.now in
    let d = c.args.segment.now.datagram.now in
    let live = world_in c.args.self.now in
    let none = ap (λ (k : ConnKey). connection_of k c.args.self.now.connections) (sym c.requires.on.key) ∙ c.requires.absent in
    record {
      answer = refused_beginning g.S.Session.rules live way.side d
          (ap (λ (o : Option (Connection (Tracked g.row.S.Denot))). lacks_session o d) none
          ∙ ap (λ (t : Tcp). (is_tracked_port t.source_port || is_tracked_port t.destination_port) && not (is_opening t.flags))
          (sym c.requires.on.whole.tcp_is) ∙ sym c.is_late.ensures ∙ c.if-is_late.true);
      left = refl {a = live};
      gone = ap g.S.Engine.gives.tells.whole c.requires.on.empty;
    }
