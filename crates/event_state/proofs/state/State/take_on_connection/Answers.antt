use Rattle.std.proofs.Common.{◌≡◌, false, None, is_some, sym, ap, subst, refl, ◌∙◌}
use Rattle.tcp_tracker.specs.Prelude.{connection_of}
use Rattle.tcp_tracker.specs.declared.connection.ConnKey.{ConnKey}
use Rattle.gate_model.specs.Prelude.{found_in, Stream}
use Rattle.event_segments.proofs.ListedBound.{listed_bound, header_bound}
use Rattle.event_segments.proofs.SegmentTests.{found_joined, place_found}
use Rattle.event_segments.proofs.SegmentsPassed.{untracked_by}
use Rattle.event_segments.specs.Prelude.{world_of, stream_refusal}
use Rattle.event_state.specs.Given.{IsGiven}
use Rattle.event_state.specs.Knowing.{world_in}
use Rattle.event_state.proofs.Lost.{lost_at_units}
use Rattle.event_state.proofs.Wholes.{as_whole}
use Rattle.event_state.proofs.state.State.take_on_connection.Goals as goal

pub look_up-found-requires-clause-header : goal.look_up-found-requires-clause-header
look_up-found-requires-clause-header g c = header_bound (world_in c.args.self.now) c.args.segment.now.datagram.now c.args.way.now c.requires.on.way

pub look_up-found-requires-clause-listed : goal.look_up-found-requires-clause-listed
look_up-found-requires-clause-listed g c =
    λ t e. listed_bound g.S.Session.rules (world_in c.args.self.now) c.args.way.now.side c.args.key.now t c.requires.listed e

pub take_beginning-requires-clause-absent : goal.take_beginning-requires-clause-absent
take_beginning-requires-clause-absent g c =
    let live = world_in c.args.self.now in
    let none : found_in live c.args.way.now.side c.args.segment.now.datagram.now ≡ None =
    c.in-Absent.ensures live refl refl c.requires.listed.lawful c.requires.on.key c.requires.on.way in
    ap (λ (k : ConnKey). connection_of k c.args.self.now.connections) c.requires.on.key ∙ none

pub returns-in-Untracked : goal.returns-in-Untracked
returns-in-Untracked g c =
    let way = c.args.way.now in
    let d = c.args.segment.now.datagram.now in
    let live = world_in c.args.self.now in
    let after = world_of c.args.self.now.clock.0 c.take_untracked.new.table c.take_untracked.new.connections c.args.self.now.pending in
    let found = c.in-Untracked.ensures live refl refl c.requires.listed.lawful c.requires.on.key c.requires.on.way in
    let there = found.0 in
    let lone = found.1 in
    let passed = untracked_by g.S.Session.rules g.S.Engine.gives.tells live way d c.args.key.now c.args.segment.now.tcp.now
    c.args.segment.now.octets.now false c.take_untracked.result c.take_untracked.new.table c.take_untracked.new.connections
    (g.S.Engine.gives.tells.whole c.take_untracked.new.outbox)
    c.requires.on.way c.requires.on.key c.requires.on.whole.tcp_is c.requires.on.whole.same
    (place_found c.args.self.now.connections (connection_of c.args.key.now c.args.self.now.connections) c.args.segment.now.tcp.now.flags
    (ap (λ (k : ConnKey). is_some (connection_of k c.args.self.now.connections)) c.requires.on.key ∙ there))
    (found_joined g.S.Session.rules live way.side d there lone) lone
    c.take_untracked.ensures.refusal c.take_untracked.ensures.table c.take_untracked.ensures.connections
    (ap g.S.Engine.gives.tells.whole c.take_untracked.ensures.out) in
    subst (λ t. IsGiven g.S.Session.rules g.S.Engine.gives
    (stream_refusal g.S.Session.rules live way.side d) Stream live way.side d t after c.take_untracked.new.outbox) (sym c.whole.ensures)
    (as_whole g.S.Session.rules g.S.Engine.gives
    (stream_refusal g.S.Session.rules live way.side d) Stream live way.side d c.take_untracked.result after c.take_untracked.new.outbox passed)

pub returns-in-Refused : goal.returns-in-Refused
returns-in-Refused g c =
    let live = world_in c.args.self.now in
    record {
      answer = sym (c.in-Refused.ensures live refl refl c.requires.listed.lawful c.requires.on.key c.requires.on.way);
      left = refl {a = live};
      gone = ap g.S.Engine.gives.tells.whole c.requires.on.empty;
    }

pub returns-in-Lost : goal.returns-in-Lost
returns-in-Lost g c =
    let live = world_in c.args.self.now in
    lost_at_units g.S.Session.rules g.S.Engine.gives live c.args.way.now.side c.args.segment.now.datagram.now live c.args.outbox.now
    (c.in-Lost.ensures live refl refl c.requires.listed.lawful c.requires.on.key c.requires.on.way) (λ keeps. refl {a = live})
    (λ keeps. c.requires.on.empty)

pub take_by_session-requires-clause-plan : goal.take_by_session-requires-clause-plan
take_by_session-requires-clause-plan g c =
    c.in-Tracked.ensures (world_in c.args.self.now) refl refl c.requires.listed.lawful c.requires.on.key c.requires.on.way
