use Rattle.std.proofs.Common.{◌+◌, max, ◌&&◌, Some, [], ◌∷◌, sym, ap, subst, refl, ◌∙◌, ℕ}
use Rattle.std.proofs.lemmas.Bool.{and_parts}
use Rattle.tcp_segments.specs.Prelude.{Tcp, flags_of}
use Rattle.tcp_tracker.specs.Prelude.{timeout_of, noted}
use Rattle.tcp_tracker.specs.declared.connection.ConnKey.{ConnKey}
use Rattle.binding_table.specs.Prelude.{after_uses}
use Rattle.gate_model.specs.Prelude.{Stream, is_tracked_port, tcp_of, is_opening, key_in, stepped, uses_until, Tracked}
use Rattle.event_segments.specs.Prelude.{image_of, world_of, AreCalled, Enters, made_on, stream_refusal}
use Rattle.event_segments.proofs.SegmentTests.{made_called, made_enters, joined_refused, full_refused, empty_refused, few_sessions}
use Rattle.event_segments.proofs.SegmentsPassed.{session_begins, begun, passes}
use Rattle.event_state.specs.Engines.{IsStepped}
use Rattle.event_state.specs.Given.{IsGiven, given_by}
use Rattle.event_state.specs.Knowing.{world_in}
use Rattle.event_state.specs.declared.taken.Taken.TheVariants.{Cut}
use Rattle.event_state.proofs.FirstSegments.{first_begins, made_passes, begun_goes_on}
use Rattle.event_state.proofs.Lost.{lost_at_first, lost_done}
use Rattle.event_state.proofs.state.State.take_first.Goals as goal

pub returns-in-Some : goal.returns-in-Some
returns-in-Some g c =
    let way = c.args.way.now in
    let d = c.args.segment.now.datagram.now in
    let live = world_in c.args.self.now in
    let first = first_begins g.S.Session.rules c.requires.on.laws live way d c.args.key.now c.args.segment.now.tcp.now c.pair_on-pair.result
    c.opening_refusal.result c.requires.on.key c.requires.absent c.requires.on.whole.tcp_is c.requires.first c.pair_on-pair.ensures
    c.opening_refusal.ensures in
    record {
      answer = joined_refused g.S.Session.rules live way.side d way _ _ c.in-Some.refusal c.requires.on.way first.joined (first.told
          ∙ c.in-Some.is);
      left = refl {a = live};
      gone = ap g.S.Engine.gives.tells.whole c.requires.on.empty;
    }

pub returns-then-is_full : goal.returns-then-is_full
returns-then-is_full g c =
    let way = c.args.way.now in
    let d = c.args.segment.now.datagram.now in
    let live = world_in c.args.self.now in
    let first = first_begins g.S.Session.rules c.requires.on.laws live way d c.args.key.now c.args.segment.now.tcp.now c.pair_on-pair.result
    c.opening_refusal.result c.requires.on.key c.requires.absent c.requires.on.whole.tcp_is c.requires.first c.pair_on-pair.ensures
    c.opening_refusal.ensures in
    record {
      answer = full_refused g.S.Session.rules live way.side d way _ _ c.requires.on.way first.joined (first.told
          ∙ c.in_default.is) (first.full c.in_default.is ∙ sym c.is_full.ensures ∙ c.if-is_full.true);
      left = refl {a = live};
      gone =
          ap g.S.Engine.gives.tells.whole c.requires.on.empty;
    }

pub returns-then-lacks_alias : goal.returns-then-lacks_alias
returns-then-lacks_alias g c =
    let way = c.args.way.now in
    let d = c.args.segment.now.datagram.now in
    let live = world_in c.args.self.now in
    let first = first_begins g.S.Session.rules c.requires.on.laws live way d c.args.key.now c.args.segment.now.tcp.now c.pair_on-pair.result
    c.opening_refusal.result c.requires.on.key c.requires.absent c.requires.on.whole.tcp_is c.requires.first c.pair_on-pair.ensures
    c.opening_refusal.ensures in
    record {
      answer = empty_refused g.S.Session.rules live way.side d way _ _ c.requires.on.way first.joined (first.told ∙ c.in_default.is)
          (first.full c.in_default.is ∙ sym c.is_full.ensures ∙ c.if-is_full.false) (sym c.lacks_alias.ensures ∙ c.if-lacks_alias.true);
      left =
          refl {a = live};
      gone = ap g.S.Engine.gives.tells.whole c.requires.on.empty;
    }

pub take-requires-clause-enters : goal.take-requires-clause-enters
take-requires-clause-enters g c =
    let way = c.args.way.now in
    let d = c.args.segment.now.datagram.now in
    let tcp = c.args.segment.now.tcp.now in
    subst (λ images. Enters g.S.Session.rules way.side d c.in_ok-tracked.tracked [] images) (sym c.new.ensures.items)
    (subst (λ (t : Tracked g.row.S.Denot). Enters g.S.Session.rules way.side d t [] []) (sym c.in_ok-tracked.ensures)
    (made_enters g.S.Session.rules c.requires.on.laws.lists way tcp d (image_of g.S.Session.rules (world_in c.args.self.now) way.side d)
    c.requires.on.whole.tcp_is (and_parts (is_opening tcp.flags) (is_tracked_port tcp.destination_port) c.requires.first).0
    (made_passes g.S.Session.rules c.requires.on.laws way c.pair_on-pair.result tcp d c.opening_refusal.result c.requires.on.whole.tcp_is
    c.opening_refusal.ensures c.in_default.is)))

pub open-requires-clause-flags : goal.open-requires-clause-flags
open-requires-clause-flags g c =
    let way = c.args.way.now in
    let d = c.args.segment.now.datagram.now in
    let live = world_in c.args.self.now in
    let first = first_begins g.S.Session.rules c.requires.on.laws live way d c.args.key.now c.args.segment.now.tcp.now c.pair_on-pair.result
    c.opening_refusal.result c.requires.on.key c.requires.absent c.requires.on.whole.tcp_is c.requires.first c.pair_on-pair.ensures
    c.opening_refusal.ensures in
    ap (λ (n : ℕ). (flags_of n).reset) (c.flags-flags.ensures ∙ ap (λ (t : Tcp). t.flags) c.requires.on.whole.tcp_is) ∙ first.plain c.in_default.is

pub open-requires-clause-sessions : goal.open-requires-clause-sessions
open-requires-clause-sessions g c = few_sessions _ _ (sym c.is_full.ensures ∙ c.if-is_full.false)

pub returns : goal.returns
returns g c =
    let way = c.args.way.now in
    let d = c.args.segment.now.datagram.now in
    let live = world_in c.args.self.now in
    let first = first_begins g.S.Session.rules c.requires.on.laws live way d c.args.key.now c.args.segment.now.tcp.now c.pair_on-pair.result
    c.opening_refusal.result c.requires.on.key c.requires.absent c.requires.on.whole.tcp_is c.requires.first c.pair_on-pair.ensures
    c.opening_refusal.ensures in
    let side = way.side in
    let image = image_of g.S.Session.rules live side d in
    let flags = c.flags-flags.ensures ∙ ap (λ (t : Tcp). t.flags) c.requires.on.whole.tcp_is in
    let tracked = c.in_ok-tracked.ensures ∙ ap (made_on g.S.Session.rules way) c.requires.on.whole.tcp_is in
    let tcp = c.args.segment.now.tcp.now in
    let called = subst (λ (t : Tracked g.row.S.Denot). AreCalled g.S.Session.rules image side d t []) (sym c.in_ok-tracked.ensures)
    (made_called g.S.Session.rules c.requires.on.laws.lists way tcp d image c.requires.on.whole.tcp_is
    (and_parts (is_opening tcp.flags) (is_tracked_port tcp.destination_port) c.requires.first).0) in
    let did =
    subst (λ (t : Tracked g.row.S.Denot). IsStepped g.S.Session.rules g.S.Engine.gives image way d t c.in_ok-stepped.stepped c.take.new.outbox)
    tracked (c.in_ok-stepped.ensures.stepped image called) in
    let timeout = c.timeout_of-timeout.ensures.is
    ∙ ap (λ (k : ConnKey). timeout_of c.args.self.now.connections k side c.flags-flags.result) c.requires.on.key
    ∙ ap (timeout_of c.args.self.now.connections (key_in c.args.self.now.table side d) side) flags in
    subst (λ (n : ℕ). IsGiven g.S.Session.rules g.S.Engine.gives (stream_refusal g.S.Session.rules live side d) Stream live side d
    (Cut c.in_ok-stepped.stepped.sent) (world_of c.args.self.now.clock.0 c.use_both.new.table c.open.new.self n) c.take.new.outbox)
    (sym (c.max-self.ensures ∙ ap (max c.args.self.now.pending) c.unwrap_or.ensures))
    (session_begins g.S.Session.rules g.S.Engine.gives.tells live way d c.in_ok-stepped.stepped.waiting _ c.use_both.new.table c.open.new.self
    (given_by g.S.Engine.gives (Cut c.in_ok-stepped.stepped.sent) c.take.new.outbox) c.requires.on.way first.none first.joined
    (first.full c.in_default.is ∙ sym c.is_full.ensures ∙ c.if-is_full.false) (first.told ∙ c.in_default.is)
    (first.plain c.in_default.is) (begun_goes_on g.S.Session.rules c.requires.on.laws way d (first.plain c.in_default.is)) (sym c.lacks_alias.ensures
    ∙ c.if-lacks_alias.false) did.waits
    (c.use_both.ensures
    ∙ ap (λ (n : ℕ). after_uses c.args.self.now.table (uses_until side (way.moment.0 + n) (way.source ∷ way.destination ∷ []))) timeout)
    (c.open.ensures
    ∙ ap (λ (k : ConnKey). noted c.args.self.now.connections k side c.flags-flags.result (Some c.take.new.tracked) way.moment) c.requires.on.key
    ∙ ap (λ (n : ℕ). noted c.args.self.now.connections (key_in c.args.self.now.table side d) side n (Some c.take.new.tracked) way.moment) flags
    ∙ ap (λ (t : Tracked g.row.S.Denot). noted c.args.self.now.connections (key_in c.args.self.now.table side d) side (tcp_of d).flags
    (Some t) way.moment) (c.in_ok-stepped.ensures.next image called ∙ ap (stepped g.S.Session.rules image side d) tracked))
    did.gone)

pub returns-in_err-tracked : goal.returns-in_err-tracked
returns-in_err-tracked g c =
    let way = c.args.way.now in
    let d = c.args.segment.now.datagram.now in
    let live = world_in c.args.self.now in
    let first = first_begins g.S.Session.rules c.requires.on.laws live way d c.args.key.now c.args.segment.now.tcp.now c.pair_on-pair.result
    c.opening_refusal.result c.requires.on.key c.requires.absent c.requires.on.whole.tcp_is c.requires.first c.pair_on-pair.ensures
    c.opening_refusal.ensures in
    lost_done g.S.Session.rules g.S.Engine.gives live way.side d c.from_residual.result live c.args.outbox.now c.from_residual.ensures.0 (
    lost_at_first g.S.Session.rules g.S.Engine.gives live way.side d live c.args.outbox.now
    (begun live way.side d first.none (ap (λ (t : Tcp). is_opening t.flags && is_tracked_port t.destination_port) (sym c.requires.on.whole.tcp_is)
    ∙ c.requires.first))
    (passes g.S.Session.rules live way.side d way _ _ c.requires.on.way first.joined (first.told ∙ c.in_default.is) (first.full c.in_default.is
    ∙ sym c.is_full.ensures ∙ c.if-is_full.false) (sym c.lacks_alias.ensures ∙ c.if-lacks_alias.false))
    (λ keeps. refl {a = live}) (λ keeps. c.requires.on.empty))

pub returns-in_err-stepped : goal.returns-in_err-stepped
returns-in_err-stepped g c =
    let way = c.args.way.now in
    let d = c.args.segment.now.datagram.now in
    let live = world_in c.args.self.now in
    let first = first_begins g.S.Session.rules c.requires.on.laws live way d c.args.key.now c.args.segment.now.tcp.now c.pair_on-pair.result
    c.opening_refusal.result c.requires.on.key c.requires.absent c.requires.on.whole.tcp_is c.requires.first c.pair_on-pair.ensures
    c.opening_refusal.ensures in
    lost_done g.S.Session.rules g.S.Engine.gives live way.side d c.from_residual-in_err-stepped.result live c.take.new.outbox
    c.from_residual-in_err-stepped.ensures.0 (
    lost_at_first g.S.Session.rules g.S.Engine.gives live way.side d live c.take.new.outbox
    (begun live way.side d first.none (ap (λ (t : Tcp). is_opening t.flags && is_tracked_port t.destination_port) (sym c.requires.on.whole.tcp_is)
    ∙ c.requires.first))
    (passes g.S.Session.rules live way.side d way _ _ c.requires.on.way first.joined (first.told ∙ c.in_default.is) (first.full c.in_default.is
    ∙ sym c.is_full.ensures ∙ c.if-is_full.false) (sym c.lacks_alias.ensures ∙ c.if-lacks_alias.false))
    (λ keeps. refl {a = live}) c.in_err-stepped.ensures.lost.nothing)
