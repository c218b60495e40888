use Rattle.std.proofs.Common.{◌≡◌, Option, Some, None, List, sym, ap, subst, refl, ◌∙◌, ℕ}
use Rattle.std.proofs.lemmas.Option.{same_Some}
use Rattle.gate_base.specs.declared.host.Host.TheVariants.{Client, Server}
use Rattle.gate_base.specs.declared.address.Addr.{Addr}
use Rattle.gate_base.specs.declared.side.Side.{Side}
use Rattle.ipv4_frames.specs.Ipv4.{Datagram}
use Rattle.tcp_segments.specs.Prelude.{Tcp}
use Rattle.tcp_tracker.specs.Prelude.{connection_of, place_of, timeout_of, noted, without, replaced}
use Rattle.tcp_tracker.specs.declared.connection.TheConstants.{SHORT_TIMEOUT}
use Rattle.tcp_tracker.specs.declared.connection.ConnKey.{ConnKey}
use Rattle.tcp_tracker.specs.declared.connection.Connection.{Connection}
use Rattle.gate_model.specs.Prelude.{key_in, session_in, stepped, Tracked, Stream}
use Rattle.event_segments.specs.Prelude.{AreCalled, image_of, world_of, Enters, stream_refusal}
use Rattle.event_segments.proofs.NotedConnections.{at_place, place_replaced, session_replaced}
use Rattle.event_segments.proofs.SegmentsPassed.{session_goes_on, session_is_over}
use Rattle.event_segments.proofs.SessionUsed.{enters_by, called_by, still_within, planned_used}
use Rattle.event_state.specs.Given.{IsGiven, given_by}
use Rattle.event_state.specs.Knowing.{world_in}
use Rattle.event_state.specs.declared.taken.Taken.TheVariants.{Cut}
use Rattle.event_state.proofs.Lost.{lost_in_session, lost_done}
use Rattle.event_state.proofs.state.State.take_by_session.Given.{Over}
use Rattle.event_state.proofs.state.State.take_by_session.Goals as goal
use Rattle.event_state.proofs.state.State.take_by_session.Goals.{In_ok-stepped}

module _ (g : Over) (c : In_ok-stepped g) where
  abbrev side : Side
  side = c.args.way.now.side

  abbrev d : Datagram
  d = c.args.segment.now.datagram.now

  -- the session that the plan is of, and what it becomes
  abbrev t : Tracked g.row.S.Denot
  t = c.requires.plan.0

  abbrev image : Addr → Option Addr
  image = image_of g.S.Session.rules (world_in c.args.self.now) side d

  abbrev s : Tracked g.row.S.Denot
  s = stepped g.S.Session.rules image side d t

  found : session_in (connection_of c.args.key.now c.args.self.now.connections) ≡ Some t
  found = ap (λ (k : ConnKey). session_in (connection_of k c.args.self.now.connections)) c.requires.on.key ∙ c.requires.plan.1.found

  called : AreCalled g.S.Session.rules image side d t c.deref.result.now
  called = called_by g.S.Session.rules (world_in c.args.self.now) side d t c.args.plan c.deref.result.now c.requires.plan.1 c.deref.ensures.value

  next : c.step_session.new.connections ≡ replaced c.args.self.now.connections c.args.key.now s
  next = c.in_ok-stepped.ensures.next image t found called

  there : session_in (connection_of c.args.key.now c.step_session.new.connections) ≡ Some s
  there = ap (λ (all : List (Connection (Tracked g.row.S.Denot))). session_in (connection_of c.args.key.now all)) next
      ∙ session_replaced c.args.key.now c.args.self.now.connections t s found

  same : (x : Tracked g.row.S.Denot) → session_in (connection_of c.args.key.now c.step_session.new.connections) ≡ Some x → x ≡ s
  same x e = same_Some x s (sym e ∙ there)

pub step_session-requires-clause-enters : goal.step_session-requires-clause-enters
step_session-requires-clause-enters g c = λ x e.
    let (t, p) = c.requires.plan in
    let side = c.args.way.now.side in
    let d = c.args.segment.now.datagram.now in
    let found = ap (λ (k : ConnKey). session_in (connection_of k c.args.self.now.connections)) c.requires.on.key ∙ p.found in
    subst (λ (y : Tracked g.row.S.Denot). Enters g.S.Session.rules side d y c.deref.result.now c.replace.result.items) (same_Some t x (sym found ∙ e))
    (enters_by g.S.Session.rules (world_in c.args.self.now) side d t c.args.plan c.deref.result.now c.replace.result.items p c.deref.ensures.value
    (ap (λ v. v.items) c.replace.ensures.value))

pub returns-in_err-stepped : goal.returns-in_err-stepped
returns-in_err-stepped g c =
    let (t, p) = c.requires.plan in
    let side = c.args.way.now.side in
    let d = c.args.segment.now.datagram.now in
    let live = world_in c.args.self.now in
    let found = ap (λ (k : ConnKey). session_in (connection_of k c.args.self.now.connections)) c.requires.on.key ∙ p.found in
    lost_done g.S.Session.rules g.S.Engine.gives live side d c.from_residual.result _ c.step_session.new.outbox c.from_residual.ensures.0 (
    let lost = c.in_err-stepped.ensures.lost t found in
    lost_in_session g.S.Session.rules g.S.Engine.gives live side d t _ c.step_session.new.outbox p.found p.refusal lost.wants (sym p.units.passes)
    (λ keeps. ap (λ (x : List (Connection (Tracked g.row.S.Denot))). world_of c.args.self.now.clock.0 c.args.self.now.table x c.args.self.now.pending)
    (lost.same keeps)) lost.nothing)

pub use_segment-requires-clause-client : goal.use_segment-requires-clause-client
use_segment-requires-clause-client g c = λ x e.
    let w = (goal.at.use_segment-requires-clause-client g c).In_ok-stepped in
    still_within g.S.Session.rules c.requires.on.laws.lists (world_in c.args.self.now) (side g w) (d g w) (t g w) x Client c.args.plan.client
    (same g w x e) c.requires.plan.1.client

pub use_segment-requires-clause-server : goal.use_segment-requires-clause-server
use_segment-requires-clause-server g c = λ x e.
    let w = (goal.at.use_segment-requires-clause-server g c).In_ok-stepped in
    still_within g.S.Session.rules c.requires.on.laws.lists (world_in c.args.self.now) (side g w) (d g w) (t g w) x Server c.args.plan.server
    (same g w x e) c.requires.plan.1.server

pub note-requires-clause-room : goal.note-requires-clause-room
note-requires-clause-room g c = λ h.
    let w = (goal.at.note-requires-clause-room g c).In_ok-stepped in
    let a = at_place c.args.key.now c.args.self.now.connections (t g w) (found g w) in
    let no : None ≡ Some a.place = sym h ∙ ap (place_of c.args.key.now) (next g w)
    ∙ place_replaced c.args.key.now c.args.self.now.connections (t g w) (s g w) (found g w) ∙ a.stands in
    absurd cc

pub use_segment-requires-in-None-clause-client : goal.use_segment-requires-in-None-clause-client
use_segment-requires-in-None-clause-client g c = λ x e.
    let w = (goal.at.use_segment-requires-in-None-clause-client g c).In_ok-stepped in
    still_within g.S.Session.rules c.requires.on.laws.lists (world_in c.args.self.now) (side g w) (d g w) (t g w) x Client c.args.plan.client
    (same g w x e) c.requires.plan.1.client

pub use_segment-requires-in-None-clause-server : goal.use_segment-requires-in-None-clause-server
use_segment-requires-in-None-clause-server g c = λ x e.
    let w = (goal.at.use_segment-requires-in-None-clause-server g c).In_ok-stepped in
    still_within g.S.Session.rules c.requires.on.laws.lists (world_in c.args.self.now) (side g w) (d g w) (t g w) x Server c.args.plan.server
    (same g w x e) c.requires.plan.1.server

pub returns-in-Some : goal.returns-in-Some
returns-in-Some g c =
    let w = (goal.at.returns-in-Some g c).In_ok-stepped in
    let (t, p) = c.requires.plan in
    let way = c.args.way.now in
    let side = way.side in
    let d = c.args.segment.now.datagram.now in
    let live = world_in c.args.self.now in
    let did = c.in_ok-stepped.ensures.stepped (image g w) t (found g w) (called g w) in
    let flags = c.flags-flags.ensures ∙ ap (λ (x : Tcp). x.flags) c.requires.on.whole.tcp_is in
    let timeout = c.timeout_of-timeout.ensures.is
    ∙ ap (λ (k : ConnKey). timeout_of c.args.self.now.connections k side c.flags-flags.result) c.requires.on.key
    ∙ ap (timeout_of c.args.self.now.connections (key_in c.args.self.now.table side d) side) flags in
    subst (λ (n : ℕ). IsGiven g.S.Session.rules g.S.Engine.gives (stream_refusal g.S.Session.rules live side d) Stream live side d
    (Cut c.in_ok-stepped.stepped.sent) (world_of c.args.self.now.clock.0 c.use_segment.new.table c.note.new.self n) c.step_session.new.outbox)
    (sym c.max-self.ensures)
    (session_goes_on g.S.Session.rules g.S.Engine.gives.tells live way d t c.in-Some.waiting c.use_segment.new.table c.note.new.self
    (given_by g.S.Engine.gives (Cut c.in_ok-stepped.stepped.sent) c.step_session.new.outbox) c.requires.on.way p.found (sym p.units.passes)
    (sym c.in-Some.is ∙ did.waits)
    (λ h. planned_used g.S.Session.rules c.requires.on.laws.lists live way d t (s g w) c.args.plan c.timeout_of-timeout.result c.use_segment.new.table
    c.requires.listed.lawful c.requires.on.way p refl (h ∙ sym timeout) (c.use_segment.ensures (s g w) (there g w)))
    (c.note.ensures.noted
    ∙ ap (λ (x : List (Connection (Tracked g.row.S.Denot))). noted x c.args.key.now side c.flags-flags.result None way.moment) (next g w)
    ∙ ap (λ (k : ConnKey). noted (replaced c.args.self.now.connections k (s g w)) k side c.flags-flags.result None way.moment) c.requires.on.key
    ∙ ap (λ (n : ℕ). noted (replaced c.args.self.now.connections (key_in c.args.self.now.table side d) (s g w))
    (key_in c.args.self.now.table side d) side n None way.moment) flags)
    did.gone)

pub returns : goal.returns
returns g c =
    let w = (goal.at.returns g c).In_ok-stepped in
    let (t, p) = c.requires.plan in
    let way = c.args.way.now in
    let side = way.side in
    let d = c.args.segment.now.datagram.now in
    let live = world_in c.args.self.now in
    let did = c.in_ok-stepped.ensures.stepped (image g w) t (found g w) (called g w) in
    session_is_over g.S.Session.rules g.S.Engine.gives.tells live way d t c.use_segment-in-None.new.table c.remove.new.self
    (given_by g.S.Engine.gives (Cut c.in_ok-stepped.stepped.sent) c.step_session.new.outbox) c.requires.on.way p.found (sym p.units.passes)
    (sym c.in-None.is ∙ did.waits)
    (λ h. planned_used g.S.Session.rules c.requires.on.laws.lists live way d t (s g w) c.args.plan SHORT_TIMEOUT c.use_segment-in-None.new.table
    c.requires.listed.lawful c.requires.on.way p refl h (c.use_segment-in-None.ensures (s g w) (there g w)))
    (c.remove.ensures
    ∙ ap (λ (x : List (Connection (Tracked g.row.S.Denot))). without x c.args.key.now) (next g w)
    ∙ ap (λ (k : ConnKey). without (replaced c.args.self.now.connections k (s g w)) k) c.requires.on.key)
    did.gone
