use Rattle.std.proofs.Common.{◌≡◌, ◌≤◌, List, length, refl, ap, subst, sym, ◌∙◌, Option, None}
use Rattle.std.proofs.lemmas.Result.{on_err_weaker}
use Rattle.gate_base.specs.declared.address.Addr.{Addr}
use Rattle.gate_base.specs.declared.event.Pair.{Pair}
use Rattle.gate_base.specs.declared.host.Host.{Host}
use Rattle.gate_base.specs.declared.host.Host.TheVariants.{Client, Server}
use Rattle.dialogue.specs.Prelude.{Entry, AreImages}
use Rattle.dns_stream.specs.Prelude.{dns_units}
use Rattle.stream_model.specs.Prelude.{Segment}
use Rattle.gate_model.specs.Prelude.{segment_of, sent_as}
use Rattle.gate_sessions.specs.Compact.{CompactSession, compact_rules}
use Rattle.dns_plans.specs.Prelude.{entered_all}
use Rattle.gate_sessions.specs.Inside.Directions.{DnsKept, dns_session, listed_of}
use Rattle.gate_sessions.specs.Sessions.{KeptMayWant}
use Rattle.gate_sessions.specs.Inside.Sessions.{session_of, IsOfPair, IsSession}
use Rattle.gate_sessions.specs.declared.kinds.SessionKind.{SessionKind}
use Rattle.gate_sessions.proofs.Stepped.{side_of, AreNamed, next_seen, out_seen, units_stay, ftp_session, lines_stay, may_want}
use Rattle.gate_sessions.proofs.session.AnySession.step.Goals as goal

pub invariant_of-self : goal.invariant_of-self
invariant_of-self c =
    let pair = c.self.inside.pair in
    let f = c.args.passing.now.from in
    let g : Segment = segment_of c.args.passing.now.segment.now.datagram.now in
    let seen : ftp_session pair c.in-Lines.session.kept ≡ c.args.self.now = ap (session_of pair) (sym c.in-Lines.is) ∙ c.self.view_is in
    let holds = subst (λ (x : SessionKind). IsOfPair pair x × IsSession (session_of pair x)) c.in-Lines.is c.self.invariant in
    let v : compact_rules.refusal f (ftp_session pair c.in-Lines.session.kept) g ≡ None =
    subst (λ (k : CompactSession). compact_rules.refusal f k g ≡ None) (sym seen) c.requires.passes in
    lines_stay c.put_segments.result pair c.in-Lines.session c.put_segments.new.session f g holds.0 holds.1 v c.put_segments.ensures.next
    c.put_segments.ensures.same

pub step_units-requires-clause-stream : goal.step_units-requires-clause-stream
step_units-requires-clause-stream c =
    let pair = c.self.inside.pair in
    let d : DnsKept = c.in-Units.session in
    let seen : session_of pair c.self.inside.kind ≡ dns_session pair d = ap (session_of pair) c.in-Units.is in
    side_of pair d c.args.passing.now.from (subst IsSession seen c.self.invariant.1)

pub step_units-requires-clause-images : goal.step_units-requires-clause-images
step_units-requires-clause-images c =
    let pair = c.self.inside.pair in
    let f = c.args.passing.now.from in
    let entries : List Entry = c.args.completed.entries.now in
    let d : DnsKept = c.in-Units.session in
    let seen : session_of pair c.self.inside.kind ≡ dns_session pair d = ap (session_of pair) c.in-Units.is in
    let back : c.args.self.now ≡ dns_session pair d = sym c.self.view_is ∙ seen in
    subst (λ (xs : List Entry). AreImages (dns_units (entered_all xs entries)) c.args.completed.images.items)
    (ap (compact_rules.listed f) back ∙ listed_in f pair d) c.requires.images
  where
    listed_in : (f : Host) (pair : Pair) (d : DnsKept) → compact_rules.listed f (dns_session pair d) ≡ listed_of f d
    listed_in Client pair d = refl
    listed_in Server pair d = refl

pub invariant_of-self-in-Units : goal.invariant_of-self-in-Units
invariant_of-self-in-Units c =
    let pair = c.self.inside.pair in
    let f = c.args.passing.now.from in
    let g : Segment = segment_of c.args.passing.now.segment.now.datagram.now in
    let entries : List Entry = c.args.completed.entries.now in
    let d : DnsKept = c.in-Units.session in
    let seen : session_of pair c.self.inside.kind ≡ dns_session pair d = ap (session_of pair) c.in-Units.is in
    let back : c.args.self.now ≡ dns_session pair d = sym c.self.view_is ∙ seen in
    let v : compact_rules.refusal f (dns_session pair d) g ≡ None =
    subst (λ (k : CompactSession). compact_rules.refusal f k g ≡ None) back c.requires.passes in
    let named = subst (λ (k : CompactSession). (image : Addr → Option Addr) × AreNamed image f k g entries) back c.requires.named in
    let few : length (entered_all (compact_rules.listed f (dns_session pair d)) entries) ≤ 256 =
    subst (λ (k : CompactSession). length (entered_all (compact_rules.listed f k) entries) ≤ 256) back c.requires.few in (
      tt,
      units_stay c.step_units.result pair d c.step_units.new.session f g entries
          (subst IsSession seen c.self.invariant.1) v named few c.step_units.ensures.next c.step_units.ensures.same,
    )

pub returns-in-Units-clause-next : goal.returns-in-Units-clause-next
returns-in-Units-clause-next c = λ image e.
    let pair = c.self.inside.pair in
    let d : DnsKept = c.in-Units.session in
    let seen : dns_session pair d ≡ c.args.self.now = ap (session_of pair) (sym c.in-Units.is) ∙ c.self.view_is in
    next_seen c.step_units.result image pair d c.step_units.new.session c.args.self.now c.args.passing.now.from
    (segment_of c.args.passing.now.segment.now.datagram.now) c.args.completed.entries.now seen e c.step_units.ensures.next

pub returns-in-Units-clause-out : goal.returns-in-Units-clause-out
returns-in-Units-clause-out c = λ image e.
    let pair = c.self.inside.pair in
    let passing = c.args.passing.now in
    let d : DnsKept = c.in-Units.session in
    let seen : dns_session pair d ≡ c.args.self.now = ap (session_of pair) (sym c.in-Units.is) ∙ c.self.view_is in
    out_seen c.step_units.result image pair d c.args.self.now c.args.passing.now.from
    (segment_of c.args.passing.now.segment.now.datagram.now) c.args.completed.entries.now
    (sent_as passing.segment.now.datagram.now passing.source.0 passing.destination.0) c.step_units.new.outbox seen e c.step_units.ensures.out

pub returns-in-Units-clause-memory : goal.returns-in-Units-clause-memory
returns-in-Units-clause-memory c =
    let pair = c.self.inside.pair in
    let f = c.args.passing.now.from in
    let g : Segment = segment_of c.args.passing.now.segment.now.datagram.now in
    let d : DnsKept = c.in-Units.session in
    let seen : session_of pair c.self.inside.kind ≡ dns_session pair d = ap (session_of pair) c.in-Units.is in
    on_err_weaker c.step_units.result
    (λ m. subst (λ (k : CompactSession). KeptMayWant f k g) (sym seen ∙ c.self.view_is)
    (may_want pair d f g c.args.completed.entries.now (subst IsSession seen c.self.invariant.1) m))
    c.step_units.ensures.memory
